use Rattle.std.proofs.Common.{◌≡◌, ◌∙◌, ◌<◌, ◌+◌, ℕ, List, length, map, take, get_or, subst, sym, ap, arith}
use Rattle.std.specs.Global.{Vec}
use Rattle.std.specs.List.{Contains}
use Rattle.types.specs.declared.event.Entry.{Entry}
use Rattle.types.specs.declared.event.Event.TheVariants.{Size}
use Rattle.types.specs.declared.event.Reply.TheVariants.{Value}
use Rattle.shared_memory.specs.WaitQueue.{WaitQueue}
use Rattle.shared_memory.specs.History.{queue_after, queue_step}
use Rattle.shared_memory.specs.Legal.{IsAllowed}
use Rattle.race_history.specs.Calls.{AreCalls, AreStarts, AreWakers, AreWoken, started}
use Rattle.race_history.proofs.Lists.{IsAt-get}
use Rattle.race_history.proofs.Clocked.{rows_push}
use Rattle.race_history.proofs.Starting.{allowed_here, few_started, queue_next, queue_none, starts_next, starts_none}
use Rattle.race_history.proofs.Waking.{noted_more, wakers_from, wakers_more, wakers_none, wakers_to, woken_none}
use Rattle.race_history.proofs.calls.find_calls.Goals as goal

abbrev first : Entry
first = record { thread = 0; event = Size; reply = Value 0 }

pub loop-place-init : goal.loop-place-init
loop-place-init c =
    let log = c.args.log.now in
    record {
      queue = c.new-queue.ensures ∙ sym (queue_none log);
      woken = subst (AreWoken log 0) (sym c.new-woken.ensures.items) (woken_none log);
      calls = record {
        starts = subst (AreStarts log 0) (sym c.new.ensures.items) (starts_none log);
        wakers =
            subst (λ l. AreWakers log 0 (map (λ (v : Vec ℕ). v.items) l)) (sym c.in_ok-with_capacity.ensures.items) (wakers_none log);
      };
    }

pub enter-requires : goal.enter-requires
enter-requires c =
    let log = c.args.log.now in
    let place = c.loop-place.place in
    let e = get_or log place first in
    let within : place < length log = omega arith in
    subst (λ (q : WaitQueue). IsAllowed q e.thread e.event) (sym c.loop-place.invariant.queue)
    (allowed_here log place e (IsAt-get log place first within) c.requires)

pub note_start-requires : goal.note_start-requires
note_start-requires c =
    let starts = c.loop-place.calls.starts in
    let few = few_started c.args.log.now c.loop-place.place starts.items c.requires c.loop-place.invariant.calls.starts in
    omega (arith, few, starts.ok.0)

pub loop-place-preserved : goal.loop-place-preserved
loop-place-preserved c =
    let log = c.args.log.now in
    let place = c.loop-place.place in
    let e = get_or log place first in
    let within : place < length log = omega arith in
    let at = IsAt-get log place first within in
    let old = c.loop-place.invariant in
    let woken = c.loop-place.woken.items in
    let starts = c.loop-place.calls.starts.items in
    let wakers = c.loop-place.calls.wakers.items in
    let here = c.in_ok-note.field-0.items in
    let queue : c.enter.new.queue ≡ queue_after (take (place + 1) log) =
    c.enter.ensures ∙ (ap (λ (q : WaitQueue). queue_step q e.thread e.event e.reply) old.queue ∙ sym (queue_next log place e at)) in
    record {
      queue = queue;
      woken =
          subst (AreWoken log (place + 1)) (sym c.in_ok-note.ensures.woken)
          (noted_more log place e at woken old.woken c.loop-place.queue.sleepers (ap (λ (q : WaitQueue). q.sleepers) old.queue));
      calls = record {
        starts =
            subst (AreStarts log (place + 1)) (sym c.in_ok-note_start.ensures)
            (subst (λ (q : WaitQueue). AreStarts log (place + 1) (started q place starts)) (sym queue)
            (starts_next log place e at starts old.calls.starts));
        wakers =
            subst (λ l. AreWakers log (place + 1) (map (λ (v : Vec ℕ). v.items) l)) (sym c.in_ok-push.ensures.items)
            (subst (AreWakers log (place + 1)) (sym (rows_push wakers c.in_ok-note.field-0))
            (wakers_more log place (map (λ (v : Vec ℕ). v.items) wakers) here old.calls.wakers
            (λ k h. wakers_from log place e at woken old.woken k (subst (λ (l : List ℕ). Contains l k) c.in_ok-note.ensures.wakers h))
            (λ k w. subst (λ (l : List ℕ). Contains l k) (sym c.in_ok-note.ensures.wakers) (wakers_to log place e at woken old.woken k w))));
      };
    }

pub returns : goal.returns
returns c =
    let all : c.loop-place.place ≡ length c.args.log.now = omega arith in
    subst (λ (n : ℕ). AreCalls c.args.log.now n c.loop-place.calls) all c.loop-place.invariant.calls
