-- What calls enter: the list goes on from call to call, and through the meetings round them.
use Rattle.std.proofs.Common.{◌≡◌, ℕ, Bool, true, List, [], ◌∷◌, ◌++◌, Option, Some, refl, sym, ◌∙◌, ap, subst, inl, inr, append_assoc, append-nil}
use Rattle.std.specs.Prelude.{Result, Ok, Err, IfOk, OnErr}
use Rattle.std.proofs.lemmas.List.{append_cancel_left}
use mathlib.Core.List.{IsPrefix}
use Rattle.types.specs.declared.event.Entry.{Entry}
use Rattle.types.specs.declared.event.Event.TheVariants.{Ask}
use Rattle.types.specs.declared.event.Question.{Question}
use Rattle.types.specs.declared.event.Answer.{Answer}
use Rattle.types.specs.declared.event.Question.TheVariants.{Wait, Notify, Spawn, Leave}
use Rattle.types.specs.declared.event.Reply.{Reply}
use Rattle.types.specs.declared.event.Reply.TheVariants.{Value, Done, OutOfBounds}
use Rattle.types.specs.declared.limits.TheConstants.{DESK_NAME}
use Rattle.shared_memory.specs.Memory.{Memory}
use Rattle.shared_memory.specs.WaitQueue.{WaitQueue, answer_due, after_answer, IsFree}
use Rattle.shared_memory.specs.History.{entries_of, queue_after}
use Rattle.shared_memory.specs.Legal.{IsQueueLegal}
use Rattle.shared_memory.specs.Access.{HasRoom, Meets}
use Rattle.shared_memory.specs.Sound.{IsSound}
use Rattle.shared_memory.proofs.Histories.{entries_of-append, same_queue, same_queue_legal}
use Rattle.shared_memory.proofs.Soundness.{IsSound-after}
use Rattle.shared_memory.proofs.Standing.{alive_prefix, free_prefix, open_prefix}
use Rattle.waiters_desk.specs.declared.answers.Full.{Full}
use Rattle.waiters_desk.specs.declared.answers.Asked.{Asked}
use Rattle.waiters_desk.specs.declared.answers.Asked.TheVariants as asked
use Rattle.waiters_desk.specs.Calls.{IsBeside, IsWaiting, EntersAtDesk, FindsRoom, Misses, Hears, Sleeps, Leaves, Collects, Refused, Puts, asked_with, taken}
use Rattle.waiters_desk.proofs.Prefixes.{prefix_same, prefix_both}
use Rattle.waiters_desk.proofs.AtOnce.{free_heard}

-- a queue beside a list

pub beside_from : (q : WaitQueue) (seen : List Entry) → q ≡ queue_after seen → IsQueueLegal seen → IsBeside q seen
beside_from q seen tied legal = record { tied = tied; legal = legal }

pub sound_beside : (q : WaitQueue) (seen : List Entry) → IsBeside q seen → IsSound q
sound_beside q seen beside = subst IsSound (sym beside.tied) (IsSound-after seen beside.legal)

-- one call after another
pub enters_then : (opening : Memory) (n : ℕ) (own more before middle after : List Entry)
    → EntersAtDesk opening n own before middle → EntersAtDesk opening n more middle after
    → EntersAtDesk opening n (own ++ more) before after
enters_then opening n own more before middle after e f = record {
  added = e.added ++ f.added;
  list = f.list ∙ (ap (λ w. w ++ f.added) e.list ∙ append_assoc before e.added f.added);
  of_caller = entries_of-append n e.added f.added ∙ (ap (λ w. w ++ entries_of n f.added) e.of_caller ∙ ap (λ w. own ++ w) f.of_caller);
  seen = f.seen;
  legal = f.legal;
}

pub enters_prefix : (opening : Memory) (n : ℕ) (own before after : List Entry) → EntersAtDesk opening n own before after → IsPrefix before after
enters_prefix opening n own before after e = (e.added, sym e.list)

-- the first meeting, by which the caller has the queue right
module _ (opening : Memory) (n m : ℕ) (right right' : Bool) (mine desks both : List Entry) (q : WaitQueue)
    (met : Meets opening n m right right' mine desks both) (has : right' ≡ true) (beside : IsBeside q desks) where
  pub met_beside : IsBeside q both
  met_beside = record { tied = beside.tied ∙ sym (same_queue both desks (met.quiet_b has)); legal = same_queue_legal both desks (met.quiet_b has) beside.legal }

  none_of_caller : entries_of n met.begins_a.0 ≡ []
  none_of_caller =
      append_cancel_left (entries_of n mine) (entries_of n met.begins_a.0) []
      (sym (entries_of-append n mine met.begins_a.0) ∙ (ap (entries_of n) met.begins_a.1 ∙ (met.own_a ∙ sym (append-nil (entries_of n mine)))))

  pub met_enters : EntersAtDesk opening n [] mine both
  met_enters = record { added = met.begins_a.0; list = sym met.begins_a.1; of_caller = none_of_caller; seen = met.seen; legal = met_beside.legal }

  -- who is free by its own list is free
  pub met_free : IsFree (queue_after mine) n → IsFree q n
  met_free free = subst (λ (w : WaitQueue). IsFree w n) (sym met_beside.tied) (free_prefix n mine both met.begins_a met.own_a met_beside.legal free)

  -- and who waits by its own list waits
  pub met_waiting : IsWaiting (queue_after mine) n → IsWaiting q n
  met_waiting waiting =
      subst (λ (w : WaitQueue). IsWaiting w n) (sym met_beside.tied) (record {
        alive = alive_prefix n mine both met.begins_a met.own_a met_beside.legal waiting.alive;
        asked = open_prefix n mine both met.begins_a met.own_a met_beside.legal waiting.asked;
      })

-- the last meeting gives the desk's seat the caller's list
pub met_last : (opening : Memory) (n m : ℕ) (right right' : Bool) (after both all : List Entry)
    → Meets opening n m right right' after both all → IsPrefix both after → all ≡ after
met_last opening n m right right' after both all met p =
    elim met.longer [ inl e ↦ e | inr e ↦ prefix_both all after (subst (λ (w : List Entry). IsPrefix w after) (sym e) p) met.begins_a ]

-- the desk's own name enters nothing
pub met_silent : (opening : Memory) (n m : ℕ) (right right' : Bool) (mine desks both : List Entry)
    → Meets opening n m right right' mine desks both → m ≡ DESK_NAME → entries_of DESK_NAME desks ≡ []
    → entries_of DESK_NAME both ≡ []
met_silent opening n m right right' mine desks both met named silent =
    subst (λ (k : ℕ). entries_of k both ≡ entries_of k desks) named met.own_b ∙ silent

-- room for a question, told from an earlier list
pub room_from : (opening : Memory) (limit : Option ℕ) (n : ℕ) (question : Question) (reply : Reply)
    (mine both after : List Entry) → EntersAtDesk opening n [] mine both
    → FindsRoom limit n question reply both after → FindsRoom limit n question reply mine after
room_from opening limit n question reply mine both after first found =
    let same : both ++ found.others ≡ mine ++ (first.added ++ found.others) = ap (λ w. w ++ found.others) first.list
    ∙ append_assoc mine first.added found.others in record {
      others = first.added ++ found.others;
      rest = found.rest;
      list = found.list ∙ ap (λ w. w ++ asked_with n question reply ∷ found.rest) same;
      apart = entries_of-append n first.added found.others ∙ (ap (λ w. w ++ entries_of n found.others) first.of_caller ∙ found.apart);
      room = subst (HasRoom limit (Ask question)) same found.room;
    }

-- and to a later one
pub room_then : (opening : Memory) (limit : Option ℕ) (n : ℕ) (question : Question) (reply : Reply)
    (own before middle after : List Entry) → EntersAtDesk opening n own middle after
    → FindsRoom limit n question reply before middle → FindsRoom limit n question reply before after
room_then opening limit n question reply own before middle after more found = record {
  others = found.others;
  rest = found.rest ++ more.added;
  list = more.list ∙ (ap (λ w. w ++ more.added) found.list ∙ append_assoc (before ++ found.others) (asked_with n question reply ∷ found.rest) more.added);
  apart = found.apart;
  room = found.room;
}

-- what a call did, told from the list before the meeting
module _ (opening : Memory) (limit : Option ℕ) (n : ℕ) (mine both after : List Entry) (first : EntersAtDesk opening n [] mine both) where
  misses_from : (question : Question) → Misses opening limit n question both after → Misses opening limit n question mine after
  misses_from question did = record {
    enters = enters_then opening n [] _ mine both after first did.enters;
    room = room_from opening limit n question OutOfBounds mine both after first did.room;
    free = did.free;
  }

  hears_from : (question : Question) (reply : Reply) (number : ℕ)
      → Hears opening limit n question reply number both after → Hears opening limit n question reply number mine after
  hears_from question reply number did = record {
    enters = enters_then opening n [] _ mine both after first did.enters;
    room = room_from opening limit n question reply mine both after first did.room;
    free = did.free;
  }

  sleeps_from : (question : Question) (reply : Reply) → Sleeps opening limit n question reply both after → Sleeps opening limit n question reply mine after
  sleeps_from question reply did = record {
    enters = enters_then opening n [] _ mine both after first did.enters;
    room = room_from opening limit n question reply mine both after first did.room;
    waiting = did.waiting;
  }

  leaves_from : Leaves opening limit n both after → Leaves opening limit n mine after
  leaves_from did = record {
    enters = enters_then opening n [] _ mine both after first did.enters;
    room = room_from opening limit n Leave Done mine both after first did.room;
    gone = did.gone;
  }

  pub refused_from : Refused opening limit n both after → Refused opening limit n mine after
  refused_from did = record { enters = enters_then opening n [] [] mine both after first did.enters; free = did.free; reached = did.reached }

  pub puts_from : (question : Question) (got : Asked) → Puts opening limit n question both after got → Puts opening limit n question mine after got
  puts_from (Wait addr width expected timeout) asked.OutOfBounds did = misses_from (Wait addr width expected timeout) did
  puts_from (Wait addr width expected timeout) (asked.Told number) did =
      (did.0, hears_from (Wait addr width expected timeout) (Value did.0) number did.1, did.2)
  puts_from (Wait addr width expected timeout) asked.Asleep did = (sleeps_from (Wait addr width expected timeout) (Value expected) did.0, did.1)
  puts_from (Notify addr count) asked.OutOfBounds did = misses_from (Notify addr count) did
  puts_from (Notify addr count) (asked.Told number) did = hears_from (Notify addr count) Done number did
  puts_from (Notify addr count) asked.Asleep did = did
  puts_from (Spawn arg) asked.OutOfBounds did = did
  puts_from (Spawn arg) (asked.Told number) did = hears_from (Spawn arg) Done number did
  puts_from (Spawn arg) asked.Asleep did = did
  puts_from Leave asked.OutOfBounds did = did
  puts_from Leave (asked.Told number) did = leaves_from did
  puts_from Leave asked.Asleep did = did

-- the list after a call begins with the list before
pub puts_prefix : (opening : Memory) (limit : Option ℕ) (n : ℕ) (before after : List Entry) (question : Question)
    (got : Asked) → Puts opening limit n question before after got → IsPrefix before after
puts_prefix opening limit n before after (Wait addr width expected timeout) asked.OutOfBounds did = enters_prefix opening n _ before after did.enters
puts_prefix opening limit n before after (Wait addr width expected timeout) (asked.Told number) did = enters_prefix opening n _ before after did.1.enters
puts_prefix opening limit n before after (Wait addr width expected timeout) asked.Asleep did = enters_prefix opening n _ before after did.0.enters
puts_prefix opening limit n before after (Notify addr count) asked.OutOfBounds did = enters_prefix opening n _ before after did.enters
puts_prefix opening limit n before after (Notify addr count) (asked.Told number) did = enters_prefix opening n _ before after did.enters
puts_prefix opening limit n before after (Notify addr count) asked.Asleep did = absurd did
puts_prefix opening limit n before after (Spawn arg) asked.OutOfBounds did = absurd did
puts_prefix opening limit n before after (Spawn arg) (asked.Told number) did = enters_prefix opening n _ before after did.enters
puts_prefix opening limit n before after (Spawn arg) asked.Asleep did = absurd did
puts_prefix opening limit n before after Leave asked.OutOfBounds did = absurd did
puts_prefix opening limit n before after Leave (asked.Told number) did = enters_prefix opening n _ before after did.enters
puts_prefix opening limit n before after Leave asked.Asleep did = absurd did

-- a call between two meetings, of which the first gave the caller the queue right
module _ (opening : Memory) (n m p : ℕ) (right right' right2 right3 : Bool) (mine desks both after all : List Entry) (q r : WaitQueue)
    (met : Meets opening n m right right' mine desks both) (has : right' ≡ true) (beside : IsBeside q desks)
    (next : IsBeside r after) (last : Meets opening n p right2 right3 after both all) where
  module _ (begins : IsPrefix both after) where
    all_is : all ≡ after
    all_is = met_last opening n p right2 right3 after both all last begins

    pub call_beside : IsBeside r all
    call_beside = subst (λ (l : List Entry). IsBeside r l) (sym all_is) next

  abbrev first : EntersAtDesk opening n [] mine both
  first = met_enters opening n m right right' mine desks both q met has beside

  module _ (limit : Option ℕ) (question : Question) (got : Asked) (did : Puts opening limit n question both after got) where
    pub put_beside : IsBeside r all
    put_beside = call_beside (puts_prefix opening limit n both after question got did)

    pub put_did : Puts opening limit n question mine all got
    put_did =
        subst (λ (l : List Entry). Puts opening limit n question mine l got) (sym (all_is (puts_prefix opening limit n both after question got did)))
        (puts_from opening limit n mine both after first question got did)

  module _ (limit : Option ℕ) (did : Refused opening limit n both after) where
    pub refused_beside : IsBeside r all
    refused_beside = call_beside (enters_prefix opening n [] both after did.enters)

    pub refused_did : Refused opening limit n mine all
    refused_did =
        subst (λ (l : List Entry). Refused opening limit n mine l)
        (sym (all_is (enters_prefix opening n [] both after did.enters)))
        (refused_from opening limit n mine both after first did)

  module _ (answer : Answer) (waiting : IsWaiting (queue_after mine) n) (due : answer_due q n ≡ Some answer) (took : r ≡ after_answer q n)
      (did : EntersAtDesk opening n (taken n answer ∷ []) both after) where
    pub collect_beside : IsBeside r all
    collect_beside = call_beside (enters_prefix opening n (taken n answer ∷ []) both after did)

    free : IsFree (queue_after after) n
    free =
        let waits : IsWaiting q n = met_waiting opening n m right right' mine desks both q met has beside waiting in
        subst (λ (w : WaitQueue). IsFree w n) (sym took ∙ next.tied) (free_heard q n answer due (sound_beside q desks beside) waits.alive)

    pub collect_did : Collects opening n answer mine all
    collect_did =
        let told : Collects opening n answer mine after =
        record { enters = enters_then opening n [] (taken n answer ∷ []) mine both after first did; free = free } in
        subst (λ (l : List Entry). Collects opening n answer mine l) (sym (all_is (enters_prefix opening n (taken n answer ∷ []) both after did))) told

-- two meetings and no call between them
module _ (opening : Memory) (n m p : ℕ) (right right' right2 right3 : Bool) (mine desks both all : List Entry) (q : WaitQueue)
    (met : Meets opening n m right right' mine desks both) (has : right' ≡ true) (beside : IsBeside q desks)
    (last : Meets opening n p right2 right3 both both all) where
  same : all ≡ both
  same = met_last opening n p right2 right3 both both all last (prefix_same both both refl)

  pub twice_beside : IsBeside q all
  twice_beside = subst (λ (l : List Entry). IsBeside q l) (sym same) (met_beside opening n m right right' mine desks both q met has beside)

  pub twice_enters : EntersAtDesk opening n [] mine all
  twice_enters = subst (λ (l : List Entry). EntersAtDesk opening n [] mine l) (sym same) (met_enters opening n m right right' mine desks both q met has beside)

  pub twice_none : entries_of n mine ≡ [] → entries_of n all ≡ []
  twice_none none = ap (entries_of n) same ∙ (met.own_a ∙ none)

-- a question, whether it was asked or refused
module _ (opening : Memory) (n m p : ℕ) (right right' right2 right3 : Bool) (mine desks both after all : List Entry)
    (q r : WaitQueue) (question : Question) (limit : Option ℕ)
    (met : Meets opening n m right right' mine desks both) (has : right' ≡ true) (beside : IsBeside q desks)
    (next : IsBeside r after) (last : Meets opening n p right2 right3 after both all) where
  pub put_result_beside : (o : Result Asked Full) → IfOk o (λ got. Puts opening limit n question both after got)
      → OnErr o (Refused opening limit n both after) → IsBeside r all
  put_result_beside (Ok got) did full = put_beside opening n m p right right' right2 right3 mine desks both after all q r
      met has beside next last limit question got did
  put_result_beside (Err fault) did full = refused_beside opening n m p right right' right2 right3 mine desks both after
      all q r met has beside next last limit full

  pub put_result_did : (o : Result Asked Full) → IfOk o (λ got. Puts opening limit n question both after got)
      → IfOk o (λ got. Puts opening limit n question mine all got)
  put_result_did (Ok got) did = put_did opening n m p right right' right2 right3 mine desks both after all q r met has beside next last limit question got did
  put_result_did (Err fault) did = did

  pub put_result_full : (o : Result Asked Full) → OnErr o (Refused opening limit n both after) → OnErr o (Refused opening limit n mine all)
  put_result_full (Ok got) full = full
  put_result_full (Err fault) full = refused_did opening n m p right right' right2 right3 mine desks both after all q r met has beside next last limit full
