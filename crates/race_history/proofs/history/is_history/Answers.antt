use Rattle.std.proofs.Common.{◌∙◌, ◌<◌, length, take, get_or, subst, sym, ap, arith, true≢false}
use Rattle.types.specs.declared.event.Entry.{Entry}
use Rattle.types.specs.declared.event.Event.TheVariants.{Size}
use Rattle.types.specs.declared.event.Reply.TheVariants.{Value}
use Rattle.shared_memory.specs.WaitQueue.{WaitQueue}
use Rattle.shared_memory.specs.History.{IsEntry, queue_after, queue_step}
use Rattle.shared_memory.specs.Legal.{IsAllowed, IsQueueLegal}
use Rattle.std.proofs.lemmas.List.Elements.{All-more}
use Rattle.race_history.proofs.Lists.{IsAt-get}
use Rattle.race_history.proofs.Legal.{legal_more, legal_none}
use Rattle.race_history.proofs.Starting.{allowed_here, one_more, queue_next, queue_none}
use Rattle.race_history.proofs.history.is_history.Goals as goal
use Rattle.race_history.proofs.history.is_history.Goals.{then-not-is_entry-via-then-not-is_entry, then-not-is_entry-via-else-not-is_entry+then-not-is_allowed}

abbrev first : Entry
first = record { thread = 0; event = Size; reply = Value 0 }

pub loop-entry-init : goal.loop-entry-init
loop-entry-init c = record {
  queue = c.new-queue.ensures ∙ sym (queue_none c.args.log.now);
  entries = λ k d lt. absurd (omega arith);
  legal = legal_none;
}

pub returns-then-not-is_entry : goal.returns-then-not-is_entry
returns-then-not-is_entry c =
    let log = c.args.log.now in
    let i = c.loop-entry.entry-index in
    let e = get_or log i first in
    let within : i < length log = omega arith in (
      λ is. absurd (true≢false (sym is)),
      λ both. elim c.then-not-is_entry.branch [
        | then-not-is_entry-via-then-not-is_entry w ↦ sym w.if-not-is_entry.true ∙ c.is_entry.ensures.1 (both.0 i first within)
        | then-not-is_entry-via-else-not-is_entry+then-not-is_allowed w ↦
            sym w.if-not-is_allowed.true
            ∙ w.is_allowed.ensures.1 (subst (λ (q : WaitQueue). IsAllowed q e.thread e.event) (sym c.loop-entry.invariant.queue)
            (allowed_here log i e (IsAt-get log i first within) both.1))
      ],
    )

pub loop-entry-preserved : goal.loop-entry-preserved
loop-entry-preserved c =
    let log = c.args.log.now in
    let i = c.loop-entry.entry-index in
    let e = get_or log i first in
    let old = c.loop-entry.invariant in
    let within : i < length log = omega arith in
    let at = IsAt-get log i first within in
    let allowed : IsAllowed (queue_after (take i log)) e.thread e.event =
    subst (λ (q : WaitQueue). IsAllowed q e.thread e.event) old.queue (c.is_allowed.ensures.0 c.if-not-is_allowed.false) in
    record {
      queue = c.enter.ensures ∙ (ap (λ (q : WaitQueue). queue_step q e.thread e.event e.reply) old.queue ∙ sym (queue_next log i e at));
      entries = All-more IsEntry log i first within old.entries (c.is_entry.ensures.0 c.if-not-is_entry.false);
      legal = subst IsQueueLegal (sym (one_more log i e at)) (legal_more (take i log) e.thread e.event e.reply old.legal allowed);
    }
