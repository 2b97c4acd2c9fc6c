use Rattle.std.proofs.Common.{◌<◌, ◌≤◌, length, take, subst, arith}
use Rattle.std.specs.List.{All}
use Rattle.std.proofs.lemmas.List.{take_all}
use Rattle.std.proofs.lemmas.List.Elements.{All-more, All-weaker}
use Rattle.types.specs.declared.event.Entry.{Entry}
use Rattle.types.specs.declared.event.Event.TheVariants.{Size}
use Rattle.types.specs.declared.event.Reply.TheVariants.{Value}
use Rattle.race_history.proofs.clocks.count_threads.Goals as goal
use Rattle.race_history.proofs.clocks.count_threads.Goals.{then-count-thread, else-count-thread}

pub loop-entry-preserved : goal.loop-entry-preserved
loop-entry-preserved c =
    let log = c.args.log.now in
    let i = c.loop-entry.entry-index in
    let after = c.if-count-thread.count in
    let first : Entry = record { thread = 0; event = Size; reply = Value 0 } in
    let within : i < length log = omega arith in
    let grown = λ (le : c.loop-entry.count ≤ after).
    All-weaker (λ (e : Entry). e.thread < c.loop-entry.count) (λ (e : Entry). e.thread < after) (λ e lt. omega arith) (take i log)
    c.loop-entry.invariant in
    elim c.if-count-thread.branch [
      | then-count-thread w ↦
          All-more (λ (e : Entry). e.thread < after) log i first within (grown (omega (arith, w.count-is, w.if-count-thread.true)))
          (omega (arith, w.count-is))
      | else-count-thread w ↦
          All-more (λ (e : Entry). e.thread < after) log i first within (grown (omega (arith, w.count-is)))
          (omega (arith, w.count-is, w.if-count-thread.false))
    ]

pub returns : goal.returns
returns c =
    let log = c.args.log.now in
    subst (All (λ (e : Entry). e.thread < c.loop-entry.count)) (take_all c.loop-entry.entry-index log (omega arith)) c.loop-entry.invariant
