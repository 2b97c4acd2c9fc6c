use Rattle.std.proofs.Common.{ℕ, ◌*◌, ◌^◌, ◌<◌, sym, subst}
use Rattle.shared_memory.specs.Events.{IsEvent}
use Rattle.types.specs.declared.event.Event.TheVariants.{Rmw}
use Rattle.shared_memory_sequential.proofs.Lanes.{lane_of-fits}
use Rattle.word_row.proofs.Settling.{atomic_in_word}
use Rattle.word_row.proofs.Combined.{combined-fits}
use Rattle.word_row.proofs.changes.by_word.Goals as goal

pub replace-requires-in-Rmw-clause-fits : goal.replace-requires-in-Rmw-clause-fits
replace-requires-in-Rmw-clause-fits c =
    let r = c.in-Rmw in
    let is : IsEvent (Rmw r.op r.addr r.width r.value) = subst IsEvent r.is c.requires.event in
    let lies = atomic_in_word r.addr r.width is.0 in
    let loaded = subst (λ (n : ℕ). n < 2 ^ (8 * r.width)) (sym c.lane-loaded.ensures) (lane_of-fits c.args.word r.addr r.width lies.one_word) in
    subst (λ (n : ℕ). n < 2 ^ (8 * r.width)) (sym c.combine-value.ensures) (combined-fits r.op r.width c.lane-loaded.result r.value loaded is.1)
