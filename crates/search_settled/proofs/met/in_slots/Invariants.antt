use Rattle.search_settled.specs.Known.{HasNoOther}
use Rattle.search_settled.proofs.met.in_slots.Given as goal

abbrev pub invariant-loop-at : goal.invariant-loop-at
invariant-loop-at l = HasNoOther l.known l.more.items
