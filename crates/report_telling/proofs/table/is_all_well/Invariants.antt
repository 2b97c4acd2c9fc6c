use Rattle.std.proofs.Common.{ℕ, ◌≡◌, ◌<◌, true, get_or}
use Rattle.search_finds.specs.declared.met.Met.{Met}
use Rattle.search_finds.specs.Finds.{IsLookedFor}
use Rattle.report_telling.specs.Complete.{threads_end_well}
use Rattle.report_telling.proofs.table.is_all_well.Given as goal

abbrev pub invariant-loop-met : goal.invariant-loop-met
invariant-loop-met l = (k : ℕ) → k < l.met-index → (d : Met)
    → (threads_end_well (get_or l.drawn.table.now.met.items k d).ending ≡ true) × (IsLookedFor l.sought (get_or l.drawn.table.now.met.items k d).ending → ⊥)
