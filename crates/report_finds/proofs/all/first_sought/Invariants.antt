use Rattle.std.proofs.Common.{take}
use Rattle.std.specs.Prelude.{All}
use Rattle.search_finds.specs.Finds.{IsLookedFor}
use Rattle.report_finds.proofs.all.first_sought.Given as goal

abbrev pub invariant-loop-place : goal.invariant-loop-place
invariant-loop-place l = All (λ e. IsLookedFor l.sought e → ⊥) (take l.place l.endings)
