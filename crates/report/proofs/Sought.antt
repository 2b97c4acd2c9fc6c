-- A run that never ends and is known is looked for.
use Rattle.std.proofs.Common.{Option, inl, inr}
use Rattle.selection.specs.declared.sought.SearchTarget.{SearchTarget}
use Rattle.search_reach.specs.declared.liveness.Liveness.{Liveness}
use Rattle.report_finds.specs.declared.all.EndlessRun.{EndlessRun}
use Rattle.report_finds.specs.declared.all.EndlessWay.{EndlessWay}
use Rattle.report_finds.specs.declared.all.EndlessWay.TheVariants.{ToNoEnd, Round}
use Rattle.report_finds.specs.Endless.{FindsEndless, IsKnown, IsKnownSo}

known_so : (way : EndlessWay) (t : SearchTarget) (l : Liveness) (run : EndlessRun) → IsKnownSo way t l run → FindsEndless t
known_so ToNoEnd t l run known = inl known.0.0
known_so Round t l run known = inr known.2.0

pub known_is_sought : (t : SearchTarget) (o : Option Liveness) (run : EndlessRun) → IsKnown t o run → FindsEndless t
known_is_sought t o run (l, is, known) = known_so run.way t l run known
