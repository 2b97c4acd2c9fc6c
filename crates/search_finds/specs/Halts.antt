-- Why no further run was made.
use Rattle.search_finds.specs.declared.finding.NumberedRun.{NumberedRun}
use Rattle.search_finds.specs.declared.finding.Halt.{Halt}
use Rattle.search_finds.specs.declared.finding.Halt.TheVariants as halts

-- Where a run was found, this holds of it.
abbrev pub IfFound : Halt → (NumberedRun → Type 0) → Type 0
IfFound (halts.Found f) P = P f
IfFound halts.AllMade P = Unit {0}
IfFound halts.Told P = Unit {0}
