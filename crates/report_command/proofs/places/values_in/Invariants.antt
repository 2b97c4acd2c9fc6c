use Rattle.std.proofs.Common.{take}
use Rattle.std.specs.List.{AllZip}
use Rattle.report_command.proofs.places.values_in.Given as goal

abbrev pub invariant-loop-at : goal.invariant-loop-at
invariant-loop-at g l = AllZip (λ text v. g.R.ValueReader.reads text.now v) (take l.at l.texts) l.values.items
