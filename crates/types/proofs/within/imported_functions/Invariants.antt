use Rattle.std.proofs.Common.{◌≡◌, ◌≤◌, take}
use Rattle.std.specs.List.{count_by}
use Rattle.types.specs.Within.{is_func}
use Rattle.types.proofs.within.imported_functions.Given as goal

abbrev pub invariant-loop-import : goal.invariant-loop-import
invariant-loop-import l = (l.count ≤ l.import-index) × (l.count ≡ count_by (λ i. is_func i.desc) (take l.import-index l.imports))
