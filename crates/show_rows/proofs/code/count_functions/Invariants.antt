use Rattle.std.proofs.Common.{◌≡◌, ◌-◌, ◌^◌, min, take}
use Rattle.std.specs.Prelude.{count_by}
use Rattle.show_rows.specs.Spots.{is_function_import}
use Rattle.show_rows.proofs.code.count_functions.Given as goal

abbrev pub invariant-loop-import : goal.invariant-loop-import
invariant-loop-import l = l.count ≡ min (count_by is_function_import (take l.import-index l.imports)) (2 ^ 32 - 1)
