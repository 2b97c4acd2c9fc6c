-- So many arguments have been read.
use Rattle.std.proofs.Common.{◌≡◌, map, take}
use Rattle.types.specs.Values.{type_of}
use Rattle.report_jobs.specs.Arguments.{AreSpelled}
use Rattle.report_jobs.proofs.args.read_args.Given as goal

abbrev pub invariant-loop-i : goal.invariant-loop-i
invariant-loop-i l = AreSpelled (map (λ text. text.now) (take l.i l.texts)) l.args.items × (map type_of l.args.items ≡ take l.i l.params)
