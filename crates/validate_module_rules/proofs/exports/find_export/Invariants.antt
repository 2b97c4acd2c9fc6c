use Rattle.std.proofs.Common.{◌≡◌, take, find, None}
use Rattle.validate_module_rules.specs.Faults.{is_named}
use Rattle.validate_module_rules.proofs.exports.find_export.Given as goal

abbrev pub invariant-loop-export : goal.invariant-loop-export
invariant-loop-export l = find (is_named l.name) (take l.export-index l.exports) ≡ None
