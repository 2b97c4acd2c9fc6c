use Rattle.std.proofs.Common.{◌≡◌, [], take, drop}
use Rattle.validate_module_rules.specs.Faults.{exports_fault}
use Rattle.validate_module_rules.proofs.exports.fault_of_exports.Given as goal

-- the first fault of the rest, behind those passed, is that of all
abbrev pub invariant-loop-place : goal.invariant-loop-place
invariant-loop-place l = exports_fault l.parts (take l.place l.exports) (drop l.place l.exports) ≡ exports_fault l.parts [] l.exports
