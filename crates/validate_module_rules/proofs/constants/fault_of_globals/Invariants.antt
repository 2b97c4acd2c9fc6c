use Rattle.std.proofs.Common.{◌≡◌, drop}
use Rattle.validate_module_rules.specs.Faults.{first_of, global_fault}
use Rattle.validate_module_rules.proofs.constants.fault_of_globals.Given as goal

-- the first fault of the rest is that of all
abbrev pub invariant-loop-global : goal.invariant-loop-global
invariant-loop-global l = first_of global_fault (drop l.global-index l.globals) ≡ first_of global_fault l.globals
