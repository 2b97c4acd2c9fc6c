use Rattle.std.proofs.Common.{◌≡◌, drop}
use Rattle.validate_module_rules.specs.Faults.{first_of, import_fault}
use Rattle.validate_module_rules.proofs.imports.fault_of_imports.Given as goal

-- the first fault of the rest is that of all
abbrev pub invariant-loop-import : goal.invariant-loop-import
invariant-loop-import l = first_of (import_fault l.types) (drop l.import-index l.import-items) ≡ first_of (import_fault l.types) l.import-items
