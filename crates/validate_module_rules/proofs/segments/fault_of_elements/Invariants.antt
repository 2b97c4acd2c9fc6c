use Rattle.std.proofs.Common.{◌≡◌, drop}
use Rattle.validate_module_rules.specs.Faults.{first_of, element_fault}
use Rattle.validate_module_rules.proofs.segments.fault_of_elements.Given as goal

-- the first fault of the rest is that of all
abbrev pub invariant-loop-segment : goal.invariant-loop-segment
invariant-loop-segment l = first_of (element_fault l.parts) (drop l.segment-index l.segment-items) ≡ first_of (element_fault l.parts) l.segment-items
