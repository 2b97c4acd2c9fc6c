use Rattle.std.proofs.Common.{◌≡◌, map, take}
use Rattle.host_instances.specs.Instances.{with_min}
use Rattle.host_instances.proofs.opening.memories_with.Given as goal

abbrev pub invariant-loop-limits : goal.invariant-loop-limits
invariant-loop-limits l = l.copies.items ≡ map (with_min l.pages) (take l.limits-index l.limits-items)
