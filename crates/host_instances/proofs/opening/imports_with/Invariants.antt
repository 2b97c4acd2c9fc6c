use Rattle.std.proofs.Common.{◌≡◌, map, take}
use Rattle.host_instances.specs.Instances.{import_with}
use Rattle.host_instances.proofs.opening.imports_with.Given as goal

abbrev pub invariant-loop-import : goal.invariant-loop-import
invariant-loop-import l = l.copies.items ≡ map (import_with l.pages) (take l.import-index l.import-items)
