use Rattle.std.proofs.Common.{◌≡◌, take}
use Rattle.validate_module_rules.specs.Spaces.{functions_in, memories_in}
use Rattle.validate_module_rules.proofs.spaces.add_imports.Given as goal

abbrev pub invariant-loop-import : goal.invariant-loop-import
invariant-loop-import l = record {
  functions : l.functions.items ≡ functions_in (take l.import-index l.imports);
  memories : l.memories.items ≡ memories_in (take l.import-index l.imports);
}
