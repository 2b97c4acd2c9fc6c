use Rattle.std.proofs.Common.{subst}
use Rattle.types.specs.Modules.{IsModule}
use Rattle.types.proofs.Found.{module_from}
use Rattle.types.proofs.module.Module.into_parts.Goals as goal

pub returns-clause-tested : goal.returns-clause-tested
returns-clause-tested c = subst IsModule c.self.view_is (module_from c.self.inside.parts c.self.invariant)
