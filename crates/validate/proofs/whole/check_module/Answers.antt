use Rattle.std.proofs.Common.{subst, sym}
use Rattle.validate_typing.specs.Validity.{IsValid}
use Rattle.validate.proofs.TableLaws.{complete_from, memory_from}
use Rattle.validate.proofs.whole.check_module.Goals as goal

pub returns-clause-complete : goal.returns-clause-complete
returns-clause-complete c =
    λ v. complete_from c.parts.result.now c.check_alone.result c.check_alone.ensures.refused (subst IsValid (sym c.parts.ensures.parts) v)

pub returns-clause-memory : goal.returns-clause-memory
returns-clause-memory c = memory_from c.parts.result.now c.check_alone.result c.check_alone.ensures.refused
