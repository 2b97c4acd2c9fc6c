use Rattle.std.proofs.Common.{refl, sym, ◌∙◌}
use Rattle.types.proofs.Found.{module_from, no_module}
use Rattle.types.proofs.module.Module.from_parts.Goals as goal

pub invariant_of-result : goal.invariant_of-result
invariant_of-result c = sym c.is_module_in.ensures ∙ c.if-is_module_in.true

pub returns-then-is_module_in-clause-ok : goal.returns-then-is_module_in-clause-ok
returns-then-is_module_in-clause-ok c = (refl, module_from c.args.parts (sym c.is_module_in.ensures ∙ c.if-is_module_in.true))

pub returns-else-is_module_in-clause-err : goal.returns-else-is_module_in-clause-err
returns-else-is_module_in-clause-err c = (refl, no_module c.args.parts (sym c.is_module_in.ensures ∙ c.if-is_module_in.false))
