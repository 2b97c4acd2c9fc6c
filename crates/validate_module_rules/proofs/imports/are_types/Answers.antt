use Rattle.std.proofs.Common.{◌≡◌, refl, ◌∙◌}
use Rattle.types.specs.declared.value.ValType.{ValType}
use Rattle.types.specs.declared.value.ValType.TheVariants.{I32, I64}
use Rattle.types.specs.contracts.value.ValTypePartialEq.TheImpl.{eq-value}
use Rattle.types.specs.Equal.{is_type}
use Rattle.types.proofs.Equal.{pointwise_types}
use Rattle.validate_module_rules.proofs.imports.are_types.Goals as goal

same : (t u : ValType) → eq-value.it t u ≡ is_type t u
same I32 I32 = refl
same I32 I64 = refl
same I64 I32 = refl
same I64 I64 = refl

pub returns : goal.returns
returns c = c.eq.ensures ∙ pointwise_types eq-value.it same c.args.types.now c.args.wanted.now
