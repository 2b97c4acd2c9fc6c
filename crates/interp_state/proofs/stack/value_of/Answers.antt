use Rattle.std.proofs.Common.{subst, arith}
use Rattle.types.specs.declared.value.ValType.TheVariants.{I32}
use Rattle.interp_state.specs.Words.{IsWord}
use Rattle.interp_state.proofs.stack.value_of.Goals as goal

pub overflow_cast-result : goal.overflow_cast-result
overflow_cast-result c = let narrow : IsWord I32 c.args.word = subst (λ t. IsWord t c.args.word) c.in-I32.is c.requires in search arith
