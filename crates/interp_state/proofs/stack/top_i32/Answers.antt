use Rattle.std.proofs.Common.{subst, arith, [], ◌∷◌}
use Rattle.types.specs.declared.value.ValType.TheVariants.{I32}
use Rattle.interp_state.specs.Words.{HasWords, IsWord}
use Rattle.interp_state.proofs.Words.{first_word}
use Rattle.interp_state.proofs.stack.top_i32.Goals as goal

pub overflow_cast-result : goal.overflow_cast-result
overflow_cast-result c =
    let narrow : IsWord I32 c.top.result = first_word I32 [] c.top.result _ (subst (HasWords (I32 ∷ [])) c.top.ensures.1 c.requires) in
    search arith
