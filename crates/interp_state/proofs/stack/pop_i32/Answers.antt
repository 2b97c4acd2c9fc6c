use Rattle.std.proofs.Common.{subst, arith, [], ◌∷◌}
use Rattle.types.specs.declared.value.ValType.TheVariants.{I32}
use Rattle.interp_state.specs.Words.{HasWords, IsWord}
use Rattle.interp_state.proofs.Words.{first_word}
use Rattle.interp_state.proofs.Views.{some_on}
use Rattle.interp_state.proofs.stack.pop_i32.Goals as goal

pub pop-requires : goal.pop-requires
pop-requires c = some_on c.args.values.now.items I32 [] c.requires

pub overflow_cast-result : goal.overflow_cast-result
overflow_cast-result c =
    let narrow : IsWord I32 c.pop.result = first_word I32 [] c.pop.result _ (subst (HasWords (I32 ∷ [])) c.pop.ensures.word c.requires) in
    search arith
