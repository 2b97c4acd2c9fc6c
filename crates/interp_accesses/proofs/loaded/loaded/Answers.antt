use Rattle.std.proofs.Common.{ap, ◌∙◌}
use Rattle.types.specs.Values.{type_of}
use Rattle.types.specs.Widths.{narrow_type}
use Rattle.interp_numeric.specs.Integers.{wrap}
use Rattle.interp_state.specs.Words.{word_of}
use Rattle.interp_accesses.proofs.Cuts.{value_typed, word_in_range}
use Rattle.interp_accesses.proofs.loaded.loaded.Goals as goal

pub returns-in-SignExtend : goal.returns-in-SignExtend
unfolding wrap
returns-in-SignExtend c =
    let typed = ap type_of c.sign_extended.ensures ∙ value_typed _ _ in
    rw c.in-SignExtend.is (record {
      word = c.word.ensures.word ∙ ap word_of c.sign_extended.ensures;
      in_range = word_in_range (narrow_type c.in-SignExtend.width) c.sign_extended.result c.word.result c.word.ensures.word typed c.word.ensures.in_range;
    })
