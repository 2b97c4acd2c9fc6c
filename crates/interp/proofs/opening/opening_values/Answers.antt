use Rattle.std.proofs.Common.{◌++◌, ap, map, replicate, length, ◌∙◌}
use Rattle.interp_machine.specs.Program.{zero_of}
use Rattle.interp_state.specs.Words.{word_of}
use Rattle.interp_state.proofs.Words.{means_both, means_itself, means_words, zeros_are}
use Rattle.interp.proofs.opening.opening_values.Goals as goal

pub returns-clause-items : goal.returns-clause-items
returns-clause-items c =
    let args = c.args.args.now in
    let locals = c.args.locals.now in
    means_words c.push_zeros.new.values.items _ _
    (c.push_zeros.ensures.items ∙ ap (λ z. z ++ replicate (length locals) 0)
    (c.push_words.ensures.items ∙ ap (λ z. z ++ map word_of args) c.in_ok-values.ensures.items))
    (means_both (map word_of args) (replicate (length locals) 0) args (map zero_of locals) (means_itself args c.push_words.ensures.in_range) (zeros_are locals))
