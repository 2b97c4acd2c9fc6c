use Rattle.std.proofs.lemmas.Result.{IfOk-weaker}
use Rattle.show_race_words.proofs.Telling.{look_by}
use Rattle.show_race_words.proofs.looks.look_text.Goals as goal

pub returns : goal.returns
returns c = IfOk-weaker c.look_of_both.result _ _
    (λ text is. look_by c.args.shown c.args.race c.as_slice-log.result.now _ _ c.as_slice-log.ensures c.requires.first c.requires.second _ is)
    c.look_of_both.ensures
