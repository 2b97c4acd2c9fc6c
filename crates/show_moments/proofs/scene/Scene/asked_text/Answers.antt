use Rattle.show_moments.specs.Scenes.{seen}
use Rattle.show_moments.proofs.Telling.{asked_says}
use Rattle.show_moments.proofs.scene.Scene.asked_text.Goals as goal

pub returns : goal.returns
returns c = asked_says (seen c.args.self.now) c.args.asked c.as_slice.result.now c.in-Some.entry.now c.words_at-words.result
    c.line_of-line.result _ c.as_slice.ensures c.in-Some.ensures.lookup.3.0 c.in-Some.ensures.lookup.1 c.words_at-words.ensures
    c.line_of-line.ensures c.in_ok-text.ensures.ok
