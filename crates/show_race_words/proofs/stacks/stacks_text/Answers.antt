use Rattle.show_race_words.proofs.Telling.{stacks_by}
use Rattle.show_race_words.proofs.stacks.stacks_text.Goals as goal

pub returns : goal.returns
returns c = stacks_by c.args.shown c.args.race c.as_slice-log.result.now _ _ c.as_slice-log.ensures c.requires.first c.requires.second
    c.args.story.now c.args.stacks _ _ _ c.in_ok-one.ensures c.in_ok-other.ensures c.in_ok-text.ensures.ok
