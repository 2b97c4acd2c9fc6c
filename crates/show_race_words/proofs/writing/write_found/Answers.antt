use Rattle.std.proofs.Common.{ap, length}
use Rattle.show_race_words.specs.Written.{more_text}
use Rattle.show_race_words.proofs.Telling.{told_before}
use Rattle.show_race_words.proofs.writing.write_found.Goals as goal

pub returns : goal.returns
returns g c = told_before c.args.shown c.args.map.now c.args.story.now c.args.stacks c.args.races.now (more_text c.args.races.now.is_cut)
    (length c.as_slice-pairs.result.now) _ _ _ _ (ap length c.as_slice-pairs.ensures.value) c.in_ok-write_each.ensures
    c.in_ok-write.ensures.bytes c.in_ok-flush.ensures.bytes
