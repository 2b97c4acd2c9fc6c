use Rattle.show_race_words.proofs.Telling.{order_by}
use Rattle.show_race_words.proofs.ordering.order_text.Goals as goal

pub returns : goal.returns
returns c = order_by c.args.shown c.args.race c.as_slice-log.result.now _ _ c.as_slice-log.ensures c.requires.first c.requires.second
    c.args.story.now c.args.sites.now c.next_atomic_write-write.result _ _ c.next_atomic_write-write.ensures c.in_ok-next.ensures
    c.in_ok-text.ensures.ok
