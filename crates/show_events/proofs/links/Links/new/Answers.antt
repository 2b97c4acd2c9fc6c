use Rattle.std.proofs.Common.{refl}
use Rattle.show_events.proofs.Linked.{all_ahead, links_are}
use Rattle.show_events.proofs.links.Links.new.Goals as goal

pub returns-clause-forward : goal.returns-clause-forward
returns-clause-forward c = all_ahead c.args.log.now c.deref-4.result.now c.deref-2.result.now c.deref-5.result.now c.deref-3.result.now
    c.args.races.now _ _ c.new-links.result.items _ _ _ refl refl c.new-links.ensures.items c.in_ok-add_wakes.ensures
    c.in_ok-add_spawns.ensures c.in_ok-add_races.ensures

pub returns-clause-links : goal.returns-clause-links
returns-clause-links c = links_are c.args.log.now c.args.story.now c.args.races.now c.deref.result.now c.deref-4.result.now
    c.in_ok-answers.answers.items c.deref-2.result.now c.in_ok-firsts.firsts.items c.deref-5.result.now c.deref-3.result.now
    c.new-links.result.items _ _ _ c.deref.ensures.value c.in_ok-answers.ensures c.deref-2.ensures.value c.in_ok-firsts.ensures
    c.deref-5.ensures.value c.deref-4.ensures.value c.deref-3.ensures.value c.new-links.ensures.items c.in_ok-add_wakes.ensures
    c.in_ok-add_spawns.ensures c.in_ok-add_races.ensures
