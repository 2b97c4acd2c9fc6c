use Rattle.std.proofs.Common.{length}
use Rattle.show_named.proofs.Places.{says_last}
use Rattle.show_named.specs.declared.lasts.Act.TheVariants as acts
use Rattle.show_waits.proofs.Telling.{says_stand}
use Rattle.show_waits.proofs.waits.stand_text.Goals as goal

pub returns : goal.returns
returns c =
    let shown = c.args.shown in
    let w = c.args.wait in
    let end = length shown.record.now.log in
    says_stand shown c.args.map.now c.args.story.now c.args.n w.stand c.line_of-line.result _ _ _ _ _
    c.line_of-line.ensures c.in_ok-last.ensures
    (says_last shown c.args.map.now c.args.story.now end (acts.Write w.stand.addrs) _ w.written _ c.requires.lasts.written
    c.in_ok-written.ensures) c.in_ok-other.ensures
    (says_last shown c.args.map.now c.args.story.now end (acts.Notify w.stand.addrs.first) _ w.notified _ c.requires.lasts.notified
    c.in_ok-notified.ensures) c.in_ok-text.ensures.ok
