use Rattle.report_looks.proofs.RunMoments.{seen_moment}
use Rattle.report_looks.proofs.printing.moment_of.Goals as goal

pub returns-in-Ok : goal.returns-in-Ok
returns-in-Ok c = λ whole. seen_moment c.args.module.now.parts c.args.record.now c.args.here.place c.args.here.bytes
    c.in_ok-moment.moment c.replay_watched.new.watch c.in-Ok.field-0 c.in_ok-moment.ensures.of.1 c.in_ok-moment.ensures.of.2
    c.in-Ok.ensures.seen whole
