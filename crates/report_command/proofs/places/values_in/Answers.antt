use Rattle.std.proofs.Common.{refl}
use Rattle.report_command.proofs.Zipped.{zip_next}
use Rattle.report_command.proofs.places.values_in.Goals as goal

pub loop-at-preserved : goal.loop-at-preserved
loop-at-preserved g c =
    rw c.in_ok-push.ensures.items
    (zip_next (λ text v. g.R.ValueReader.reads text.now v) c.args.texts.now c.loop-at.values.items c.loop-at.at _ _
    c.in-Some.value c.loop-at-test.true refl c.loop-at.invariant c.in-Some.ensures)
