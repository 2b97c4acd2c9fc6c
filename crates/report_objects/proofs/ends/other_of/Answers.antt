use Rattle.std.proofs.Common.{refl}
use Rattle.show_moments.specs.Scenes.{seen}
use Rattle.report_objects.proofs.ObjectParts.{no_other, some_other}
use Rattle.report_objects.proofs.ends.other_of.Goals as goal

pub returns-then-not-wait : goal.returns-then-not-wait
returns-then-not-wait c =
    no_other (seen c.args.scene.now) c.args.wait.is_own c.args.wait.other c.if-not-wait.true

pub returns : goal.returns
returns c = some_other (seen c.args.scene.now) c.args.wait.is_own c.args.wait.other c.in_ok-last.last c.if-not-wait.false c.in_ok-last.ensures
