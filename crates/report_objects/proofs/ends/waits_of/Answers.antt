use Rattle.std.proofs.Common.{List, refl, subst}
use Rattle.types.specs.declared.event.Entry.{Entry}
use Rattle.show_waits.specs.Stands.{TouchesNothing}
use Rattle.show_waits.specs.Waits.{IsToldWait}
use Rattle.report_objects.proofs.ends.waits_of.Goals as goal

pub wait_of-requires : goal.wait_of-requires
wait_of-requires c = subst (λ (l : List Entry). IsToldWait c.args.thread l c.args.scene.now.view.left_out.now c.in-Some.wait) c.as_slice.ensures c.in-Some.ensures.waits

pub returns-in_ok-wait_of-in-Some : goal.returns-in_ok-wait_of-in-Some
returns-in_ok-wait_of-in-Some c = rw c.in-Stop.is (
  c.in-Some.wait,
  subst (λ (l : List Entry). IsToldWait c.args.thread l c.args.scene.now.view.left_out.now c.in-Some.wait) c.as_slice.ensures c.in-Some.ensures.waits,
  c.in_ok-wait_of-in-Some.ensures,
)

pub returns-in-None : goal.returns-in-None
returns-in-None c =
    rw c.in-Stop.is (subst (λ (l : List Entry). TouchesNothing c.args.thread l c.args.scene.now.view.left_out.now) c.as_slice.ensures (c.in-None.ensures.none refl))
