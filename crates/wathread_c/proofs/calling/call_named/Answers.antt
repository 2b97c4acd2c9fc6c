use Rattle.std.proofs.Common.{◌≡◌, List, refl, ◌∙◌, subst}
use Rattle.types.specs.declared.value.Value.{Value}
use Rattle.host_calls.specs.Hosts.{IsPlannedRun, IsRefusedRun}
use Rattle.host_calls.specs.declared.plan.Plan.{Plan}
use Rattle.host_instances.specs.Instances.{module_of}
use Rattle.replay_text.specs.Text.{record_text}
use Rattle.wathread_c.specs.Calls.{KeepsWhole}
use Rattle.wathread_c.specs.Calls.Comes.{ran, refused}
use Rattle.wathread_c.specs.Given.{values_by}
use Rattle.wathread_c.specs.Kept.{kept_by}
use Rattle.wathread_c.specs.declared.answer.CallAnswer.{CallAnswer}
use Rattle.wathread_c.proofs.Told.{puts_long, record_bytes, settled_so}
use Rattle.wathread_c.proofs.calling.call_named.Goals as goal

pub returns-in-Err : goal.returns-in-Err
returns-in-Err c =
    let fault = c.in-Err.fault in let m = module_of c.args.held.now in
    refused fault (
      subst (λ (plan : Plan). IsRefusedRun m c.args.name.now (values_by c.args.args.now) plan fault) c.plan.ensures
          (subst (λ (values : List Value). IsRefusedRun m c.args.name.now values c.plan.result fault)
          (c.deref.ensures.value ∙ c.in-Ok.ensures) c.in-Err.ensures.fault),
      refl,
    )
    c.status.ensures refl c.requires

pub returns : goal.returns
returns c =
    let made = c.in-Ok-run.made in let m = module_of c.args.held.now in
    let run =
    subst (λ (plan : Plan). IsPlannedRun m c.args.name.now (values_by c.args.args.now) plan made) c.plan.ensures
    (subst (λ (values : List Value). IsPlannedRun m c.args.name.now values c.plan.result made)
    (c.deref.ensures.value ∙ c.in-Ok.ensures) c.in-Ok-run.ensures.run) in
    let bytes = record_bytes made _ _ _ _ _ c.in-Some.ensures in
    let kept : c.settle.new.held ≡ kept_by c.args.record.now (record_text made.record) made.end c.args.held.now =
    settled_so c.args.record.now c.keep.new.record (record_text made.record) c.keep.new.answer.bytes c.has_room.result made.end c.args.held.now c.settle.new.held
    c.has_room.ensures (puts_long _ _ _ c.in-Some.ensures.puts) bytes c.settle.ensures in
    ran made (run, kept)
    (subst (λ (a : CallAnswer). KeepsWhole made a c.args.record.now c.keep.new.record c.keep.new.answer c.in-Some.status) c.requires c.in-Some.ensures)
