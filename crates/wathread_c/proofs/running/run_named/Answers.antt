use Rattle.std.proofs.Common.{ℕ, List, refl, sym, ◌∙◌, subst}
use Rattle.types.specs.declared.value.Value.{Value}
use Rattle.host_calls.specs.Hosts.{IsRunBy, IsFaultOf}
use Rattle.host_calls.specs.declared.plan.Plan.{Plan}
use Rattle.wathread_c.specs.Calls.{RunsNamed}
use Rattle.wathread_c.specs.Calls.Comes.{refused}
use Rattle.wathread_c.specs.Given.{plan_by, values_by}
use Rattle.wathread_c.proofs.Told.{kept_or_five}
use Rattle.wathread_c.proofs.running.run_named.Goals as goal

pub returns-in-Ok-run_of : goal.returns-in-Ok-run_of
returns-in-Ok-run_of c =
    let made = c.in-Ok-run_of.made in
    let run =
    subst (λ (plan : Plan). IsRunBy c.args.module.now c.args.name.now (values_by c.args.args.now) plan made) c.plan.ensures
    (subst (λ (values : List Value). IsRunBy c.args.module.now c.args.name.now values c.plan.result made)
    (c.deref.ensures.value ∙ c.in-Ok.ensures) c.in-Ok-run_of.ensures.run) in
    let words = values_by c.args.args.now in let plan = plan_by c.args.options.now in
    subst (λ (status : ℕ). RunsNamed c.args.module.now c.args.name.now c.args.args.now c.args.options.now c.args.record.now c.keep.new.record c.keep.new.answer status)
    (sym c.unwrap_or.ensures)
    (kept_or_five (Unit {0}) (IsRunBy c.args.module.now c.args.name.now words plan) (IsFaultOf c.args.module.now c.args.name.now words plan) made c.keep.result _ _ _ _ c.requires c.keep.ensures tt run)

pub returns : goal.returns
returns c =
    let fault = c.in-Err.fault in
    refused fault
    (subst (λ (plan : Plan). IsFaultOf c.args.module.now c.args.name.now (values_by c.args.args.now) plan fault) c.plan.ensures
    (subst (λ (values : List Value). IsFaultOf c.args.module.now c.args.name.now values c.plan.result fault)
    (c.deref.ensures.value ∙ c.in-Ok.ensures) c.in-Err.ensures.fault))
    c.status.ensures refl c.requires
