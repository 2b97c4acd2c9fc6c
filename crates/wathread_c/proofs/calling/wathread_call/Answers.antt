use Rattle.std.proofs.Common.{◌≡◌, Option, Some, sym, ◌∙◌, ap}
use Rattle.std.specs.Global.{Box}
use Rattle.std.specs.Option.{option_map}
use Rattle.host_instances.specs.Instances.{Instanced}
use Rattle.wathread_c.proofs.Held.{called}
use Rattle.wathread_c.proofs.calling.wathread_call.Goals as goal

pub returns : goal.returns
returns c =
    let there : c.args.instance.now.slot.held ≡ Some c.deref_mut.result.now =
    sym c.take.ensures.held
    ∙ (ap (λ (held : Option (Box Instanced)). option_map (λ (b : Box Instanced). b.value) held) c.in-Some.is ∙ ap (λ (i : Instanced). Some i) (sym c.deref_mut.ensures.value)) in
    called _ _ _ _ _ _ _ _ _ _ _ there c.open.ensures c.call_held-status.ensures
