use Rattle.std.proofs.Common.{◌≡◌, Option, Some, sym, ◌∙◌, ap}
use Rattle.std.specs.Global.{Box}
use Rattle.std.specs.Option.{option_map}
use Rattle.host_instances.specs.Instances.{Instanced}
use Rattle.wathread_c.proofs.Held.{searched}
use Rattle.wathread_c.proofs.calling.wathread_instance_search.Goals as goal

pub returns-clause-searches : goal.returns-clause-searches
returns-clause-searches c =
    let there : c.args.instance.now.slot.held ≡ Some c.deref.result.now =
    sym c.take.ensures.held
    ∙ (ap (λ (held : Option (Box Instanced)). option_map (λ (b : Box Instanced). b.value) held) c.in-Some.is ∙ ap (λ (i : Instanced). Some i) (sym c.deref.ensures)) in
    searched _ _ _ _ _ _ _ _ _ there c.search_held-status.ensures
