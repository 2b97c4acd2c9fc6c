use Rattle.std.proofs.Common.{subst}
use Rattle.types.specs.declared.parts.Parts.{Parts}
use Rattle.host_calls.specs.Hosts.{IsPlannedRun}
use Rattle.host_instances.proofs.Left.{run_left}
use Rattle.host_instances.proofs.instance.Instance.run.Goals as goal

pub returns-clause-fits : goal.returns-clause-fits
returns-clause-fits c =
    let made = c.in_ok-made.made in
    run_left c.args.self.now c.show_memory.ensures.valid c.show_memory.ensures.can c.args.name.now c.args.args.now c.args.plan.now made c.show_record.ensures
    (subst (λ (m : Parts). IsPlannedRun m c.args.name.now c.args.args.now c.args.plan.now made) c.in_ok-module.ensures.opened c.in_ok-made.ensures.run)
