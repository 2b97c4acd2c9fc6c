use Rattle.std.proofs.Common.{IfOk, subst}
use Rattle.types.specs.declared.parts.Parts.{Parts}
use Rattle.host_calls.specs.Hosts.{IsSavedRun}
use Rattle.host_instances.proofs.Left.{replay_left}
use Rattle.host_instances.proofs.instance.Instance.replay.Goals as goal

pub returns-clause-fits : goal.returns-clause-fits
returns-clause-fits c =
    let found = c.replay_of_module.result in
    replay_left c.args.self.now c.show_memory.ensures.valid c.show_memory.ensures.can c.args.record.now found
    (subst (λ (m : Parts). IfOk found (IsSavedRun m c.args.record.now)) c.in_ok-module.ensures.opened c.replay_of_module.ensures.run)
