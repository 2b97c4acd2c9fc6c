use Rattle.spawn_host.proofs.Gating.{gated_call}
use Rattle.report_runs.proofs.recording.record_run.Goals as goal

pub returns-in-Ok-clause-gated : goal.returns-in-Ok-clause-gated
returns-in-Ok-clause-gated g c =
    gated_call g.G.Gate c.in_ok-request.request c.args.module.now.parts c.args.call c.in_ok-request.ensures.request
    c.in-Ok.recorded.1.threads.items c.args.gate.now c.record_request.new.gate c.in-Ok.ensures.gated
