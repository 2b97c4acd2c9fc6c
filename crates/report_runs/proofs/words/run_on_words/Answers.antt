use Rattle.spawn_host.proofs.Gating.{gated_call}
use Rattle.report_runs.proofs.words.run_on_words.Goals as goal

pub returns-in-Ok-clause-gated : goal.returns-in-Ok-clause-gated
returns-in-Ok-clause-gated g c =
    gated_call g.G.Gate c.in_ok-request.request c.args.module.now.parts c.args.call c.in_ok-request.ensures.request
    c.in-Ok.end.threads.items c.args.gate.now c.run_request_on_words.new.gate c.in-Ok.ensures.gated
