use Rattle.spawn_host_workers.specs.OverMemory.{over}
use Rattle.spawn_host_workers.specs.Unstarted as starts
use Rattle.spawn_host.proofs.Requested.{fault_of_call, run_of_call}
use Rattle.spawn_host.proofs.Gating.{gated_call}
use Rattle.spawn_host.proofs.running.run.Goals as goal

pub returns-in-Ok-run_request-clause-run : goal.returns-in-Ok-run_request-clause-run
returns-in-Ok-run_request-clause-run g c =
    let end = c.in-Ok-run_request.end in
    run_of_call c.in-Ok.request c.args.module.now.parts c.args.call c.in-Ok.ensures.request
    (over g.M.SharedMemory c.args.memory.now) end.threads.items end.seats.items c.in-Ok-run_request.ensures.run

pub returns-in-Err-run_request-clause-fault : goal.returns-in-Err-run_request-clause-fault
returns-in-Err-run_request-clause-fault g c =
    fault_of_call c.in-Ok.request c.args.module.now.parts c.args.call c.in-Ok.ensures.request
    (starts.fault_of c.in-Err-run_request.fault) c.in-Ok.ensures.takes c.in-Err-run_request.ensures.fault

pub returns-in-Ok-run_request-clause-gated : goal.returns-in-Ok-run_request-clause-gated
returns-in-Ok-run_request-clause-gated g c =
    gated_call g.G.Gate c.in-Ok.request c.args.module.now.parts c.args.call c.in-Ok.ensures.request
    c.in-Ok-run_request.end.threads.items c.args.gate.now c.run_request.new.gate c.in-Ok-run_request.ensures.gated
