use Rattle.std.proofs.Common.{ℕ, subst, sym, ◌∙◌}
use Rattle.schedule.specs.Machine.{Thread.Runs}
use Rattle.interp_machine.specs.State.{At}
use Rattle.interp.specs.Starts.{start_of}
use Rattle.interp.specs.Threads.{meaning_in}
use Rattle.spawn_host_workers.specs.OverMemory.{over}
use Rattle.spawn_host_workers.specs.Crew.{CountsSpawnable}
use Rattle.spawn_host.proofs.Together.{any_result}
use Rattle.spawn_host.proofs.Requested.{start_fault, counted, spawned_begin}
use Rattle.spawn_host.proofs.Gating.{gated_result}
use Rattle.spawn_host.proofs.running.run_request.Goals as goal

pub run_all-requires-clause-here : goal.run_all-requires-clause-here
run_all-requires-clause-here g c κs within =
    let r = c.args.request.now in
    let f = c.in-Ok.ensures in
    (Runs (At (start_of r.parts f.takes.func_type f.takes.body r.args)) r.fuel, f.call.stands_so, tt)

pub run_all-requires-clause-count : goal.run_all-requires-clause-count
run_all-requires-clause-count g c κs within =
    let others = c.in-Ok-other_threads.others in
    subst (λ (n : ℕ). CountsSpawnable (meaning_in c.in-Ok.first) n) (sym others.ok.0)
    (counted meaning_in c.args.request.now others.items c.in-Ok.first c.in-Ok.ensures c.in-Ok-other_threads.ensures)

pub run_all-requires-clause-begins : goal.run_all-requires-clause-begins
run_all-requires-clause-begins g c κs within =
    spawned_begin meaning_in c.args.request.now c.in-Ok-other_threads.others.items c.in-Ok-other_threads.ensures

pub returns-clause-run : goal.returns-clause-run
returns-clause-run g c =
    any_result (over g.M.SharedMemory c.args.memory.now) meaning_in c.in-Ok.first c.in-Ok-other_threads.others.items
    c.args.request.now c.requires.opening c.in-Ok.ensures c.in-Ok-other_threads.ensures c.run_all.result c.run_all.ensures.composed

pub returns-clause-fault : goal.returns-clause-fault
returns-clause-fault g c =
    let others = c.in-Ok-other_threads.others in
    start_fault meaning_in c.args.request.now others.items c.args.seats.items c.run_all.result c.in-Ok-other_threads.ensures
    (λ none. c.run_all.ensures.alone (others.ok.0 ∙ none))

pub returns-clause-gated : goal.returns-clause-gated
returns-clause-gated g c =
    gated_result meaning_in g.G.Gate c.args.gate.now c.run_all.new.gate c.args.request.now c.in-Ok.first c.in-Ok-other_threads.others.items
    c.in-Ok.ensures c.in-Ok-other_threads.ensures c.run_all.result c.run_all.ensures.gated
