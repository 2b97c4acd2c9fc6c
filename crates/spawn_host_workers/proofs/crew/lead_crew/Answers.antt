use Rattle.spawn_host_workers.proofs.Duties.{crew_of}
use Rattle.spawn_host_workers.proofs.Pairing.{first_there}
use Rattle.spawn_host_workers.proofs.crew.lead_crew.Goals as goal

pub returns-clause-ends : goal.returns-clause-ends
returns-clause-ends g c =
    let m = g.M.SharedMemory in
    let t = g.T.TakesTurns in
    let crew = c.args.crew in
    crew_of m g.G.Gate c.args.place.now.gate.now t.meaning c.args.place.now.memory.now crew.first crew.seat crew.threads.items crew.seats.items
    c.in-Ok.handles.items c.lead.result _ _ c.lead.ensures
    (first_there _ _ c.lead.result c.push_reserved.ensures.items c.requires.empty)
    c.in-Ok.ensures.0 c.join_all.ensures

pub start_workers-requires-clause-new : goal.start_workers-requires-clause-new
start_workers-requires-clause-new g c κs within = c.requires.start.new

pub start_workers-requires-clause-begins : goal.start_workers-requires-clause-begins
start_workers-requires-clause-begins g c κs within = c.requires.start.begins

pub end-requires-clause-free : goal.end-requires-clause-free
end-requires-clause-free g c κs within = c.requires.start.free

pub lead-requires-clause-here : goal.lead-requires-clause-here
lead-requires-clause-here g c κs within = c.requires.start.here

pub lead-requires-clause-free : goal.lead-requires-clause-free
lead-requires-clause-free g c κs within = c.requires.start.free
