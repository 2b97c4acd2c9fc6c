use Rattle.std.proofs.Common.{◌∙◌, ap, ◌++◌}
use Rattle.spawn_host_workers.specs.Crew.{idle_ends}
use Rattle.spawn_host_workers.proofs.Pairing.{first_there}
use Rattle.spawn_host_workers.proofs.crew.lead_alone.Goals as goal

pub returns : goal.returns
returns g c = record {
  head = c.lead.result;
  parts = c.leave_idle.ensures
      ∙ ap (λ w. w ++ idle_ends c.args.place.now.gate.now c.args.crew.seats.items)
      (first_there _ _ c.lead.result c.push_reserved.ensures.items c.requires.empty);
  ended = c.lead.ensures;
}

pub lead-requires-clause-here : goal.lead-requires-clause-here
lead-requires-clause-here g c κs within = c.requires.start.here

pub lead-requires-clause-free : goal.lead-requires-clause-free
lead-requires-clause-free g c κs within = c.requires.start.free
