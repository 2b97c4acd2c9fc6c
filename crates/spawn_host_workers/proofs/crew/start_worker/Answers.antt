use Rattle.spawn_host_workers.proofs.crew.start_worker.Goals as goal

pub returns : goal.returns
returns g c =
    let promise = c.in-Ok.ensures.ok in
    record {
      memory_is = rw promise c.of.ensures;
      gate_is = rw promise c.of-4.ensures;
      thread_is = rw promise c.of-3.ensures;
      seat_is = rw promise c.of-2.ensures;
    }

pub returns-in_default : goal.returns-in_default
returns-in_default g c = tt
