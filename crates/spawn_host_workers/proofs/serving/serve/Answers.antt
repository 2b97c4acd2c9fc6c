use Rattle.waiters_desk.proofs.Surviving.{free_accessed}
use Rattle.interp_trait.proofs.Entering.{no_question, sees_access}
use Rattle.spawn_host_workers.proofs.serving.serve.Goals as goal

pub returns-in_default : goal.returns-in_default
returns-in_default g c =
    let m = g.M.SharedMemory in
    let limit = m.limit c.args.memory.now in
    let n = m.name c.args.seat.now in
    let right = m.has_queue_right c.args.seat.now in
    let event = c.args.event in
    let before = m.seen c.args.seat.now in
    let after = m.seen c.access.new.seat in
    let did = sees_access m.LOSES m.opening limit n right event before after c.access.result c.access.ensures.outcome in record {
      same = record { name_is = c.access.ensures.name; right_is = c.access.ensures.right };
      tries = c.access.ensures.tries;
      served = (
        did.0,
        did.1,
        free_accessed m.LOSES m.opening limit n right event before after
            (no_question event c.in_default.not-Ask c.in_default.not-Told) c.requires.free c.access.result
            c.access.ensures.outcome,
      );
    }
