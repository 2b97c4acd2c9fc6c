use Rattle.interp_trait.specs.Turns.{Running, IsHere}
use Rattle.interp_trait.specs.Comes.{watched}
use Rattle.spawn_host_workers.specs.Seats.{StaysFree}
use Rattle.interp_trait.specs.declared.turn.Turn.TheVariants.{Moved}
use Rattle.spawn_host_workers.specs.Serving.{Attends}
use Rattle.spawn_host_workers.proofs.running.steps_to_end.Given as goal

abbrev pub invariant-loop : goal.invariant-loop
invariant-loop g l =
    let m = g.M.SharedMemory in
    let first = g.T.TakesTurns.meaning l.initial.thread in
    let now = g.T.TakesTurns.meaning l.thread in
    let n = m.name l.initial.seat in record {
      stays : StaysFree m g.T.TakesTurns.meaning l.initial.thread l.thread l.initial.seat l.seat;
      comes :
          (t : Running) → first.stands t → IsHere t
          → Attends g.G.Gate first.fuel first.program m.LOSES m.opening (m.limit l.memory) n t Moved now.stands
          (watched m.seen m.lost l.initial.seat l.initial.gate) (watched m.seen m.lost l.seat l.gate);
    }
