use Rattle.interp_trait.specs.Comes.{watched}
use Rattle.spawn_host_workers.proofs.Growing.{sees_grows}
use Rattle.spawn_host_workers.proofs.Leaving.{passes_gate}
use Rattle.spawn_host_workers.proofs.crew.lead.Goals as goal

pub returns : goal.returns
returns g c =
    let m = g.M.SharedMemory in
    let end = c.run_thread-outcome in
    let meaning = g.T.TakesTurns.meaning c.args.first in
    let before = watched m.seen m.lost c.args.seat c.args.place.now.gate.now in
    let after = watched m.seen m.lost end.result.seat end.result.gate in
    let some = (end.ensures.ran c.requires.here.0 c.requires.here.1 c.requires.here.2).out in record {
      name_is = end.ensures.same.name_is;
      works = record {
        ran = λ t stands here. (end.ensures.ran t stands here).out;
        grows = sees_grows m.LOSES m.opening (m.limit c.args.place.now.memory.now)
            (m.name c.args.seat) some.run.steps (m.seen c.args.seat) (m.seen end.result.seat) some.run.sees;
        last = end.ensures.last;
      };
      gated = λ t stands here.
          passes_gate g.G.Gate meaning.fuel meaning.program m.LOSES m.opening (m.limit c.args.place.now.memory.now) (m.name c.args.seat) t
          end.result.outcome end.result.spent before after (end.ensures.ran t stands here);
    }
