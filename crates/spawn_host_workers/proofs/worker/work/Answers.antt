use Rattle.std.proofs.Common.{[], ◌∷◌, ◌∙◌}
use Rattle.types.specs.declared.value.Value.TheVariants.{I32}
use Rattle.interp_machine.specs.State.{At}
use Rattle.schedule.specs.Machine.Thread.{Runs}
use Rattle.interp_trait.specs.Comes.{watched}
use Rattle.spawn_host_workers.proofs.Growing.{sees_grows}
use Rattle.spawn_host_workers.proofs.Leaving.{passes_gate}
use Rattle.spawn_host_workers.proofs.worker.work.Goals as goal

pub returns : goal.returns
returns g c =
    let m = g.M.SharedMemory in
    let n = m.name c.args.seat in
    let limit = m.limit c.args.place.now.memory.now in
    let end = c.run_thread-outcome in
    let ran = rw (c.set_args.ensures.stays.program, c.set_args.ensures.stays.fuel, c.begin.ensures.stays.same.name_is) at end.ensures.ran in
    let last = rw (c.begin.ensures.stays.same.name_is) at end.ensures.last in
    let stands = rw (c.set_args.ensures.stays.fuel, c.name-name.ensures) at c.set_args.ensures.stands in
    let meaning = g.T.TakesTurns.meaning c.args.thread in
    let begun = watched m.seen m.lost c.begin.new.seat c.args.place.now.gate.now in
    let ended = watched m.seen m.lost end.result.seat end.result.gate in
    let some = (ran (Runs (At (c.requires.begins.0 (I32 n ∷ I32 c.in-Some.arg ∷ [])))
    (g.T.TakesTurns.meaning c.args.thread).fuel) (stands _ _ c.requires.begins.1) tt).out in record {
      name_is = end.ensures.same.name_is ∙ c.begin.ensures.stays.same.name_is;
      works = record {
        arg = c.in-Some.arg;
        begun = m.seen c.begin.new.seat;
        begins_with = c.in-Some.ensures.begun;
        ran = λ types start begins.
            (ran (Runs (At (start (I32 n ∷ I32 c.in-Some.arg ∷ []))) (g.T.TakesTurns.meaning c.args.thread).fuel) (stands types start begins) tt).out;
        grows = sees_grows m.LOSES m.opening limit n some.run.steps (m.seen c.begin.new.seat) (m.seen end.result.seat) some.run.sees;
        last = last;
      };
      gated = (
        c.in-Some.arg,
        λ types start begins.
            let t = Runs (At (start (I32 n ∷ I32 c.in-Some.arg ∷ []))) meaning.fuel in
            passes_gate g.G.Gate meaning.fuel meaning.program m.LOSES m.opening limit n t end.result.outcome end.result.spent begun ended
            (ran t (stands types start begins) tt),
      );
    }
