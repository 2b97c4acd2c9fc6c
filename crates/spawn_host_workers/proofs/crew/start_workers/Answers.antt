use Rattle.std.proofs.Common.{rules, arith, ◌≡◌, [], All, sym, subst, vec_items, ◌∙◌}
use Rattle.std.specs.Vec.Iter.{into_iter_items}
use Rattle.shared_memory.specs.History.{entries_of}
use Rattle.interp_trait.specs.Turns.{MayBeSpawned}
use Rattle.spawn_host_workers.specs.Duties.{IsDuty}
use Rattle.spawn_host_workers.proofs.Pairing.{so_far_none, so_far_more, so_far_all, none_of, all_first, all_rest}
use Rattle.spawn_host_workers.proofs.crew.start_workers.Goals as goal

pub loop-seat-init : goal.loop-seat-init
loop-seat-init g c =
    let m = g.M.SharedMemory in
    let gives = c.into_iter-seat-iterator.ensures.into_iter_gives in record {
      len = search rules;
      room = search rules;
      same = search rules;
      new = subst (λ w. All (λ s. entries_of (m.name s) (m.seen s) ≡ []) w) (sym gives.0) c.requires.new;
      begins = subst (λ w. All (λ t. MayBeSpawned (g.T.TakesTurns.meaning t)) w) (sym c.into_iter-threads.ensures.rest) c.requires.begins;
      duties = rw (c.into_iter-threads.ensures.rest, gives.0, c.requires.empty)
          (so_far_none (IsDuty c.args.place.now.memory.now c.args.place.now.gate.now) (vec_items c.args.threads) (vec_items c.args.seats));
    }

pub start_worker-requires-clause-new : goal.start_worker-requires-clause-new
start_worker-requires-clause-new g c κs within =
    let m = g.M.SharedMemory in
    all_first (λ s. entries_of (m.name s) (m.seen s) ≡ []) (into_iter_items c.loop-seat.seat-iterator) (into_iter_items c.next.new.self)
    c.in-Some.seat c.loop-seat.invariant.new c.in-Some.ensures.steps.0

pub start_worker-requires-clause-begins : goal.start_worker-requires-clause-begins
start_worker-requires-clause-begins g c κs within =
    all_first (λ t. MayBeSpawned (g.T.TakesTurns.meaning t)) (into_iter_items c.loop-seat.threads) (into_iter_items c.next-in-loop-seat.new.self)
    c.in-Some-next.thread c.loop-seat.invariant.begins c.in-Some-next.ensures.cases.0

pub loop-seat-preserved : goal.loop-seat-preserved
loop-seat-preserved g c =
    let m = g.M.SharedMemory in
    let i = c.loop-seat.invariant in
    let step = c.in-Some.ensures.steps in
    let next = c.in-Some-next.ensures.cases in record {
      len = search rules;
      room = search rules;
      same = search rules;
      new = all_rest (λ s. entries_of (m.name s) (m.seen s) ≡ []) (into_iter_items c.loop-seat.seat-iterator) (into_iter_items c.next.new.self)
          c.in-Some.seat i.new step.0;
      begins = all_rest (λ t. MayBeSpawned (g.T.TakesTurns.meaning t)) (into_iter_items c.loop-seat.threads) (into_iter_items c.next-in-loop-seat.new.self)
          c.in-Some-next.thread i.begins next.0;
      duties = rw (c.push_reserved.ensures.items)
          (so_far_more (IsDuty c.args.place.now.memory.now c.args.place.now.gate.now) (vec_items c.args.threads) (vec_items c.args.seats)
          (vec_items c.loop-seat.handles) (into_iter_items c.loop-seat.threads) (into_iter_items c.next-in-loop-seat.new.self)
          (into_iter_items c.loop-seat.seat-iterator) (into_iter_items c.next.new.self)
          c.in-Some-next.thread c.in-Some.seat c.in-Ok.handle i.duties next.0 step.0
          c.in-Ok.ensures);
    }

pub returns : goal.returns
returns g c =
    let seats = c.loop-seat.seat-iterator.rest in
    let threads = c.loop-seat.threads.rest in
    let i = c.loop-seat.invariant in
    let none = c.in-None.ensures.steps.0 in (
      so_far_all (IsDuty c.args.place.now.memory.now c.args.place.now.gate.now) (vec_items c.args.threads) (vec_items c.args.seats)
          (vec_items c.loop-seat.handles)
          threads.items seats.items i.duties
          (none_of threads.items (sym threads.ok.0 ∙ (i.same ∙ none))) (none_of seats.items (sym seats.ok.0 ∙ none)),
      omega (arith, i.len, none),
    )

pub returns-in-Err : goal.returns-in-Err
returns-in-Err g c = c.in-Err.ensures
