use Rattle.std.proofs.Common.{rules, vec_items, sym, ◌∙◌}
use Rattle.std.specs.Vec.Iter.{into_iter_items}
use Rattle.spawn_host_workers.specs.Duties.{IsDone}
use Rattle.spawn_host_workers.proofs.Pairing.{joined_none, joined_more, joined_all, none_of}
use Rattle.spawn_host_workers.proofs.crew.join_all.Goals as goal

pub loop-handle-init : goal.loop-handle-init
loop-handle-init g c =
    let m = g.M.SharedMemory in
    let t = g.T.TakesTurns in
    let gives = c.into_iter-handle-iterator.ensures.into_iter_gives in record {
      room = search rules;
      joined = rw (gives.0) (joined_none (IsDone m g.G.Gate t.meaning) (vec_items c.args.handles) (vec_items c.args.ends.now));
    }

pub loop-handle-preserved : goal.loop-handle-preserved
loop-handle-preserved g c =
    let m = g.M.SharedMemory in
    let t = g.T.TakesTurns in
    let i = c.loop-handle.invariant in
    let step = c.in-Some.ensures.steps in record {
      room = search rules;
      joined = rw (c.push_reserved.ensures.items)
          (joined_more (IsDone m g.G.Gate t.meaning) (vec_items c.args.handles)
          (vec_items c.args.ends.now)
          (vec_items c.loop-handle.ends) (into_iter_items c.loop-handle.handle-iterator) (into_iter_items c.next.new.self)
          c.in-Some.handle c.join.result i.joined step.0 c.join.ensures);
    }

pub returns : goal.returns
returns g c =
    let m = g.M.SharedMemory in
    let t = g.T.TakesTurns in
    let rest = c.loop-handle.handle-iterator.rest in
    joined_all (IsDone m g.G.Gate t.meaning) (vec_items c.args.handles) (vec_items c.args.ends.now) (vec_items c.loop-handle.ends) rest.items
    c.loop-handle.invariant.joined (none_of rest.items (sym rest.ok.0 ∙ c.in-None.ensures.steps.0))
