use Rattle.std.proofs.Common.{arith}
use Rattle.std.proofs.lemmas.Grind.{common_steps}
use Rattle.replay_forms.specs.Reading.{several}
use Rattle.replay_forms.proofs.Repeated.{goes_on, stops_here, is_done}
use Rattle.replay_forms.proofs.items.several.Goals as goal

pub returns-in-None-clause-reads : goal.returns-in-None-clause-reads
returns-in-None-clause-reads g c = stops_here (g.T.Item.at c.args.kind.now) c.loop-place.items.items c.args.most c.loop-place.place
    c.loop-place.rest.now (several (g.T.Item.at c.args.kind.now) 0 c.args.most c.args.bytes.now) c.in-None.ensures
    c.loop-place.invariant.so_far

pub loop-place-preserved : goal.loop-place-preserved
loop-place-preserved g c = record {
  so_far = rw c.in_ok-push-in-Some.ensures.items
      (goes_on (g.T.Item.at c.args.kind.now) c.loop-place.items.items c.args.most c.loop-place.place c.loop-place.rest.now c.in-Some.item
      c.in-Some.after.now (several (g.T.Item.at c.args.kind.now) 0 c.args.most c.args.bytes.now) c.loop-place-test.true c.in-Some.ensures
      c.loop-place.invariant.so_far);
  count = grind (arith, common_steps);
}

pub returns-clause-reads : goal.returns-clause-reads
returns-clause-reads g c = is_done (g.T.Item.at c.args.kind.now) c.loop-place.items.items c.args.most c.loop-place.place
    c.loop-place.rest.now (several (g.T.Item.at c.args.kind.now) 0 c.args.most c.args.bytes.now) c.loop-place-test.false
    c.loop-place.invariant.so_far
