use Rattle.std.proofs.Common.{arith, subst}
use Rattle.search_reach.specs.Stack.{IsOpened}
use Rattle.search_reach.proofs.Stacking.{opened-none, opened-more}
use Rattle.search_reach.proofs.search.open_places.Goals as goal

pub loop-place-init : goal.loop-place-init
loop-place-init c = record {
  since = omega arith;
  opened = opened-none c.args.stack.now.items c.args.from;
}

pub loop-place-preserved : goal.loop-place-preserved
loop-place-preserved c = record {
  since = omega arith;
  opened = opened-more c.args.stack.now.items c.loop-place.stack.items c.push.new.self.items c.args.from c.loop-place.place c.min.result
      c.loop-place.invariant.since c.loop-place.invariant.opened c.in_ok-push.ensures.items (λ few. omega arith);
}

pub returns : goal.returns
returns c = subst (λ n. IsOpened c.args.stack.now.items c.args.from n c.loop-place.stack.items) (omega arith) c.loop-place.invariant.opened
