use Rattle.std.proofs.Common.{refl, ap, length, ◌∙◌, arith}
use Rattle.search_fairness.proofs.Never.{movers-more, length-more}
use Rattle.search_fairness.proofs.hints.find_hint.Goals as goal

pub loop-component-preserved : goal.loop-component-preserved
loop-component-preserved c =
    let so = c.loop-component.invariant in
    let items = c.in_ok-push.ensures.items in
    record {
      len = length-more c.loop-component.movers.items c.push.new.self.items c.loop-component.component c.in-Some.mover so.len items;
      each = movers-more c.args.graph.now.moves.items c.in_ok-out.out c.in_ok-found.found c.loop-component.movers.items c.push.new.self.items
          c.loop-component.component c.in-Some.mover so.len items so.each c.in-Some.ensures;
    }

pub returns : goal.returns
returns c =
    let so = c.loop-component.invariant in
    let len = so.len in
    record {
      out = c.in_ok-out.out;
      found = c.in_ok-found.found;
      of = refl;
      len = omega (arith, len);
      each = λ k low. so.each k (omega (arith, len, low));
    }
