use Rattle.std.proofs.Common.{◌≡◌, ◌∙◌, map, take, ap, subst, arith}
use Rattle.std.proofs.lemmas.List.{take_all}
use Rattle.search_graph.specs.declared.graph.Move.{Move}
use Rattle.search_graph.specs.Round.{moves_at}
use Rattle.search_graph.proofs.Around.{round-cycle}
use Rattle.search_fairness.specs.Judged.{AreEachOnce}
use Rattle.search_fairness.proofs.judged.cycle_of.Goals as goal

pub returns : goal.returns
returns c =
    let moves = c.args.graph.now.moves.items in
    let all : take c.loop-index.index-index c.deref-index-items.result.now ≡ c.args.walk.items =
    take_all c.loop-index.index-index c.deref-index-items.result.now (omega arith) ∙ c.deref-index-items.ensures.value in
    record {
      round = c.requires;
      runs = round-cycle moves c.args.start c.args.walk.items c.requires;
      threads = subst (AreEachOnce c.each_once.result.items)
          (c.loop-index.invariant.threads ∙ ap (λ w. map (λ (m : Move). m.thread) (moves_at moves w)) all) c.each_once.ensures;
      states = subst (AreEachOnce c.each_once-2.result.items)
          (c.loop-index.invariant.states ∙ ap (λ w. map (λ (m : Move). m.from) (moves_at moves w)) all) c.each_once-2.ensures;
    }
