use Rattle.std.proofs.Common.{ℕ, length, subst, sym}
use Rattle.search_reach.specs.Moved.{AreWaysIn, IsPathTo, AreChoicesOf}
use Rattle.search_fairness.specs.Judged.{Says}
use Rattle.search_reach.proofs.liveness.fair_runs_of.Goals as goal

pub returns-in_ok-round-in-Cycle : goal.returns-in_ok-round-in-Cycle
returns-in_ok-round-in-Cycle c = let cycle = c.in-Cycle.cycle in let round = c.in_ok-round-in-Cycle.round in let moves-are = c.as_slice.ensures.value in
    record {
      cycle = c.in-Cycle.cycle;
      is = subst (λ f. Says c.args.graph.now c.in_ok-hint.hint f) c.in-Cycle.is c.in_ok-judge.ensures;
      threads = c.in_ok-round-in-Cycle.ensures.threads;
      states = c.in_ok-round-in-Cycle.ensures.states;
      path = subst (λ l. IsPathTo l c.args.graph.now.states round.path.items cycle.start) moves-are
          (subst (λ (n : ℕ). IsPathTo c.as_slice.result.now n round.path.items cycle.start) c.requires.len c.in_ok-round-in-Cycle.ensures.path);
      walk = subst (λ l. AreChoicesOf l cycle.walk.items round.walk.items) moves-are c.in_ok-round-in-Cycle.ensures.walk;
    }

pub round_of-requires : goal.round_of-requires
round_of-requires c = subst (λ l. AreWaysIn l (length l) c.args.ways.now) (sym c.as_slice.ensures.value) c.requires.ways
