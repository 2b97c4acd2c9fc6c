use Rattle.std.proofs.Common.{ℕ, arith, subst}
use Rattle.search_reach.specs.Moved.{AreWaysIn}
use Rattle.search_reach.proofs.path.ways_in.Goals as goal

pub returns-clause-ways : goal.returns-clause-ways
returns-clause-ways c =
    subst (λ (n : ℕ). AreWaysIn c.args.moves.now n c.loop-place.ways.items) (omega arith) c.loop-place.invariant.ways
