use Rattle.std.proofs.Common.{◌∷◌}
use Rattle.search_race_free.specs.Known.{OfHeldRow}
use Rattle.search_race_free.proofs.Wanting.{WantedSoFar}
use Rattle.search_race_free.proofs.known.wanted_in.Given as goal

abbrev pub invariant-loop-n : goal.invariant-loop-n
invariant-loop-n g l = record {
  wanted : OfHeldRow l.parts (l.fn.held ∷ l.threads) (λ s. WantedSoFar (g.M.Moves.threads l.system) s.flat l.n l.wanted.items);
}
