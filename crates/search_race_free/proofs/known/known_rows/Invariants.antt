use Rattle.std.proofs.Common.{◌∷◌}
use Rattle.search_table.specs.Tables.{Grows}
use Rattle.search_race_free.specs.Known.{AreKnownTurns, IsKnownRow, WantsInRow, OfHeldRow, AreRowsBelow}
use Rattle.search_race_free.proofs.known.known_rows.Given as goal

abbrev pub invariant-loop-n : goal.invariant-loop-n
invariant-loop-n g l = record {
  grows : Grows l.fn.parts l.parts;
  known : AreKnownTurns (g.M.Moves.threads l.system) l.parts l.known.items;
  row : IsKnownRow (g.M.Moves.threads l.system) l.parts (l.from.held ∷ l.from.threads.now);
  wants : WantsInRow (g.M.Moves.threads l.system) l.parts (l.from.held ∷ l.from.threads.now) l.from.wanted.now;
  rows : OfHeldRow l.parts (l.from.held ∷ l.from.threads.now)
      (λ s. AreRowsBelow (g.M.Moves.threads l.system) g.M.Shared.PartialEq.eq g.M.Thread.PartialEq.eq l.parts s l.n l.all.items);
}
