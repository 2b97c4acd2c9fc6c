use Rattle.std.proofs.Common.{◌∷◌}
use Rattle.search_table.specs.Tables.{Grows}
use Rattle.search_settled.specs.Known.{AreKnown, OfRow, AreNextBelow}
use Rattle.search_settled.proofs.next.next_rows.Given as goal

abbrev pub invariant-loop-n : goal.invariant-loop-n
invariant-loop-n g l = record {
  known : AreKnown (g.M.Moves.threads l.system) l.met;
  grows : Grows l.fn.met.parts l.met.parts;
  next : OfRow (g.M.Moves.threads l.system) l.fn.met.parts (l.shared ∷ l.threads)
      (λ c. AreNextBelow (g.M.Moves.threads l.system) l.met.parts c l.n l.all.items);
}
