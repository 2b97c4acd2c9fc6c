use Rattle.std.specs.Prelude.{length}
use Rattle.search_table.specs.Tables.{Grows}
use Rattle.search_race_free.specs.Known.{AreKnownTurns}
use Rattle.search_race_free.specs.Ahead.{AreFound}
use Rattle.search_race_free.proofs.ahead.keep_turns.Given as goal

abbrev pub invariant-loop-turn : goal.invariant-loop-turn
invariant-loop-turn g l = record {
  grows : Grows l.fn.parts l.parts;
  known : AreKnownTurns (g.M.Moves.threads l.system) l.parts l.known.items;
  found : AreFound (g.M.Moves.threads l.system) l.parts l.turns.items;
}

abbrev pub decreases-loop-turn : goal.decreases-loop-turn
decreases-loop-turn g l = length l.turns.items
