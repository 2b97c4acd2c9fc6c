use Rattle.std.specs.Prelude.{length}
use Rattle.search_race_free.specs.Ahead.{AreFound, AreFoundIn}
use Rattle.search_race_free.proofs.ahead.WaitingStates.joined.Given as goal

abbrev pub invariant-loop-piece : goal.invariant-loop-piece
invariant-loop-piece g l = record {
  all : AreFound (g.M.Moves.threads l.self.system.now) l.self.tables.now.met.parts l.all.items;
  left : AreFoundIn (g.M.Moves.threads l.self.system.now) l.self.tables.now.met.parts l.pieces.items;
}

abbrev pub decreases-loop-piece : goal.decreases-loop-piece
decreases-loop-piece g l = length l.pieces.items
