use Rattle.search_race_free.specs.Ahead.{AreTurns}
use Rattle.search_race_free.proofs.ahead.WaitingStates.put_turns.Given as goal

abbrev pub invariant-loop-n : goal.invariant-loop-n
invariant-loop-n g l = AreTurns (g.M.Moves.threads l.self.system.now) l.self.tables.now.met.parts l.all.items
