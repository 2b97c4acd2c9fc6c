use Rattle.search_race_free.specs.Ahead.{AreTurns}
use Rattle.search_race_free.proofs.ahead.WaitingStates.turns_from.Given as goal

abbrev pub invariant-loop-end : goal.invariant-loop-end
invariant-loop-end g l = AreTurns (g.M.Moves.threads l.self.system.now) l.self.tables.now.met.parts l.turns.items
