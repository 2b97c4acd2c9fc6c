use Rattle.search_race_free.specs.Ahead.{AreFound}
use Rattle.search_race_free.proofs.ahead.WaitingStates.found_of.Given as goal

abbrev pub invariant-loop-n : goal.invariant-loop-n
invariant-loop-n g l = AreFound (g.M.Moves.threads l.self.system.now) l.self.tables.now.met.parts l.all.items
