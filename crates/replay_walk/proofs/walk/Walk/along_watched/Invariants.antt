use Rattle.std.proofs.Common.{◌≡◌, [], take}
use Rattle.replay_walk.specs.Walked.{Run, HasWalked}
use Rattle.replay_walk.specs.Seen.{SeesLog, CameAlong}
use Rattle.replay_walk.proofs.walk.Walk.along_watched.Given as goal

abbrev pub invariant-loop-at : goal.invariant-loop-at
invariant-loop-at g l = record {
  walked : (r : Run) → HasWalked g.T.TakesTurns.meaning r [] l.initial.self.threads.items l.initial.self.memory
      l.initial.self.stage.queue l.initial.self.stage.started l.initial.self.stage.ends
      → r.limit ≡ l.limit
      → HasWalked g.T.TakesTurns.meaning r (take l.at l.log) l.self.threads.items l.self.memory l.self.stage.queue l.self.stage.started l.self.stage.ends;
  seen : SeesLog g.T.TakesTurns.meaning g.W.Watch.sees (CameAlong g.T.TakesTurns.meaning l.initial.self l.limit l.log)
      l.limit 0 (take l.at l.log) l.initial.watch l.watch;
}
