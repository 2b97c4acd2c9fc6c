use Rattle.std.proofs.Common.{◌<◌, ℕ}
use Rattle.replay_rules.specs.Recorded.{LineAgrees}
use Rattle.replay_walk.specs.Standing.{Standing}
use Rattle.replay.specs.Ends.{Ends}
use Rattle.replay.proofs.ends.first_wrong_end.Given as goal

abbrev pub invariant-loop-number : goal.invariant-loop-number
invariant-loop-number g l =
    (s : Standing) → Ends g.T.TakesTurns.meaning s l.threads l.stage.queue l.stage.started l.stage.ends l.parts.fuel
    → (m : ℕ) → m < l.number → LineAgrees l.parts s.state s.places m
