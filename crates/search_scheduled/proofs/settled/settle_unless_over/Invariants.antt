use Rattle.std.proofs.Common.{◌≡◌}
use Rattle.interp_trait.specs.Turns.{Running, IsHere}
use Rattle.replay_walk.proofs.Turning.{Going}
use Rattle.search_scheduled.proofs.settled.settle_unless_over.Given as goal

abbrev pub invariant-loop-made : goal.invariant-loop-made
invariant-loop-made g l = record {
  program : (g.T.TakesTurns.meaning l.thread).program ≡ (g.T.TakesTurns.meaning l.initial.thread).program;
  fuel : (g.T.TakesTurns.meaning l.thread).fuel ≡ (g.T.TakesTurns.meaning l.initial.thread).fuel;
  going : (t : Running) → (g.T.TakesTurns.meaning l.initial.thread).stands t → IsHere t
      → Going (g.T.TakesTurns.meaning l.initial.thread).program t (g.T.TakesTurns.meaning l.thread).stands;
}
