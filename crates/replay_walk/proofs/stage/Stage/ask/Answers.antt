use Rattle.std.proofs.Common.{◌≡◌, ℕ, refl, subst}
use Rattle.replay_walk.specs.Standing.{IsStartedAt}
use Rattle.replay_walk.proofs.Apart.{same_spawned}
use Rattle.replay_walk.proofs.stage.Stage.ask.Goals as goal

pub returns-then-started-most-clause-started : goal.returns-then-started-most-clause-started
returns-then-started-most-clause-started g c = λ arg is lt.
    let same : c.in-Spawn.arg ≡ arg = same_spawned c.in-Spawn.is is in (
      refl,
      λ x worker at begins. subst (λ (a : ℕ). IsStartedAt g.T.TakesTurns.meaning x worker a c.args.threads.now
          c.args.self.now.started c.start_at.new.threads) same
          (c.start_at.ensures.started x worker at begins),
    )
