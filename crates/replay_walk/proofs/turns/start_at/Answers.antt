use Rattle.std.proofs.Common.{ℕ, subst, length-set}
use Rattle.std.specs.Prelude.{slice_set}
use Rattle.schedule.specs.Machine.{Thread.Runs}
use Rattle.interp_trait.specs.Turns.{spawn_types, spawned_in}
use Rattle.replay_walk.specs.Standing.{IsStartedAt}
use Rattle.replay_walk.proofs.Replaced.{at_place, stayed}
use Rattle.replay_walk.proofs.turns.start_at.Goals as goal

pub returns : goal.returns
returns g c =
    let m = g.T.TakesTurns.meaning in let threads = c.args.threads.now in let now = c.set_args.new.self in record {
      count = length-set threads c.args.n now;
      started = λ x worker at. at_place threads c.args.n c.index-threads-n.result
          (λ y. (m y).begins spawn_types worker → IsStartedAt m y worker c.args.arg threads c.args.n (slice_set threads c.args.n now))
          (λ begins. record {
            replaced = stayed m threads c.args.n _ now c.set_args.ensures.stays;
            begun = subst (λ (k : ℕ). (m now).stands (Runs (spawned_in worker c.args.n c.args.arg) k)) c.set_args.ensures.stays.fuel
                (c.set_args.ensures.stands spawn_types worker begins);
          })
          x at;
    }
