use Rattle.std.proofs.Common.{rules, ◌<◌, length, length-set}
use Rattle.std.proofs.lemmas.Option.{slice_get-get_or}
use Rattle.std.specs.Prelude.{slice_set}
use Rattle.replay_walk.specs.Standing.{SettlesAt}
use Rattle.replay_walk.proofs.Replaced.{at_place, stayed}
use Rattle.replay_walk.proofs.turns.settle_at.Goals as goal

pub returns : goal.returns
returns g c =
    let m = g.T.TakesTurns.meaning in let threads = c.args.threads.now in let now = c.settle.new.thread in record {
      count = length-set threads c.args.n now;
      settled = at_place threads c.args.n c.index-threads-n.result
          (λ x. SettlesAt m x c.settle.result threads c.args.n (slice_set threads c.args.n now))
          (record { replaced = stayed m threads c.args.n _ now c.settle.ensures.stays; settled = c.settle.ensures.settled });
    }

pub settle-requires : goal.settle-requires
settle-requires g c = c.requires.here _ (slice_get-get_or _ _ c.index-threads-n.result c.requires.within)

pub offset_bounds-threads-n : goal.offset_bounds-threads-n
offset_bounds-threads-n g c = let h : c.args.n < length c.args.threads.now = c.requires.within in search rules
