use Rattle.std.proofs.Common.{rules, ◌<◌, length, length-set}
use Rattle.std.proofs.lemmas.Option.{slice_get-get_or}
use Rattle.std.specs.Prelude.{slice_set}
use Rattle.replay_walk.specs.Standing.{IsTurnedAt}
use Rattle.replay_walk.proofs.Replaced.{at_place, stayed}
use Rattle.replay_walk.proofs.turns.turn_at.Goals as goal

pub returns : goal.returns
returns g c =
    let m = g.T.TakesTurns.meaning in let threads = c.args.threads.now in let now = c.turn.new.self in record {
      count = length-set threads c.args.n now;
      turned = at_place threads c.args.n c.index-threads-n.result
          (λ x. IsTurnedAt m x c.args.given c.turn.result threads c.args.n (slice_set threads c.args.n now))
          (record { replaced = stayed m threads c.args.n _ now c.turn.ensures.stays; turned = c.turn.ensures.turned });
    }

pub turn-requires : goal.turn-requires
turn-requires g c = record { given = c.requires.given _ (slice_get-get_or _ _ c.index-threads-n.result c.requires.within) }

pub offset_bounds-threads-n : goal.offset_bounds-threads-n
offset_bounds-threads-n g c = let h : c.args.n < length c.args.threads.now = c.requires.within in search rules
