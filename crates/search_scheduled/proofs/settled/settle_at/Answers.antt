use Rattle.std.proofs.Common.{rules, ◌<◌, length, length-set}
use Rattle.std.proofs.lemmas.Option.{slice_get-get_or, IfSome_then}
use Rattle.std.specs.Prelude.{slice_set}
use Rattle.replay_walk.specs.Standing.{SettlesAt}
use Rattle.replay_walk.proofs.Replaced.{at_place, stayed}
use Rattle.search_scheduled.proofs.settled.settle_at.Goals as goal

pub settle_unless_over-requires : goal.settle_unless_over-requires
settle_unless_over-requires g c = c.requires.here _ (slice_get-get_or _ _ c.index-threads-n.result c.requires.within)

pub offset_bounds-threads-n : goal.offset_bounds-threads-n
offset_bounds-threads-n g c = let h : c.args.n < length c.args.threads.now = c.requires.within in search rules

pub returns-clause-settled : goal.returns-clause-settled
returns-clause-settled g c =
    let m = g.T.TakesTurns.meaning in let threads = c.args.threads.now in let now = c.settle_unless_over.new.thread in
    IfSome_then c.settle_unless_over.result c.settle_unless_over.ensures.settled (λ turn h.
    at_place threads c.args.n c.index-threads-n.result (λ x. SettlesAt m x turn threads c.args.n (slice_set threads c.args.n now))
    (record { replaced = stayed m threads c.args.n _ now c.settle_unless_over.ensures.stays; settled = h }))

pub returns-clause-count : goal.returns-clause-count
returns-clause-count g c = length-set c.args.threads.now c.args.n c.settle_unless_over.new.thread
