use Rattle.std.proofs.Common.{◌∙◌, ap}
use Rattle.shared_memory_on_table.proofs.Moves.{splits, joins}
use Rattle.shared_memory_on_table.proofs.steps.hand.Goals as goal

pub split_seat-goes-requires : goal.split_seat-goes-requires
split_seat-goes-requires g c =
    let from = c.args.from.now in
    (c.requires.own.0, c.requires.row, splits g.H.History.has_keeper (g.H.History.agree c.args.row.now.key) from.id from.me.0)

pub join_seat-requires : goal.join_seat-requires
join_seat-requires g c =
    let s = c.split_seat-goes.ensures in
    let to = c.args.to.now in
    let goes = c.split_seat-goes.result in (
      c.requires.own.1,
      s.3 ∙ c.requires.own.0,
      ap (λ m. m.1) s.4,
      c.requires.row,
      joins g.H.History.has_keeper (g.H.History.agree c.args.row.now.key) to.id to.me.0 goes.id goes.me.0,
    )
