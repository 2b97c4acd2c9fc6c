use Rattle.std.proofs.Common.{◌∙◌, sym}
use Rattle.shared_memory_on_table.proofs.Moves.{splits}
use Rattle.shared_memory_on_table.proofs.dealing.take_seat.Goals as goal

pub split_seat-place-requires : goal.split_seat-place-requires
split_seat-place-requires g c =
    let all = c.args.all.now in
    let moves = splits g.H.History.has_keeper (g.H.History.agree c.args.row.now.key) all.id all.me.0 in
    (c.requires.here ∙ sym c.requires.row.0, c.requires.row.1, moves)
