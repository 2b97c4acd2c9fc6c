use Rattle.std.proofs.Common.{sym, ◌∙◌, arith}
use Rattle.search_race_free.proofs.Rowing.{over-none, has-turn, row-few}
use Rattle.search_race_free.proofs.ahead.WaitingStates.turn_from.Goals as goal

pub overflow_cast-n : goal.overflow_cast-n
overflow_cast-n g c =
    let m = c.args.self.now.system.now in
    let from = c.args.from.now in
    let low = row-few (g.M.Moves.threads m) (g.met.M.Moves.bounded m) c.args.self.now.tables.now.met.parts from.held from.threads.now c.requires.row
    c.args.n c.requires.there in
    omega (arith, low)

pub returns : goal.returns
returns g c =
    let m = c.args.self.now.system.now in
    let k = g.M.Moves.threads m in
    let from = c.args.from.now in
    has-turn k (g.met.M.Moves.tame m) (g.met.M.Accesses.plain m) c.args.self.now.tables.now.met.parts from.held from.threads.now c.requires.row c.args.n
    c.number_at-thread.result c.number_at-thread.ensures
    (λ s of. over-none k from.wanted.now s c.args.n c.in-Some.access (c.requires.wanted s of) (sym c.next_of.ensures ∙ c.in-Some.is)
    (c.is_over_none.ensures c.if-not-is_over_none.false))
