use Rattle.std.proofs.Common.{subst}
use Rattle.search_settled.proofs.Threads.{if-some-at}
use Rattle.search_race_free.specs.Known.{RestsInRow, HasTurn}
use Rattle.search_race_free.proofs.Rowing.{known-rests}
use Rattle.search_race_free.proofs.Pieces.{more-wanted}
use Rattle.search_race_free.proofs.ahead.WaitingStates.put_turns.Goals as goal

pub wanted_in-requires : goal.wanted_in-requires
wanted_in-requires g c =
    let k = g.M.Moves.threads c.args.self.now.system.now in
    let t = c.args.self.now.tables.now.met.parts in
    subst (RestsInRow k t) c.in-Some.ensures.cases.0 (known-rests k t c.args.row.now c.requires.row)

pub loop-n-preserved : goal.loop-n-preserved
loop-n-preserved g c =
    let k = g.M.Moves.threads c.args.self.now.system.now in
    let t = c.args.self.now.tables.now.met.parts in
    more-wanted k t c.loop-n.all.items c.push.new.self.items c.in-Some-turn_from.turn c.in_ok-push.ensures.items c.loop-n.invariant
    (if-some-at (HasTurn k t) c.turn_from.result c.in-Some-turn_from.turn c.in-Some-turn_from.is c.turn_from.ensures)
