use Rattle.std.proofs.Common.{Some, sym, ◌∙◌, ap}
use Rattle.std.proofs.lemmas.Option.{slice_get-get_or}
use Rattle.search_settled.proofs.Threads.{if-some-at}
use Rattle.search_race_free.specs.Known.{IsFoundTurn}
use Rattle.search_race_free.proofs.Pieces.{more-found}
use Rattle.search_race_free.proofs.ahead.WaitingStates.found_of.Goals as goal

pub found_turn-requires : goal.found_turn-requires
found_turn-requires g c =
    let at = c.in-Some.ensures.lookup.3 in
    c.requires.each c.loop-n.n c.in-Some.turn.now
    (slice_get-get_or c.args.turns.now c.loop-n.n c.in-Some.turn.now at.0 ∙ ap (λ z. Some z) (sym (at.1 c.in-Some.turn.now)))

pub loop-n-preserved : goal.loop-n-preserved
loop-n-preserved g c =
    let k = g.M.Moves.threads c.args.self.now.system.now in
    let t = c.args.self.now.tables.now.met.parts in
    more-found k t c.loop-n.all.items c.push.new.self.items c.in-Some-2.found c.in_ok-push.ensures.items c.loop-n.invariant
    (if-some-at (IsFoundTurn k t) c.in_ok-found.field-0 c.in-Some-2.found c.in-Some-2.is c.in_ok-found.ensures.found)
