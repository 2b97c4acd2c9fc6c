use Rattle.std.proofs.Common.{subst}
use Rattle.std.specs.Prelude.{IfOk}
use Rattle.search_race_free.specs.Ahead.{IsFoundIn}
use Rattle.search_race_free.proofs.Pieces.{both-found, last-piece, other-pieces}
use Rattle.search_race_free.proofs.ahead.WaitingStates.joined.Goals as goal

pub loop-piece-preserved : goal.loop-piece-preserved
loop-piece-preserved g c =
    let k = g.M.Moves.threads c.args.self.now.system.now in
    let t = c.args.self.now.tables.now.met.parts in
    let so = c.loop-piece.invariant in
    let rest = c.pop.new.self.items in
    let popped = c.in-Some.ensures.items in
    let turns = c.in_ok-turns.turns in
    record {
      all = both-found k t c.loop-piece.all.items turns.items c.append.new.self.items c.in_ok-append.ensures.items so.all
          (subst (λ r. IfOk r (IsFoundIn k t)) c.in_ok-turns.was
          (last-piece k t c.loop-piece.pieces.items rest c.in-Some.piece popped so.left));
      left = other-pieces k t c.loop-piece.pieces.items rest c.in-Some.piece popped so.left;
    }
