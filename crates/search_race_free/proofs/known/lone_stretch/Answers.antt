use Rattle.std.proofs.Common.{sym, subst}
use Rattle.search_settled.specs.declared.turns.ThreadTurn.{ThreadTurn}
use Rattle.search_settled.specs.Known.{IsTurnOf}
use Rattle.search_race_free.specs.declared.known.LoneThread.{LoneThread}
use Rattle.search_race_free.specs.Search.{IsAccessOf}
use Rattle.search_race_free.specs.Touches.{AreOfOthers}
use Rattle.search_race_free.specs.Known.{GoesOnAlone, IsLoneTurn}
use Rattle.search_race_free.proofs.Knowing.{from-thread, few-from, stretch-thread, stretch-first, stretch-more}
use Rattle.search_race_free.proofs.known.lone_stretch.Goals as goal

pub access-requires : goal.access-requires
access-requires g c =
    let any = c.requires in
    from-thread (g.M.Moves.threads c.args.system.now) c.args.held.now c.args.thread.now c.args.n any.0 any.1

pub turn_of-requires-clause-of : goal.turn_of-requires-clause-of
turn_of-requires-clause-of g c =
    let any = c.requires in
    from-thread (g.M.Moves.threads c.args.system.now) c.args.held.now c.args.thread.now c.args.n any.0 any.1

pub turn_of-requires-clause-few : goal.turn_of-requires-clause-few
turn_of-requires-clause-few g c =
    let any = c.requires in
    few-from (g.M.Moves.threads c.args.system.now) (g.met.M.Moves.bounded c.args.system.now) c.args.held.now c.args.thread.now c.args.n any.0 any.1

pub loop-init : goal.loop-init
loop-init g c =
    let m = c.args.system.now in
    let k = g.M.Moves.threads m in
    record {
      goes = stretch-first k (g.met.M.Moves.tame m) (g.met.M.Moves.bounded m) (g.met.M.Accesses.plain m) c.args.held.now c.args.thread.now c.args.n
          c.in-Some.field-0 (record { held = record { shared = c.in-Alone.shared; owned = c.in_ok-owned.owned }; thread = c.in-Alone.rested })
          (subst (IsAccessOf k c.args.held.now.shared c.args.thread.now c.args.n) c.in-Some.is c.in_ok-access.ensures)
          (subst (λ (r : ThreadTurn g.row.M-Shared.Denot g.row.M-Thread.Denot g.row.M-Effect.Denot).
          IsTurnOf k c.args.held.now.shared c.args.thread.now c.args.n r) c.in-Alone.is c.in_ok-turn.ensures.turn)
          (subst (λ l. AreOfOthers l c.args.n c.in_ok-owned.owned.items) c.as_slice.ensures.value c.in_ok-owned.ensures);
    }

pub lone_turn-requires-clause-of : goal.lone_turn-requires-clause-of
lone_turn-requires-clause-of g c =
    stretch-thread (g.M.Moves.threads c.args.system.now) c.args.held.now c.args.thread.now c.args.n c.loop.at c.requires c.loop.invariant.goes

pub lone_turn-requires-clause-few : goal.lone_turn-requires-clause-few
lone_turn-requires-clause-few g c =
    let any = c.requires in
    few-from (g.M.Moves.threads c.args.system.now) (g.met.M.Moves.bounded c.args.system.now) c.args.held.now c.args.thread.now c.args.n any.0 any.1

pub loop-preserved : goal.loop-preserved
loop-preserved g c =
    let m = c.args.system.now in
    let k = g.M.Moves.threads m in
    record {
      goes = stretch-more k (g.met.M.Moves.tame m) (g.met.M.Moves.bounded m) (g.met.M.Accesses.plain m) c.args.held.now c.args.thread.now c.args.n
          c.loop.at c.in-GoesOn.next c.loop.invariant.goes
          (subst (IsLoneTurn k c.loop.at c.args.n) c.in-GoesOn.is c.in_ok-next.ensures);
    }

pub returns-in-Stops : goal.returns-in-Stops
returns-in-Stops g c =
    let k = g.M.Moves.threads c.args.system.now in
    let same = subst (IsLoneTurn k c.loop.at c.args.n) c.in-Stops.is c.in_ok-next.ensures in
    subst (λ (v : LoneThread g.row.M-Shared.Denot g.row.M-Thread.Denot). GoesOnAlone k c.args.held.now c.args.thread.now c.args.n v.held v.thread)
    (sym same) c.loop.invariant.goes
