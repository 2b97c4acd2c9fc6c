use Rattle.std.proofs.Common.{subst}
use Rattle.search_settled.specs.declared.turns.ThreadTurn.{ThreadTurn}
use Rattle.search_settled.specs.Known.{IsTurnOf}
use Rattle.search_race_free.specs.Search.{IsAccessOf}
use Rattle.search_race_free.specs.Touches.{ArePlainOf, StrikesNobody}
use Rattle.search_race_free.proofs.Going.{not_false}
use Rattle.search_race_free.proofs.known.lone_turn.Goals as goal

pub returns : goal.returns
returns g c =
    let k = g.M.Moves.threads c.args.system.now in
    record {
      access = c.in-Some.access;
      wants = subst (IsAccessOf k c.args.from.held.shared c.args.from.thread c.args.n) c.in-Some.is c.in_ok-access.ensures;
      plain = not_false c.in-Some.access.plain c.if-not-access.false;
      free = subst (λ l. ArePlainOf l c.args.n) c.as_slice.ensures.value (c.are_plain.ensures c.if-not-are_plain.false);
      nobody = subst (λ l. StrikesNobody l c.args.n c.in-Some.access) c.as_slice-2.ensures.value c.in_default-struck.ensures.none;
      alone = subst (λ (r : ThreadTurn g.row.M-Shared.Denot g.row.M-Thread.Denot g.row.M-Effect.Denot).
          IsTurnOf k c.args.from.held.shared c.args.from.thread c.args.n r) c.in-Alone.is c.in_ok-turn.ensures.turn;
      put = c.in_ok-put.ensures;
    }
