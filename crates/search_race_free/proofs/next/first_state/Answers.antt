use Rattle.std.proofs.Common.{subst}
use Rattle.search_settled.specs.Next.{IsBeginning}
use Rattle.search_settled.proofs.Threads.{if-some-at}
use Rattle.search_race_free.specs.Touches.{AreClear, AreInTheWay}
use Rattle.search_race_free.proofs.Beginning.{beginning-rests, begun-clear, begun-races}
use Rattle.search_race_free.proofs.next.first_state.Goals as goal

pub returns-in_default : goal.returns-in_default
returns-in_default g c = c.in_ok-flat.ensures.gives_up c.in_default.is

pub wanted-requires : goal.wanted-requires
wanted-requires g c =
    let k = g.M.Moves.threads c.args.system.now in
    beginning-rests k (g.met.M.Moves.tame c.args.system.now) (g.met.M.Accesses.plain c.args.system.now) c.in-Some.flat
    (if-some-at (IsBeginning k) c.in_ok-flat.field-0 c.in-Some.flat c.in-Some.is c.in_ok-flat.ensures.first)

pub returns-in-Some-first_race : goal.returns-in-Some-first_race
returns-in-Some-first_race g c =
    let k = g.M.Moves.threads c.args.system.now in
    begun-races k (g.met.M.Moves.tame c.args.system.now) (g.met.M.Accesses.plain c.args.system.now) (record { flat = c.in-Some.flat; owned = c.new.result })
    c.in_ok-next.next.items
    c.in-Some-first_race.race.one c.in-Some-first_race.race.other c.new.ensures.items
    (if-some-at (IsBeginning k) c.in_ok-flat.field-0 c.in-Some.flat c.in-Some.is c.in_ok-flat.ensures.first)
    c.in_ok-next.ensures
    (subst (λ l. AreInTheWay l c.new.result.items c.in-Some-first_race.race.one c.in-Some-first_race.race.other) c.as_slice.ensures.value
    (subst (λ l. AreInTheWay c.as_slice.result.now l c.in-Some-first_race.race.one c.in-Some-first_race.race.other) c.as_slice-2.ensures.value
    c.in-Some-first_race.ensures.some))

pub returns-in-None : goal.returns-in-None
returns-in-None g c =
    let k = g.M.Moves.threads c.args.system.now in
    begun-clear k (g.met.M.Moves.tame c.args.system.now) (g.met.M.Accesses.plain c.args.system.now) (record { flat = c.in-Some.flat; owned = c.new.result })
    c.in_ok-next.next.items c.new.ensures.items
    (if-some-at (IsBeginning k) c.in_ok-flat.field-0 c.in-Some.flat c.in-Some.is c.in_ok-flat.ensures.first)
    c.in_ok-next.ensures
    (subst (λ l. AreClear l c.new.result.items) c.as_slice.ensures.value
    (subst (λ l. AreClear c.as_slice.result.now l) c.as_slice-2.ensures.value c.in-None.ensures.none))
