use Rattle.std.proofs.Common.{subst}
use Rattle.search_race_free.specs.Search.{IsCame, ComesOnward}
use Rattle.search_race_free.specs.Touches.{AreClear, AreInTheWay}
use Rattle.search_race_free.proofs.Continuing.{onward-kept, way-races}
use Rattle.search_race_free.proofs.onward.advance.Goals as goal

pub wanted-requires : goal.wanted-requires
wanted-requires g c =
    let k = g.M.Moves.threads c.args.system.now in
    let stuck = g.M.Moves.stuck c.args.system.now in
    let one = subst (IsCame k stuck c.args.from.now.flat (ComesOnward k c.args.n c.args.from.now)) c.in-To.is c.in_ok-at.ensures in
    let owned = one.owned in
    owned.somewhere

pub returns-in-Races : goal.returns-in-Races
returns-in-Races g c =
    let k = g.M.Moves.threads c.args.system.now in
    let stuck = g.M.Moves.stuck c.args.system.now in
    subst (IsCame k stuck c.args.from.now.flat (ComesOnward k c.args.n c.args.from.now)) c.in-Races.is c.in_ok-at.ensures

pub returns-in-Unknown : goal.returns-in-Unknown
returns-in-Unknown g c =
    let k = g.M.Moves.threads c.args.system.now in
    let stuck = g.M.Moves.stuck c.args.system.now in
    subst (IsCame k stuck c.args.from.now.flat (ComesOnward k c.args.n c.args.from.now)) c.in-Unknown.is c.in_ok-at.ensures

pub returns-in-Some : goal.returns-in-Some
returns-in-Some g c =
    let k = g.M.Moves.threads c.args.system.now in
    let stuck = g.M.Moves.stuck c.args.system.now in
    let one = subst (IsCame k stuck c.args.from.now.flat (ComesOnward k c.args.n c.args.from.now)) c.in-To.is c.in_ok-at.ensures in
    way-races k (g.met.M.Moves.tame c.args.system.now) (g.met.M.Accesses.plain c.args.system.now) c.in-To.at c.in_ok-next-in-To.next.items
    c.in-Some.race.one c.in-Some.race.other one.owned c.in_ok-next-in-To.ensures
    (subst (λ l. AreInTheWay l c.in-To.at.owned.items c.in-Some.race.one c.in-Some.race.other) c.as_slice.ensures.value
    (subst (λ l. AreInTheWay c.as_slice.result.now l c.in-Some.race.one c.in-Some.race.other) c.as_slice-in-To.ensures.value c.in-Some.ensures.some))

pub returns-in-None : goal.returns-in-None
returns-in-None g c =
    let k = g.M.Moves.threads c.args.system.now in
    let stuck = g.M.Moves.stuck c.args.system.now in
    onward-kept k (g.met.M.Moves.tame c.args.system.now) (g.met.M.Accesses.plain c.args.system.now) c.args.from.now c.in-To.at c.args.n
    c.in_ok-next-in-To.next.items
    (subst (IsCame k stuck c.args.from.now.flat (ComesOnward k c.args.n c.args.from.now)) c.in-To.is c.in_ok-at.ensures)
    c.in_ok-next-in-To.ensures
    (subst (λ l. AreClear l c.in-To.at.owned.items) c.as_slice.ensures.value
    (subst (λ l. AreClear c.as_slice.result.now l) c.as_slice-in-To.ensures.value c.in-None.ensures.none))
