use Rattle.std.proofs.Common.{sym, subst}
use Rattle.search_settled.proofs.Threads.{if-some-at}
use Rattle.search_race_free.specs.Touches.{AreClear}
use Rattle.search_race_free.specs.Known.{RestsInRow, OfHeldRow, IsClear}
use Rattle.search_race_free.proofs.Rowing.{row-clear}
use Rattle.search_race_free.proofs.known.is_clear.Goals as goal

pub wanted_in-requires : goal.wanted_in-requires
wanted_in-requires g c = subst (RestsInRow (g.M.Moves.threads c.args.system.now) c.args.parts.now) c.in-Some.ensures.cases.0 c.requires

pub returns : goal.returns
returns g c _ =
    let k = g.M.Moves.threads c.args.system.now in
    let t = c.args.parts.now in
    let wanted = c.in-Some-2.wanted.items in
    let held = c.in-Some-get_index.held.now in
    subst (λ r. OfHeldRow t r (IsClear k)) (sym c.in-Some.ensures.cases.0)
    (row-clear k t c.in-Some.number.now c.in-Some.threads.now held (sym c.in-Some-get_index.ensures.key) wanted
    (if-some-at _ _ _ c.in-Some-2.is c.in_ok-wanted.ensures)
    (subst (λ l. AreClear l held.owned.items) c.as_slice.ensures.value
    (subst (λ l. AreClear c.as_slice.result.now l) c.as_slice-2.ensures.value c.in-None.ensures.none)))
