use Rattle.std.proofs.Common.{◌∷◌, sym, subst, arith}
use Rattle.search_settled.proofs.Rows.{grows-self, grows-then}
use Rattle.search_settled.proofs.Threads.{if-some-at}
use Rattle.search_race_free.specs.Known.{RestsInRow, IsKnownRow, WantsInRow, OfHeldRow, AreRowsOf}
use Rattle.search_race_free.proofs.Rowing.{known-rests, known-row-grows, of-grows, rows-first, rows-next, rows-all}
use Rattle.search_race_free.proofs.known.known_rows.Goals as goal

pub wanted_in-requires : goal.wanted_in-requires
wanted_in-requires g c =
    let k = g.M.Moves.threads c.args.system.now in
    subst (RestsInRow k c.args.parts.now) c.in-Some.ensures.cases.0 (known-rests k c.args.parts.now c.args.row.now c.requires.row)

pub loop-n-init : goal.loop-n-init
loop-n-init g c =
    let k = g.M.Moves.threads c.args.system.now in
    let t = c.args.parts.now in
    let row = c.in-Some.held.now ∷ c.in-Some.threads.now in
    record {
      grows = grows-self t;
      known = c.requires.known;
      row = subst (IsKnownRow k t) c.in-Some.ensures.cases.0 c.requires.row;
      wants = subst (WantsInRow k t row) (sym c.as_slice.ensures.value) (if-some-at _ _ _ c.in-Some-2.is c.in_ok-wanted.ensures);
      rows = rows-first k g.M.Shared.PartialEq.eq g.M.Thread.PartialEq.eq t row c.new-all.result.items c.new-all.ensures.items;
    }

pub loop-n-preserved : goal.loop-n-preserved
loop-n-preserved g c =
    let k = g.M.Moves.threads c.args.system.now in
    let so = c.loop-n.invariant in
    let t = c.args.parts.now in
    let u = c.loop-n.parts in
    let v = c.put_known.new.parts in
    let row = c.in-Some.held.now ∷ c.in-Some.threads.now in
    let put = c.in_ok-put_known.ensures in
    let is = so.row in
    record {
      grows = grows-then t u v so.grows put.grows;
      known = put.known;
      row = known-row-grows k u v put.grows row is;
      wants = of-grows k u v put.grows row is.state is.of _ so.wants;
      rows = rows-next k g.M.Shared.PartialEq.eq g.M.Thread.PartialEq.eq t u v so.grows put.grows row is c.loop-n.n c.loop-n.all.items c.put_known.new.all.items
          so.rows (put.next c.if-not-branch.false);
    }

pub returns-clause-rows : goal.returns-clause-rows
returns-clause-rows g c =
    let k = g.M.Moves.threads c.args.system.now in
    let so = c.loop-n.invariant in
    let t = c.args.parts.now in
    let u = c.loop-n.parts in
    subst (λ r. OfHeldRow t r (AreRowsOf k g.M.Shared.PartialEq.eq g.M.Thread.PartialEq.eq u c.loop-n.all.items)) (sym c.in-Some.ensures.cases.0)
    (rows-all k g.M.Shared.PartialEq.eq g.M.Thread.PartialEq.eq t u so.grows c.in-Some.held.now c.in-Some.threads.now c.loop-n.n c.loop-n.all.items (omega arith) so.rows)
