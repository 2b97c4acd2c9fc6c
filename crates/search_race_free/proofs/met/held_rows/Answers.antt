use Rattle.std.proofs.Common.{refl}
use Rattle.search_settled.proofs.Rows.{grows-self, grows-then}
use Rattle.search_race_free.proofs.Held.{rows-none, rows-more}
use Rattle.search_race_free.proofs.met.held_rows.Goals as goal

pub loop-one-init : goal.loop-one-init
loop-one-init g c = record {
  grows = grows-self c.args.parts.now;
  rows = rows-none g.S.PartialEq.eq g.T.PartialEq.eq c.args.parts.now c.new-rows.result.items c.new-rows.ensures.items;
}

pub loop-one-preserved : goal.loop-one-preserved
loop-one-preserved g c =
    let so = c.loop-one.invariant in
    let row = c.in_ok-row.ensures in
    record {
      grows = grows-then c.args.parts.now c.loop-one.parts c.held_row.new.parts so.grows row.grows;
      rows = rows-more g.S.PartialEq.eq g.T.PartialEq.eq c.loop-one.parts c.held_row.new.parts row.grows c.loop-one.yielded c.loop-one.rows.items
          c.push.new.self.items c.in-Some.one (record { thread = c.in-Some.one.thread; row = c.in_ok-row.row }) so.rows refl row.row c.in_ok-push.ensures.items;
    }
