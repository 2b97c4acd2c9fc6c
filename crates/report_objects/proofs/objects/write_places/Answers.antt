use Rattle.report_objects.proofs.ObjectRows.{no_rows, row_more, rows_all}
use Rattle.report_objects.proofs.objects.write_places.Goals as goal

pub loop-place-init : goal.loop-place-init
loop-place-init g c = no_rows c.args.shown.now c.args.map.now c.args.story.now (g.W.Write.contents c.args.out.now)

pub loop-place-preserved : goal.loop-place-preserved
loop-place-preserved g c =
    row_more c.args.shown.now c.args.map.now c.args.story.now c.args.places.now c.loop-place.place 0 c.loop-place.is_first _ _ _
    c.loop-place-test.true c.loop-place.invariant c.in_ok-row.row c.in_ok-row.ensures c.in_ok-write_row.ensures

pub returns : goal.returns
returns g c =
    rows_all c.args.shown.now c.args.map.now c.args.story.now c.args.places.now c.loop-place.place c.loop-place.is_first _ _
    c.loop-place-test.false c.loop-place.invariant
