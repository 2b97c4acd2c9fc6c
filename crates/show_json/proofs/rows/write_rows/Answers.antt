use Rattle.std.proofs.Common.{subst}
use Rattle.std.specs.Io.KnownBytes.{Appends}
use Rattle.show_json.specs.declared.rows.NamedRow.{NamedRow}
use Rattle.show_json.specs.Rows.{row_text}
use Rattle.show_json.proofs.RowTexts.{rows_go_on, rows_done}
use Rattle.show_json.proofs.rows.write_rows.Goals as goal

pub loop-row-preserved : goal.loop-row-preserved
loop-row-preserved g c =
    rows_go_on c.args.rows.now c.loop-row.row-index c.row-item.result c.loop-row.is_first _ _ _ c.loop-row-test.true
    c.loop-row.invariant.0 c.loop-row.invariant.1 (subst (λ (r : NamedRow). Appends (g.W.Write.contents c.loop-row.out)
    (g.W.Write.contents c.write_row.new.out) (row_text c.loop-row.is_first r)) c.row-item.is c.in_ok-write_row.ensures)

pub returns : goal.returns
returns g c =
    rows_done c.args.rows.now c.loop-row.row-index _ _ _ _ c.loop-row-test.false
    c.in_ok-begin_rows.ensures c.loop-row.invariant.1 c.in_ok-end_rows.ensures
