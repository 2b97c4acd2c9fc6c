use Rattle.std.proofs.Common.{◌≡◌, take}
use Rattle.std.specs.Io.KnownBytes.{Appends}
use Rattle.show_json.specs.Rows.{rows_text}
use Rattle.show_json.proofs.RowTexts.{is_nil}
use Rattle.show_json.proofs.rows.write_rows.Given as goal

abbrev pub invariant-loop-row : goal.invariant-loop-row
invariant-loop-row g l =
    (l.is_first ≡ is_nil (take l.row-index l.rows))
    × Appends (g.W.Write.contents l.initial.out) (g.W.Write.contents l.out) (rows_text (take l.row-index l.rows))
