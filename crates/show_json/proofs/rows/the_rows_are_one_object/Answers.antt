use Rattle.show_json.proofs.RowTexts.{rows_are_whole}
use Rattle.show_json.proofs.rows.the_rows_are_one_object.Goals as goal

pub returns : goal.returns
returns c = rows_are_whole
