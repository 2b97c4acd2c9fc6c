use Rattle.report_objects.proofs.ObjectRows.{row_at}
use Rattle.report_objects.proofs.objects.named_row.Goals as goal

pub returns : goal.returns
returns c = row_at c.args.shown.now c.args.map.now c.args.story.now c.args.at c.as_slice.result.now _ _ c.as_slice.ensures
    c.requires c.row_of.ensures c.in_ok-name.ensures
