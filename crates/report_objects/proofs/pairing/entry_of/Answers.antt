use Rattle.report_objects.proofs.RacePairs.{entry_by}
use Rattle.report_objects.proofs.pairing.entry_of.Goals as goal

pub returns : goal.returns
returns c = entry_by c.args.shown.now c.args.story.now c.args.sites.now c.args.at c.as_slice-log.result.now _ _ c.access_at-access.result
    c.as_slice-log.ensures c.requires c.row_of.ensures c.is_atomic_at.ensures c.access_at-access.ensures c.first_byte.ensures c.width_of.ensures
