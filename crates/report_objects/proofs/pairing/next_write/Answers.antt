use Rattle.std.proofs.Common.{None, Some, refl}
use Rattle.report_objects.proofs.RacePairs.{next_by}
use Rattle.report_objects.proofs.pairing.next_write.Goals as goal

pub returns-in-Some : goal.returns-in-Some
returns-in-Some c = next_by c.args.shown.now c.args.sites.now c.args.race c.as_slice-log.result.now _ (Some c.in-Some.write) _
    c.as_slice-log.ensures c.requires c.in-Some.ensures (c.line_of.ensures, refl)

pub returns-in-None : goal.returns-in-None
returns-in-None c = next_by c.args.shown.now c.args.sites.now c.args.race c.as_slice-log.result.now _ None _
    c.as_slice-log.ensures c.requires c.in-None.ensures tt
