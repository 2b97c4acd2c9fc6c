use Rattle.report_looks.proofs.Sightings.{says_of}
use Rattle.report_looks.proofs.racing.tell_races.Goals as goal

pub returns-in-Ok-write_seen-clause-races : goal.returns-in-Ok-write_seen-clause-races
returns-in-Ok-write_seen-clause-races g c = says_of c.args.asked.now.allow c.allowed.result
    (c.allowed.ensures c.args.asked.now.allow c.in-Ok-allowed_at.ensures.allowed) c.args.module.now.parts c.args.saved.now
    c.in-Ok.seen.«record» c.in-Ok.seen.rows.items c.in-Ok.ensures.seen c.in-Ok-write_seen.told.is_racy c.in-Ok-write_seen.ensures.says
