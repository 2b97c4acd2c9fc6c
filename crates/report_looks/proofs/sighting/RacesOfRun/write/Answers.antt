use Rattle.std.proofs.Common.{refl}
use Rattle.report_looks.proofs.Sightings.{found_by}
use Rattle.report_looks.proofs.sighting.RacesOfRun.write.Goals as goal

pub returns : goal.returns
returns g c = λ m first.
    found_by m c.args.record.now c.args.self.now first c.shown-shown.result c.shown-shown.ensures _ refl _ _ c.in_ok-write_found.ensures
