use Rattle.report_looks.proofs.Sightings.{object_by}
use Rattle.report_looks.proofs.sighting.RacesOfRun.pair.Goals as goal

pub returns : goal.returns
returns c = λ m r first is.
    object_by m r c.args.self.now first c.args.shown.now is c.as_slice.result.now c.as_slice-2.result.now _ c.pair_of.result
    c.as_slice.ensures.value c.as_slice-2.ensures.value c.pair_of.ensures
