use Rattle.std.proofs.Common.{◌+◌, List, sym, subst, take}
use Rattle.std.specs.List.{AllZip}
use Rattle.show_json.specs.declared.races.RacePair.{RacePair}
use Rattle.report_objects.specs.RaceObjects.{IsPairOf}
use Rattle.show_rows.proofs.Zipped.{zipped_more}
use Rattle.report_objects.proofs.pairing.pairs_of.Goals as goal

pub loop-at-preserved : goal.loop-at-preserved
loop-at-preserved c =
    let shown = c.args.shown.now in
    let story = c.args.story.now in
    let sites = c.args.sites.now in
    subst (λ (ps : List RacePair). AllZip (IsPairOf shown story sites) (take (c.loop-at.at + 1) c.args.races.now) ps) (sym c.in_ok-push.ensures.items)
    (zipped_more (IsPairOf shown story sites) c.args.races.now c.loop-at.pairs.items c.loop-at.at _ c.pair_of-pair.result c.loop-at-test.true
    c.loop-at.invariant c.pair_of-pair.ensures)
