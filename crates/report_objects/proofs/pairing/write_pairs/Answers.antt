use Rattle.std.proofs.Common.{refl}
use Rattle.std.proofs.lemmas.Result.{on_ok_weaker}
use Rattle.report_objects.proofs.RacePairs.{pairs_by}
use Rattle.report_objects.proofs.pairing.write_pairs.Goals as goal

pub returns : goal.returns
returns g c = on_ok_weaker c.write_races.result (λ wrote. record {
  pairs = record {
    pairs = record { ref_ptr = (0, 0); now = c.as_slice-2.result.now };
    is_cut = c.args.races.now.is_cut;
  };
  each = pairs_by c.args.shown.now c.args.story.now c.args.races.now c.as_slice-sites.result.now c.as_slice.result.now c.as_slice-2.result.now
      c.in_ok-pairs.pairs.items c.as_slice-sites.ensures.value c.as_slice.ensures.value c.as_slice-2.ensures.value c.in_ok-pairs.ensures;
  more = refl;
  object = wrote;
}) c.write_races.ensures.object
