use Rattle.std.proofs.Common.{◌∙◌, ◌<◌, All, length, subst, sym}
use Rattle.show_rows.specs.Listing.{is_shown}
use Rattle.show_rows.proofs.Chosen.{picked_all, shown_step, All_if}
use Rattle.show_rows.proofs.listing.chosen_entries.Goals as goal

pub loop-at-preserved : goal.loop-at-preserved
loop-at-preserved c = record {
  which = c.in_ok-add_place.ensures ∙ shown_step c.args.shown c.args.look.now c.as_slice-log.result.now c.loop-at.at _
      c.loop-at.chosen.items c.has-is_chosen.result c.line_of.result c.loop-at-test.true c.has-is_chosen.ensures c.line_of.ensures
      c.loop-at.invariant.which;
  within = subst (All (λ at. at < length c.as_slice-log.result.now)) (sym c.in_ok-add_place.ensures)
      (All_if (λ at. at < length c.as_slice-log.result.now) c.loop-at.chosen.items c.has-is_chosen.result c.loop-at.at
      c.loop-at.invariant.within c.loop-at-test.true);
}

pub returns-clause-which : goal.returns-clause-which
returns-clause-which c = picked_all (is_shown c.args.shown c.args.look.now) c.as_slice-log.result.now c.args.shown.record.now.log
    c.loop-at.at c.loop-at.chosen.items c.loop-at-test.false c.as_slice-log.ensures c.loop-at.invariant.which
