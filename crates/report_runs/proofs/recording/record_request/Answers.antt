use Rattle.std.proofs.Common.{◌≤◌, sym, subst}
use Rattle.types.specs.declared.parts.Parts.{Parts}
use Rattle.types.specs.declared.limits.TheConstants.{MOST_MODULE_BYTES, MOST_PAGES}
use Rattle.validate_module.specs.Pages.{HasPagesWithin}
use Rattle.replay_text.specs.declared.parts.RecordParts.{RecordParts}
use Rattle.replay.specs.Runs.{IsRunOf}
use Rattle.report_runs.proofs.Recorded.{is_run_of, is_in_range}
use Rattle.report_runs.proofs.recording.record_request.Goals as goal

pub record_of-requires : goal.record_of-requires
record_of-requires g c =
    let size = subst (λ (p : Parts). p.length ≤ MOST_MODULE_BYTES) c.module.ensures c.show_module_fits.ensures.size in
    is_in_range _ _ _ _ _ _ _ c.in-Ok.ensures.made c.requires.fuel size

pub returns-in-Ok-clause-run : goal.returns-in-Ok-clause-run
returns-in-Ok-clause-run g c =
    let pages = subst (λ (p : Parts). HasPagesWithin MOST_PAGES p) c.module.ensures c.show_module_fits.ensures.pages in
    subst (λ (r : RecordParts). IsRunOf c.args.request.now.parts r c.in-Ok.end) (sym c.record_of.ensures)
    (is_run_of _ _ _ _ _ _ _ c.in-Ok.ensures.made pages)
