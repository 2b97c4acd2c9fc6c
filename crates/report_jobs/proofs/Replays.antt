-- A text is that of one record.
use Rattle.std.proofs.Common.{◌≡◌, List, ℕ, refl, sym, ◌∙◌, subst}
use Rattle.types.specs.declared.parts.Parts.{Parts}
use Rattle.replay_text.specs.declared.parts.RecordParts.{RecordParts}
use Rattle.replay_text.specs.Text.{record_text, IsRecord}
use Rattle.replay_text.proofs.Whole.{one_record}
use Rattle.replay.specs.declared.fault.ReplayFault.{ReplayFault}
use Rattle.replay.specs.declared.fault.ReplayFault.TheVariants.{Line, EndLine, NoMemory}
use Rattle.replay.specs.Runs as runs
use Rattle.replay.specs.Runs.{IsRunOf, IsReplayFault, ShowsNoRun}
use Rattle.report_jobs.specs.Jobs.{IsOfNoRun, IsMisfit, IsUnfitFor}
use Rattle.report_jobs.specs.declared.replaying.Unfit.TheVariants.{Misfit}

pub of_no_other : (m : Parts) (r : RecordParts) (saved : List ℕ) → IsRecord r → saved ≡ record_text r → runs.IsOfNoRun m r → IsOfNoRun m saved
of_no_other m r saved ranges text none = λ x end ranges_x text_x run.
    none end (subst (λ (y : RecordParts). IsRunOf m y end) (one_record x r ranges_x ranges (sym text_x ∙ text)) run)

module _ (m : Parts) (r : RecordParts) (saved : List ℕ) (ranges : IsRecord r) (text : saved ≡ record_text r) where
  is_misfit : (fault : ReplayFault) → IsReplayFault m r fault → runs.IsOfNoRun m r → IsMisfit m saved fault
  is_misfit fault first none =
      record { record_is = r; ranges = ranges; text = text; first = first; none = of_no_other m r saved ranges text none }

  pub of_line : (line : ℕ) → IsReplayFault m r (Line line) → ShowsNoRun m r (Line line) → IsMisfit m saved (Line line)
  of_line line first none = is_misfit (Line line) first none

  pub of_end_line : (line : ℕ) → IsReplayFault m r (EndLine line) → ShowsNoRun m r (EndLine line) → IsMisfit m saved (EndLine line)
  of_end_line line first none = is_misfit (EndLine line) first none

-- a fault of a line is right of it
pub of_misfit : (fault : ReplayFault) → (fault ≡ NoMemory → ⊥) → IsUnfitFor fault (Misfit fault)
of_misfit (Line line) other = λ m r saved ranges text first none. of_line m r saved ranges text line first none
of_misfit (EndLine line) other = λ m r saved ranges text first none. of_end_line m r saved ranges text line first none
of_misfit NoMemory other = absurd (other refl)
