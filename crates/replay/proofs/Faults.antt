-- From what a walk says to what a replay says: the record's run, or the line that it names and why no run has it.
use Rattle.std.proofs.Common.{◌≡◌, ◌∙◌, ap, subst, inl, inr}
use Rattle.types.specs.declared.parts.FuncType.{FuncType}
use Rattle.types.specs.declared.parts.Parts.{Parts}
use Rattle.validate_typing.specs.Validity.{HasDistinctNames}
use Rattle.shared_memory.specs.Memory.{Memory}
use Rattle.schedule_runs.specs.Runs.{Start}
use Rattle.spawn_host.specs.Entries.{Refuses}
use Rattle.replay_text.specs.declared.parts.RecordParts.{RecordParts}
use Rattle.replay_rules.specs.Recorded.{IsRecordedRun, IsFirstMisfit, IsFirstWrongEnd}
use Rattle.replay.proofs.Schedules.{no_run_has_a_wrong_end, no_run_has_a_misfit}
use Rattle.spawn_host.specs.declared.end.EndState.{EndState}
use Rattle.replay.specs.declared.fault.ReplayFault.{ReplayFault}
use Rattle.replay.specs.declared.fault.ReplayFault.TheVariants.{Line, EndLine, NoMemory}
use Rattle.replay.specs.Runs.{BeginsBy, start_of_record, HasLength, HasPages, OfScale, IsRunOf, IsReplayFault, IsOfNoRun, ShowsNoRun}
use Rattle.replay.specs.Threads.{OfCall}
use Rattle.replay.specs.Walks.{IsWalkFault}
use Rattle.replay.proofs.Same.{same_function, same_start}

pub is_run : (m : Parts) (r x : RecordParts) → r ≡ x → (b : BeginsBy m r) (last : Memory) → IsRecordedRun (start_of_record m r b) r last
    → HasLength m r → HasPages m r → (end : EndState) → end.threads.items ≡ r.ends → end.pages ≡ r.pages → end.bytes.items ≡ last.bytes → IsRunOf m x end
is_run m r x is b last recorded len within end threads pages bytes =
    subst (λ (y : RecordParts). IsRunOf m y end) is
    (record { length_fits = len; pages_fit = within; beginning = b; last = last; recorded = recorded; threads = threads; pages = pages; bytes = bytes })

module _ (m : Parts) (r : RecordParts) where
  pub of_scale : (fault : ReplayFault) → OfScale m r fault → IsReplayFault m r fault
  of_scale (Line line) h = inl (inl h)
  of_scale (EndLine line) h = absurd h
  of_scale NoMemory h = absurd h

  module _ (len : HasLength m r) (within : HasPages m r) where
    pub of_call : (fault : ReplayFault) → OfCall m r fault → IsReplayFault m r fault
    of_call (Line line) (inl h) = inl (inr (inl (h.0, len, within, h.1)))
    of_call (Line line) (inr h) = inl (inr (inr (h.0, len, within, h.1)))
    of_call (EndLine line) h = absurd h
    of_call NoMemory h = tt

    pub of_walk : (b : BeginsBy m r) (start : Start) → start ≡ start_of_record m r b → (fault : ReplayFault) → IsWalkFault start r fault →
        IsReplayFault m r fault
    of_walk b start same (Line line) h = inr (h.0, h.1, len, within, (b, subst (λ (s : Start). IsFirstMisfit s r h.0) same h.2))
    of_walk b start same (EndLine line) h = (h.0, h.1, len, within, (b, subst (λ (s : Start). IsFirstWrongEnd s r h.0) same h.2))
    of_walk b start same NoMemory h = absurd h

  module _ (distinct : HasDistinctNames m.exports) where
    fits_not : Refuses m r.invoke r.args → IsOfNoRun m r
    fits_not f end run =
        let b = run.beginning in
        let same = (same_function m distinct r.invoke b.own f.own b.func_type f.func_type b.body f.body b.exports f.exports).0 in
        f.unfit (b.fit ∙ ap (λ (t : FuncType). t.params) same)

    recorded_by : (b : BeginsBy m r) (end : EndState) (run : IsRunOf m r end) → IsRecordedRun (start_of_record m r b) r run.last
    recorded_by b end run = subst (λ (s : Start). IsRecordedRun s r run.last) (same_start m distinct r run.beginning b) run.recorded

    pub no_run : (fault : ReplayFault) → IsReplayFault m r fault → ShowsNoRun m r fault
    no_run (Line line) (inl (inl (inl h))) = λ end run. h.1 run.length_fits
    no_run (Line line) (inl (inl (inr h))) = λ end run. h.2 run.pages_fit
    no_run (Line line) (inl (inr (inl h))) = λ end run. h.3 run.beginning.own run.beginning.exports.exported
    no_run (Line line) (inl (inr (inr h))) = fits_not h.3
    no_run (Line line) (inr h) = λ end run. no_run_has_a_misfit (start_of_record m r h.4.0) r h.0 h.4.1 run.last (recorded_by h.4.0 end run)
    no_run (EndLine line) h = λ end run. no_run_has_a_wrong_end (start_of_record m r h.4.0) r h.0 h.4.1 run.last (recorded_by h.4.0 end run)
    no_run NoMemory h = tt
