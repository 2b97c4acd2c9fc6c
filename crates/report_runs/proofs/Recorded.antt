-- The parts of a record that was made are a record of that run.
use Rattle.std.proofs.Common.{ℕ, ◌≤◌, false, List, length, Some, slice_get, refl, sym, ◌∙◌, ap, subst}
use Rattle.types.specs.declared.value.Value.{Value}
use Rattle.types.specs.declared.outcome.ThreadReport.{ThreadReport}
use Rattle.types.specs.declared.parts.Parts.{Parts}
use Rattle.types.specs.declared.limits.TheConstants.{MOST_FUEL, MOST_PAGES, MOST_MODULE_BYTES}
use Rattle.validate_module.specs.Pages.{HasPagesWithin}
use Rattle.shared_memory.specs.History.{memory_after}
use Rattle.schedule_runs.specs.Runs.{Start}
use Rattle.spawn_host.specs.Runs.{opening_memory, opening_within, start_by, Tells, IsRunHistory}
use Rattle.replay_text.specs.declared.parts.RecordParts.{RecordParts}
use Rattle.replay_text.specs.Text.{IsRecord}
use Rattle.replay_rules.specs.Telling.{RecordTells}
use Rattle.replay_rules.specs.Recorded.{IsRecordedRun}
use Rattle.replay_rules.specs.Ranges.{AreTyped, IsWritten}
use Rattle.replay_text.specs.declared.version.Version.{Version}
use Rattle.replay_rules.proofs.Recording.{runs_are_recorded}
use Rattle.replay_rules.proofs.Ranges.{runs_are_in_range}
use Rattle.spawn_host.specs.declared.end.EndState.{EndState}
use Rattle.replay.specs.Runs.{IsLengthOf, IsRunOf}
use Rattle.replay.specs.Recorded.{RecordsRun}
use Rattle.spawn_host.specs.RunEnds.{EndsRun}
use Rattle.report_runs.proofs.Leaving.{the_same}

module _ (m : Parts) (entry : List ℕ) (args : List Value) (fuel limit : ℕ) (r : RecordParts) (end : EndState)
    (records : RecordsRun m entry args fuel limit r end) where
  -- the run, by the record's own header
  ends_run : EndsRun m r.invoke r.args r.fuel false (Some r.limit) r.log end
  ends_run =
      subst (λ (f : ℕ). EndsRun m r.invoke r.args f false (Some r.limit) r.log end) (sym records.fuel_is)
      (the_same m fuel false end entry r.invoke args r.args (Some limit) (Some r.limit) r.log r.log (sym records.invoke)
      (sym records.args_are) (ap Some (sym records.limit_is)) refl records.ends_run)

  history : IsRunHistory m r.invoke r.args r.fuel false (Some r.limit) end.threads.items r.log
  history = ends_run.is_history

  abbrev start : Start
  start = start_by m r.invoke r.args r.fuel history.beginning

  tells : RecordTells start r history.outcomes history.lefts
  tells = record {
    threads = records.threads;
    count = ap length records.ends_are ∙ history.count;
    reports = λ n report is.
        let told : Tells report r.fuel (history.outcomes n) (history.lefts n) =
        history.reports n report (ap (λ (l : List ThreadReport). slice_get l n) (sym records.ends_are) ∙ is) in
        (told.outcome_is, told.budget);
    pages_are = records.pages_are ∙ ends_run.pages_after;
  }

  pub is_run_of : HasPagesWithin MOST_PAGES m → IsRunOf m r end
  is_run_of within = record {
    length_fits = subst (λ (v : Version). IsLengthOf v m r.module_len) (sym records.version) (sym records.module_len);
    pages_fit = subst (λ (q : ℕ). HasPagesWithin q m) (sym records.max_pages) within;
    beginning = history.beginning;
    last = memory_after (opening_memory m) r.log;
    recorded =
        subst (λ (q : ℕ). IsRecordedRun (record start { opening = opening_within q m }) r (memory_after (opening_memory m) r.log)) (sym records.max_pages)
        (runs_are_recorded start r history.outcomes history.lefts history.together tells);
    threads = sym records.ends_are;
    pages = sym records.pages_are;
    bytes = ends_run.bytes_after;
  }

  written : m.length ≤ MOST_MODULE_BYTES → IsWritten r
  written size = record {
    version = records.version;
    module_len = subst (λ (n : ℕ). n ≤ MOST_MODULE_BYTES) (sym records.module_len) size;
    max_pages = records.max_pages;
  }

  pub is_in_range : fuel ≤ MOST_FUEL → m.length ≤ MOST_MODULE_BYTES → AreTyped r → IsRecord r
  is_in_range small size typed =
      runs_are_in_range start r history.outcomes history.lefts history.together tells (subst (λ (f : ℕ). f ≤ MOST_FUEL)
      (sym records.fuel_is) small) (written size) records.limited typed
