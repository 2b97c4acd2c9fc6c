-- What was printed of a run, from its parts.
use Rattle.std.proofs.Common.{◌≡◌, ℕ, Bool, true, false, List, [], refl, sym, subst}
use Rattle.std.specs.Bool.{MatchBool}
use Rattle.spawn_host.specs.Entries.{Takes}
use Rattle.spawn_host.specs.Requests.{Requested}
use Rattle.spawn_host.specs.declared.end.EndState.{EndState}
use Rattle.spawn_host.specs.RunEnds.{EndsRunOnWords, EndsRequestOnWords}
use Rattle.replay_text.specs.declared.parts.RecordParts.{RecordParts}
use Rattle.replay.specs.Runs.{IsRunOf}
use Rattle.replay.specs.Recorded.{RecordsRun}
use Rattle.report_runs.specs.Called.{RecordsRequest}
use Rattle.report_command.specs.declared.command_line.RunJob.{RunJob}
use Rattle.report_jobs.specs.Asked.{IsAskedBy}
use Rattle.show_said.specs.declared.said.Said.{Said}
use Rattle.report_jobs.specs.Prints.{Written, PrintsAll, PrintsAndKeeps, IsOnWords, IsRecorded, PrintsRun}

module _ (r : Requested) (bytes : List ℕ) (job : RunJob) (asked : IsAskedBy job.call r) (w : Written) (status : ℕ) (end : EndState) where
  abbrev Over : List Said → Bool → Type 0
  Over all b = MatchBool b (IsOnWords r.parts job r.args end all) (IsRecorded r.parts bytes job r.args w.save end all)

  takes_by : Takes r.parts job.call.invoke.now r.args
  takes_by = subst (λ (name : List ℕ). Takes r.parts name r.args) asked.name_is asked.takes

  pub printed_on_words : job.on_words ≡ true → EndsRequestOnWords r end → PrintsAll job end [] w.out w.err w.memory status
      → PrintsRun r.parts bytes job w status
  printed_on_words on_words run prints = record {
    args = r.args;
    spelled = asked.spelled;
    takes = takes_by;
    end = end;
    all = [];
    run = subst (Over []) (sym on_words) (
      subst (λ (name : List ℕ). EndsRunOnWords r.parts name r.args job.call.fuel end) asked.name_is
          (subst (λ (fuel : ℕ). EndsRunOnWords r.parts r.name r.args fuel end) asked.fuel_is run),
      refl,
    );
    prints = prints;
  }

  pub printed_recorded : job.on_words ≡ false → (x : RecordParts) → RecordsRequest r job.limit x end → IsRunOf r.parts x end
      → PrintsAndKeeps bytes job x end w status → PrintsRun r.parts bytes job w status
  printed_recorded on_words x records run made = record {
    args = r.args;
    spelled = asked.spelled;
    takes = takes_by;
    end = end;
    all = made.0;
    run = subst (Over made.0) (sym on_words) (record {
      record_is = x;
      records = subst (λ (name : List ℕ). RecordsRun r.parts name r.args job.call.fuel job.limit x end) asked.name_is
          (subst (λ (fuel : ℕ). RecordsRun r.parts r.name r.args fuel job.limit x end) asked.fuel_is records);
      run = run;
      kept = made.3;
      said_is = made.1;
    });
    prints = made.2;
  }
