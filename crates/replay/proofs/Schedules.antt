-- The end of a walk, and every schedule that makes its log.
use Rattle.std.proofs.Common.{◌≡◌, ℕ, suc, false, List, drop, Option, Some, None, sym, ◌∙◌, ap, subst}
use Rattle.std.proofs.lemmas.List.{take-append-drop}
use Rattle.std.specs.List.{slice_get}
use Rattle.types.specs.declared.event.Answer.{Answer}
use Rattle.types.specs.declared.outcome.ThreadReport.{ThreadReport}
use Rattle.shared_memory.specs.Memory.{Memory, pages}
use Rattle.schedule.specs.System.{Want.Gone, Mark}
use Rattle.schedule.specs.System as systems
use Rattle.schedule.specs.Histories.{Place}
use Rattle.schedule.specs.Machine.{thread_wants}
use Rattle.schedule_threads.specs.Shared.{Shared, try_rules}
use Rattle.schedule_threads.specs.Threads.{machine_of}
use Rattle.schedule_runs.specs.Runs.{Start, system_of, state_for, first_places, as_acts}
use Rattle.interp_trait.specs.Turns.{Running}
use Rattle.replay_text.specs.declared.parts.RecordParts.{RecordParts}
use Rattle.replay_rules.specs.Logs as logs
use Rattle.replay_rules.specs.Theorems.{IsMadeBy}
use Rattle.replay_rules.proofs.Walking.{walks_are_made, ends_are_the_same}
use Rattle.replay_rules.specs.Recorded.{EndAgrees, LineAgrees, MakesLog, state_along, last_places, IsRecordedRun, IsFirstWrongEnd}
use Rattle.replay.specs.Ends.{AllAgree, IsFirstWrong}
use Rattle.replay.specs.Verdicts.{WalksAlong, AgreeingRecordsAreOfRuns, WrongEndsAreOfNoRun, RunsEndInOneMemory, NoRunHasAWrongEnd, NoRunHasAMisfit}
use Rattle.replay.proofs.Beginning.{laws_of, begins}

module _ (b : Start) (r : RecordParts) (z : systems.State Shared Running) (places : ℕ → Place Answer) (walks : WalksAlong b r z places) where
  made : IsMadeBy (system_of b) (try_rules false (Some r.limit)) (state_for r.threads b) first_places (as_acts r.log) z places
  made = walks_are_made _ _ _ _ _ _ (system_of b) (try_rules false (Some r.limit)) (laws_of b)
      (state_for r.threads b) first_places (begins r.threads b) (as_acts r.log) z places walks

  module _ (S : List Mark) (makes : MakesLog b r S) where
    alike : ((state_along b r S).shared ≡ z.shared)
        × ((m : ℕ) → thread_wants (machine_of b.program) ((state_along b r S).threads m) ≡ Gone → z.threads m ≡ (state_along b r S).threads m)
    alike = ends_are_the_same _ _ _ _ _ _ (system_of b) (try_rules false (Some r.limit)) (laws_of b)
        (state_for r.threads b) first_places (begins r.threads b) (as_acts r.log) z places walks S makes

    pub same_memory : (state_along b r S).shared.memory ≡ z.shared.memory
    same_memory = ap (λ (x : Shared). x.memory) alike.0

    end_agrees : (m : ℕ) (report : Option ThreadReport) → EndAgrees r (state_along b r S) (last_places b r) m report → EndAgrees r z places m report
    end_agrees m (Some report) h = (h.0, alike.1 m (ap (thread_wants (machine_of b.program)) h.1) ∙ h.1, h.2, sym (ap (λ p. p m) made.placed) ∙ h.3)
    end_agrees m None h = (sym (ap pages same_memory) ∙ h.0, λ k past. sym (ap (λ p. p k) made.placed) ∙ h.1 k past)

    -- what agrees with some schedule agrees where the walk ends
    pub agrees_there : (m : ℕ) → LineAgrees r (state_along b r S) (last_places b r) m → LineAgrees r z places m
    agrees_there m h = end_agrees m (slice_get r.ends m) h

  -- what agrees where the walk ends agrees with its schedule
  agrees_here : (m : ℕ) → LineAgrees r z places m → LineAgrees r (state_along b r made.schedule) (last_places b r) m
  agrees_here m h = subst (λ w. LineAgrees r w (last_places b r) m) (sym made.run) (subst (λ p. LineAgrees r z p m) (sym made.placed) h)

  pub run : AllAgree r z places → IsRecordedRun b r z.shared.memory
  run all = record {
    schedule = made.schedule;
    makes = made.makes;
    agrees = λ m below. agrees_here m (all m below);
    memory = ap (λ (w : systems.State Shared Running). w.shared.memory) made.run;
  }

  pub wrong : (k : ℕ) → IsFirstWrong r z places k → IsFirstWrongEnd b r k
  wrong k first = record {
    below = first.below;
    schedule = made.schedule;
    makes = made.makes;
    before = λ m below. agrees_here m (first.before m below);
    none = λ S makes line. first.wrong (agrees_there S makes k line);
  }

-- the same, where the walk keeps its memory apart
module _ (b : Start) (r : RecordParts) (z : systems.State Shared Running) (places : ℕ → Place Answer)
    (walks : WalksAlong b r z places) (held : Memory) (same : z.shared.memory ≡ held) where
  pub run_with : AllAgree r z places → IsRecordedRun b r held
  run_with all = subst (λ memory. IsRecordedRun b r memory) same (run b r z places walks all)

  pub ends_with : (last : Memory) → IsRecordedRun b r last → last ≡ held
  ends_with last run = sym run.memory ∙ (same_memory b r z places walks run.schedule run.makes ∙ same)

pub agreeing_records_are_of_runs : AgreeingRecordsAreOfRuns
agreeing_records_are_of_runs b r z places walks all = run b r z places walks all

pub wrong_ends_are_of_no_run : WrongEndsAreOfNoRun
wrong_ends_are_of_no_run b r z places walks k first = wrong b r z places walks k first

pub runs_end_in_one_memory : RunsEndInOneMemory
runs_end_in_one_memory b r z places walks last run = sym run.memory ∙ same_memory b r z places walks run.schedule run.makes

pub no_run_has_a_wrong_end : NoRunHasAWrongEnd
no_run_has_a_wrong_end b r k wrong last run = wrong.none run.schedule run.makes (run.agrees k wrong.below)

pub no_run_has_a_misfit : NoRunHasAMisfit
no_run_has_a_misfit b r k misfit last run =
    misfit.none (drop (suc k) (as_acts r.log)) (
      run.schedule,
      subst (λ l. logs.MakesLog (system_of b) (try_rules false (Some r.limit))
          (state_for r.threads b) first_places l run.schedule) (sym (take-append-drop (suc k) (as_acts r.log))) run.makes,
    )
