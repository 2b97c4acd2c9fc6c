-- What runs return is reached.
use Rattle.std.proofs.Common.{◌≡◌, ℕ, Bool, List, [], length, take, Option, Some, None, refl, sym, ◌∙◌, ap, subst}
use Rattle.std.specs.Prelude.{map}
use Rattle.std.specs.List.{slice_get}
use Rattle.std.specs.Option.{option_map}
use Rattle.std.proofs.lemmas.List.{length-map}
use Rattle.std.proofs.lemmas.Option.{slice_get-map}
use Rattle.types.specs.declared.value.Value.{Value}
use Rattle.types.specs.declared.event.Entry.{Entry}
use Rattle.types.specs.declared.parts.Parts.{Parts}
use Rattle.types.specs.declared.outcome.Outcome.{Outcome}
use Rattle.types.specs.declared.outcome.ThreadReport.{ThreadReport}
use Rattle.types.specs.declared.limits.TheConstants.{MOST_PAGES, MOST_THREADS}
use Rattle.shared_memory.specs.Memory.{Memory, pages}
use Rattle.shared_memory.specs.History.{memory_after}
use Rattle.validate_typing.specs.Validity.{HasDistinctNames}
use Rattle.schedule.specs.System as systems
use Rattle.schedule_threads.specs.Shared.{Shared}
use Rattle.schedule_runs.specs.Runs.{Start, RanTogether}
use Rattle.spawn_host.specs.Runs.{start_by, opening_memory, IsRunHistory}
use Rattle.replay_text.specs.declared.version.Version.TheVariants as versions
use Rattle.replay_text.specs.declared.parts.RecordParts.{RecordParts}
use Rattle.spawn_host.specs.declared.end.EndState.{EndState}
use Rattle.replay.proofs.Same.{same_start}
use Rattle.spawn_host.specs.RunEnds.{EndsRun}
use Rattle.search_runs.specs.Called.{Called, Walker, with_fuel, system_of, first_state}
use Rattle.search_settled.specs.Levels.{ComesWithin}
use Rattle.search_runs.specs.Ends.{HasEndedSo}
use Rattle.search_runs.specs.Theorems.{CanReach, IsEndingAlong}
use Rattle.search_runs.proofs.Ending.{every_run_ends_so, every_run_ends_within}
use Rattle.search_endings.specs.Endings.{Ending, reported_outcome, reported_ending}
use Rattle.search_modules.specs.Returned.{IsCall, AllHadEnough, WhatRunsReturnIsReached}

-- an outcome that is told is one of a report
record IsOf (reports : List ThreadReport) (n : ℕ) (o : Outcome) : Type 0 where
  report : ThreadReport
  at : slice_get reports n ≡ Some report
  is : report.outcome ≡ o

mapped : (reports : List ThreadReport) (n : ℕ) (o : Outcome) (r : Option ThreadReport) → slice_get reports n ≡ r
    → option_map reported_outcome r ≡ Some o → IsOf reports n o
mapped reports n o None at is = absurd (cc is)
mapped reports n o (Some report) at is = record { report = report; at = at; is = cc is }

of_report : (reports : List ThreadReport) (n : ℕ) (o : Outcome) → slice_get (map reported_outcome reports) n ≡ Some o → IsOf reports n o
of_report reports n o at = mapped reports n o (slice_get reports n) refl (sym (slice_get-map reported_outcome reports n) ∙ at)

module _ (m : Parts) (distinct : HasDistinctNames m.exports) (entry : List ℕ) (args : List Value) (b : Called) (call : IsCall m entry args b)
    (fuel : ℕ) (loses : Bool) (limit : Option ℕ) (history : List Entry) (end : EndState) (ends : EndsRun m entry args fuel loses limit history end)
    (out : AllHadEnough end) (dump : ℕ) where
  abbrev is_history : IsRunHistory m entry args fuel loses limit end.threads.items history
  is_history = ends.is_history

  abbrev header : RecordParts
  header = record {
    version = versions.Two;
    module_len = m.length;
    threads = MOST_THREADS;
    max_pages = MOST_PAGES;
    invoke = entry;
    args = args;
    fuel = fuel;
    limit = 0;
    log = [];
    ends = [];
    pages = 0;
  }

  start_is : start_by m entry args fuel is_history.beginning ≡ with_fuel b fuel
  start_is = same_start m distinct header is_history.beginning call.beginning ∙ call.same fuel

  together : RanTogether (with_fuel b fuel) loses limit history is_history.outcomes is_history.lefts
  together = subst (λ s. RanTogether s loses limit history is_history.outcomes is_history.lefts) start_is is_history.together

  opening_is : opening_memory m ≡ b.opening
  opening_is = ap (λ (s : Start). s.opening) start_is

  memory_is : memory_after (opening_memory m) history ≡ memory_after b.opening history
  memory_is = ap (λ o. memory_after o history) opening_is

  abbrev ends_so : Ending
  ends_so = reported_ending dump end.threads.items end.pages end.bytes.items

  ending : IsEndingAlong b dump history is_history.outcomes ends_so
  ending = record {
    count = length-map end.threads.items reported_outcome ∙ is_history.count;
    are = λ n o at. (let r = of_report end.threads.items n o at in sym r.is ∙ (is_history.reports n r.report r.at).outcome_is);
    has_units = λ n o at stop. (let r = of_report end.threads.items n o at in (out n r.report r.at).has_units (r.is ∙ stop));
    has_room = λ n o at stop. (let r = of_report end.threads.items n o at in (out n r.report r.at).has_room (r.is ∙ stop));
    pages_are = ends.pages_after ∙ ap pages memory_is;
    bytes_are = ap (take dump) (ends.bytes_after ∙ ap (λ (x : Memory). Memory.bytes x) memory_is);
  }

  reached : (w : systems.State Shared Walker) × CanReach b w × HasEndedSo dump w ends_so
  reached = every_run_ends_so b fuel loses limit history is_history.outcomes is_history.lefts together dump ends_so ending

  within : (w : systems.State Shared Walker) × ComesWithin (system_of b) (length history) (first_state b) w × HasEndedSo dump w ends_so
  within = every_run_ends_within b fuel loses limit history is_history.outcomes is_history.lefts together dump ends_so ending

-- And by no more events than the run has entries.
pub what_runs_return_is_within : (m : Parts) → HasDistinctNames m.exports → (entry : List ℕ) (args : List Value) (b : Called) → IsCall m entry args b →
    (fuel : ℕ)
    (loses : Bool) (limit : Option ℕ) (history : List Entry) (end : EndState) → EndsRun m entry args fuel loses limit history end →
    AllHadEnough end → (dump : ℕ)
    → (w : systems.State Shared Walker) × ComesWithin (system_of b) (length history) (first_state b) w
    × HasEndedSo dump w (reported_ending dump end.threads.items end.pages end.bytes.items)
what_runs_return_is_within m distinct entry args b call fuel loses limit history end ends out dump =
    within m distinct entry args b call fuel loses limit history end ends out dump

pub what_runs_return_is_reached : WhatRunsReturnIsReached
what_runs_return_is_reached m distinct entry args b call fuel loses limit history end ends out dump =
    reached m distinct entry args b call fuel loses limit history end ends out dump
