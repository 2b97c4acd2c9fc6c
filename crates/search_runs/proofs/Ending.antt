-- Each run in which nobody stops ends as threads without budgets can.
use Rattle.std.proofs.Common.{◌≡◌, ℕ, ◌<◌, ◌⊎◌, inl, inr, Bool, length, take, List, [], ◌∷◌, Option, Some, None, refl, sym, ◌∙◌, ap, subst, arith}
use Rattle.std.specs.List.{slice_get}
use Rattle.std.proofs.lemmas.Option.{slice_get_within, slice_get-get_or}
use Rattle.types.specs.declared.event.Event.{Event}
use Rattle.types.specs.declared.event.Reply.{Reply}
use Rattle.types.specs.declared.event.Answer.{Answer}
use Rattle.types.specs.declared.event.Entry as entries
use Rattle.types.specs.declared.outcome.Outcome.{Outcome}
use Rattle.types.specs.declared.outcome.Outcome.TheVariants as outcomes
use Rattle.types.specs.declared.outcome.Stop.TheVariants as stops
use Rattle.shared_memory.specs.Memory.{Memory, pages}
use Rattle.shared_memory.specs.WaitQueue.{WaitQueue, next_id}
use Rattle.shared_memory.specs.History.{memory_after, queue_after}
use Rattle.schedule.specs.System.{Act, Act.Made, Act.Heard, Entry, System}
use Rattle.schedule.specs.System as systems
use Rattle.schedule.specs.Scheduled.{scheduled_run}
use Rattle.schedule.specs.Histories.{Place.Unstarted, next_shared, shared_after, places_after}
use Rattle.schedule.specs.Schedules.{ThreadsRun}
use Rattle.schedule.specs.Machine.{Thread.Left}
use Rattle.interp_machine.specs.State.{State}
use Rattle.schedule_threads.specs.Shared.{Shared, without_dues}
use Rattle.schedule_threads.specs.Threads.{machine_of}
use Rattle.schedule_threads.proofs.Asking.{machine_laws}
use Rattle.schedule_runs.specs.Runs.{RanTogether, begins_in, ends_of, end_if, acted, as_acts, first_places}
use Rattle.schedule_runs.specs.Runs as runs
use Rattle.schedule_runs.specs.Theorem.{IsOneRun}
use Rattle.schedule_runs.proofs.Places.{started_place}
use Rattle.schedule_runs.proofs.Linked.{IsStarted, Linked, linked, stand_after, queue_after-all}
use Rattle.schedule_runs.proofs.Beginning.{begins_known, known_begins}
use Rattle.schedule_runs.proofs.Order.{all_started}
use Rattle.schedule_runs.proofs.Running.{threads_make_one_run}
use Rattle.interp_trait.specs.Turns.{Running}
use Rattle.search_threads.specs.Unlimited.{Unlimited.Away}
use Rattle.search_threads.specs.Budgets.{NobodyStops, RunsUnlimited, unmetered, turns_of}
use Rattle.search_threads.proofs.Laws as budgets
use Rattle.search_threads.proofs.Unmetering.{places_same}
use Rattle.search_runs.specs.Called.{Called, Walker, with_fuel, system_of, first_state, first_shared, first_threads}
use Rattle.search_runs.specs.Called.{reply_by, shared_by, answer_by, begun_by}
use Rattle.search_endings.specs.Endings.{Ending}
use Rattle.search_runs.specs.Ends.{HasEndedSo}
use Rattle.search_runs.specs.Theorems.{EveryRunEndsSo, EveryRunEndsWithin, IsEndingAlong, CanReach}
use Rattle.search_runs.proofs.Same.{budgeted, budgeted_first, system_same, first_state_same}
use Rattle.search_runs.proofs.Tame.{reached_by, missing}
use Rattle.search_runs.proofs.Within.{within-entries}
use Rattle.search_settled.specs.Levels.{ComesWithin}
use Rattle.std.proofs.lemmas.List.{length-map}

module _ (b : Called) (fuel : ℕ) where
  abbrev start : runs.Start
  start = with_fuel b fuel

  -- both share the same after a history
  shared_step : (x : Shared) (n : ℕ) (a : Act Event Reply Answer) (H : List (Entry Event Reply Answer))
      → ((x : Shared) → shared_after (runs.system_of start) x H ≡ shared_after (system_of b) x H)
      → shared_after (runs.system_of start) (next_shared (runs.system_of start) x n a) H ≡ shared_after (system_of b) (next_shared (system_of b) x n a) H
  shared_step x n (Made e v) H on = on (shared_by x n e)
  shared_step x n (Heard a) H on = on x

  shared_same : (H : List (Entry Event Reply Answer)) (x : Shared) → shared_after (runs.system_of start) x H ≡ shared_after (system_of b) x H
  shared_same [] x = refl
  shared_same (h ∷ H) x = shared_step x h.thread h.act H (λ y. shared_same H y)

  module _ (loses : Bool) (limit : Option ℕ) (H : List entries.Entry) (outcomes_of : ℕ → Outcome) (lefts : ℕ → ℕ)
      (together : RanTogether start loses limit H outcomes_of lefts) (dump : ℕ) (e : Ending) (ending : IsEndingAlong b dump H outcomes_of e) where
    legal : IsStarted b.opening H
    legal = record {
      memory = together.memory;
      queue = together.queue;
      started = all_started start loses limit H outcomes_of lefts together.threads together.entries;
    }

    one : IsOneRun start loses limit H outcomes_of lefts
    one = threads_make_one_run start loses limit H outcomes_of lefts together

    abbrev ends : ℕ → Running
    ends = ends_of start H outcomes_of lefts

    -- nobody stops
    outcome_at : (m : ℕ) → m < next_id (queue_after H) → slice_get e.outcomes m ≡ Some (outcomes_of m)
    outcome_at m known =
        let within : m < length e.outcomes = let count = ending.count in omega (arith, count, known) in
        let at = slice_get-get_or e.outcomes m (outcomes_of m) within in
        at ∙ ap (λ o. Some o) (ending.are m _ at)

    no_stop : (m left : ℕ) (o : Outcome) (c : Option State) → begins_in start H m ≡ c → end_if c (outcomes_of m) (lefts m) ≡ Left o left
        → (o ≡ outcomes.Stop stops.OutOfFuel) ⊎ (o ≡ outcomes.Stop stops.RecordFull) → ⊥
    no_stop m left o None begins is stop = cc is
    no_stop m left o (Some c) begins is (inl stop) =
        let same : outcomes_of m ≡ o = cc is in
        ending.has_units m (outcomes_of m) (outcome_at m (begins_known start H m c begins)) (same ∙ stop)
    no_stop m left o (Some c) begins is (inr stop) =
        let same : outcomes_of m ≡ o = cc is in
        ending.has_room m (outcomes_of m) (outcome_at m (begins_known start H m c begins)) (same ∙ stop)

    nobody : NobodyStops (machine_of b.program) reply_by shared_by answer_by (begun_by b) ends
    nobody m left o is stop = no_stop m left o (begins_in start H m) refl is stop

    run : ThreadsRun (budgeted b fuel) (budgeted_first b fuel) first_places one.steps ends (as_acts H)
    run =
        subst (λ w. ThreadsRun (budgeted b fuel) w first_places one.steps ends (as_acts H)) (first_state_same b fuel)
        (subst (λ s. ThreadsRun s (runs.first_state start) first_places one.steps ends (as_acts H)) (system_same b fuel) one.run)

    free : RunsUnlimited (machine_of b.program) reply_by shared_by answer_by (begun_by b) (first_shared b) (first_threads b) first_places ends (as_acts H)
    free = budgets.runs_without_stops_need_no_budget State Event Reply Answer Outcome Shared (machine_of b.program) (machine_laws b.program)
        reply_by shared_by answer_by (begun_by b) fuel (first_shared b) (first_threads b) first_places one.steps ends (as_acts H) run nobody

    abbrev last : systems.State Shared Walker
    last = scheduled_run (system_of b) (first_state b) (turns_of free.turns)

    reached : CanReach b last
    reached = reached_by (system_of b) free.turns (first_state b)

    within : ComesWithin (system_of b) (length H) (first_state b) last
    within = within-entries (system_of b) free.turns (first_state b) (as_acts H) (length H) (free.makes).events (length-map H acted)

    shared_is : last.shared ≡ record { memory = memory_after b.opening H; queue = without_dues (queue_after H) }
    shared_is =
        free.shared ∙ (sym (shared_same (as_acts H) (first_shared b)) ∙ (Linked.shared (linked start H legal)
        ∙ ap (λ (q : WaitQueue). record { memory = memory_after b.opening H; queue = without_dues q }) (sym (queue_after-all H))))

    started : (m : ℕ) → m < next_id (queue_after H) → places_after (system_of b) (first_shared b) first_places (as_acts H) m ≡ Unstarted → ⊥
    started m known none =
        let same : places_after (runs.system_of start) (first_shared b) first_places (as_acts H)
        ≡ places_after (system_of b) (first_shared b) first_places (as_acts H) =
        ap (λ s. places_after s (first_shared b) first_places (as_acts H)) (system_same b fuel)
        ∙ places_same (machine_of b.program) reply_by shared_by answer_by (begun_by b) fuel (as_acts H) (first_shared b) first_places in
        started_place (queue_after H) m known (sym (stand_after start H legal m) ∙ (ap (λ f. f m) same ∙ none))

    known_at : (m : ℕ) (o : Outcome) → slice_get e.outcomes m ≡ Some o → m < next_id (queue_after H)
    known_at m o at = let within = slice_get_within e.outcomes m o at in let count = ending.count in omega (arith, within, count)

    left_so : (m : ℕ) (o : Outcome) → slice_get e.outcomes m ≡ Some o → last.threads m ≡ Away o
    left_so m o at =
        let known = known_at m o at in
        let begun = known_begins start H m known in
        free.threads m (started m known)
        ∙ (ap (λ c. unmetered (end_if c (outcomes_of m) (lefts m))) begun.1 ∙ ap (λ z. Away z) (sym (ending.are m o at)))

    queue_is : next_id last.shared.queue ≡ next_id (queue_after H)
    queue_is = ap (λ (x : Shared). next_id x.queue) shared_is

    ended : HasEndedSo dump last e
    ended = record {
      count = ending.count ∙ sym queue_is;
      left = left_so;
      others = λ m past. missing b last reached m past;
      pages_are = ending.pages_are ∙ sym (ap (λ (x : Shared). pages x.memory) shared_is);
      bytes_are = ending.bytes_are ∙ sym (ap (λ (x : Shared). take dump (Memory.bytes x.memory)) shared_is);
    }

pub every_run_ends_so : EveryRunEndsSo
every_run_ends_so b fuel loses limit H outcomes_of lefts together dump e ending = (
  last b fuel loses limit H outcomes_of lefts together dump e ending,
  reached b fuel loses limit H outcomes_of lefts together dump e ending,
  ended b fuel loses limit H outcomes_of lefts together dump e ending,
)

pub every_run_ends_within : EveryRunEndsWithin
every_run_ends_within b fuel loses limit H outcomes_of lefts together dump e ending = (
  last b fuel loses limit H outcomes_of lefts together dump e ending,
  within b fuel loses limit H outcomes_of lefts together dump e ending,
  ended b fuel loses limit H outcomes_of lefts together dump e ending,
)
