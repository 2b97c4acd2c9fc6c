-- What threads did together, some schedule without lost tries makes.
use Rattle.std.proofs.Common.{◌≡◌, ℕ, zero, suc, ◌+◌, ◌<◌, ◌≤◌, false, List, [], ◌∷◌, ◌++◌, length, Option, Some, None}
use Rattle.std.proofs.Common.{refl, sym, ◌∙◌, ap, subst, arith, append_assoc}
use Rattle.std.specs.List.{slice_get}
use Rattle.std.proofs.lemmas.Option.{slice_get_within}
use Rattle.types.specs.declared.event.Event.{Event}
use Rattle.types.specs.declared.event.Event.TheVariants as events
use Rattle.types.specs.declared.event.Question.TheVariants.{Leave}
use Rattle.types.specs.declared.event.Answer.{Answer}
use Rattle.types.specs.declared.event.Reply.{Reply}
use Rattle.types.specs.declared.outcome.Outcome.{Outcome}
use Rattle.types.specs.declared.outcome.ThreadReport.{ThreadReport}
use Rattle.types.specs.declared.limits.TheConstants.{MOST_THREADS}
use Rattle.shared_memory.specs.Memory.{pages}
use Rattle.shared_memory.specs.WaitQueue.{next_id}
use Rattle.shared_memory.specs.History.{memory_after, queue_after}
use Rattle.schedule.specs.System.{Act, Act.Made, Act.Heard, Mark, System}
use Rattle.schedule.specs.Histories.{Place.Unstarted, Place.Free, acts_of}
use Rattle.schedule.specs.ThreadRun.{acts}
use Rattle.schedule.specs.Schedules.{schedule_of, IsOneSchedule}
use Rattle.schedule.specs.Machine.{Thread, Thread.Left}
use Rattle.schedule.specs.Theorems.{LeavesLast}
use Rattle.schedule.proofs.Laws.{one_schedule, threads_leave_last}
use Rattle.interp_machine.specs.State.{State}
use Rattle.schedule_threads.specs.Shared.{Shared}
use Rattle.schedule_threads.specs.Threads.{machine_of}
use Rattle.schedule_threads.proofs.Threads.{system_laws}
use Rattle.schedule_threads.proofs.Asking.{machine_laws}
use Rattle.schedule_runs.specs.Runs.{Start, system_of, first_shared, first_state, first_places, as_acts, begins_in, ends_of, HasRun, RanTogether}
use Rattle.schedule_runs.specs.Theorem.{IsOneRun}
use Rattle.schedule_runs.proofs.Places.{place_unstarted}
use Rattle.schedule_runs.proofs.Linked.{IsStarted, stand_after}
use Rattle.schedule_runs.proofs.Beginning.{known_begins}
use Rattle.schedule_runs.proofs.Order.{all_started}
use Rattle.schedule_runs.proofs.Running.{same_acts, threads_make_one_run}
use Rattle.replay_text.specs.declared.parts.RecordParts.{RecordParts}
use Rattle.replay_rules.specs.Recorded.{EndAgrees, MakesLog, state_along, last_places, IsRecordedRun}
use Rattle.replay_rules.specs.Telling.{RecordTells, RunsAreRecorded}
use Rattle.replay_rules.proofs.Free.{free_last}

none_past : (reports : List ThreadReport) (n : ℕ) → slice_get reports n ≡ None → length reports ≤ n
none_past [] n is = omega arith
none_past (x ∷ reports) zero is = absurd (cc is)
none_past (x ∷ reports) (suc n) is = let past : length reports ≤ n = none_past reports n is in omega (arith, past)

module _ (b : Start) (of : RecordParts) (outcomes : ℕ → Outcome) (lefts : ℕ → ℕ)
    (ran : RanTogether b false (Some of.limit) of.log outcomes lefts) (tells : RecordTells b of outcomes lefts) where
  -- the record, with as many threads as a run may have
  abbrev r : RecordParts
  r = record of { threads = MOST_THREADS }

  one : IsOneRun b false (Some r.limit) r.log outcomes lefts
  one = threads_make_one_run b false (Some r.limit) r.log outcomes lefts ran

  abbrev schedule : List Mark
  schedule = schedule_of (as_acts r.log) one.steps

  whole : IsOneSchedule (system_of b) (first_state b) first_places one.steps (ends_of b r.log outcomes lefts) (as_acts r.log) schedule
  whole =
      one_schedule Shared (Thread State Outcome) Event Reply Answer (system_of b)
      (system_laws State (machine_of b.program) b.spawned b.fuel (machine_laws b.program))
      (first_state b) first_places
      one.steps (ends_of b r.log outcomes lefts) (as_acts r.log) one.run

  makes : MakesLog b r schedule
  makes = record {
    legal = one.run.legal;
    ordered = whole.ordered;
    events = one.follows.makes.events;
    full = one.follows.full;
    within = one.follows.within;
    marks = one.follows.marks;
  }

  started : IsStarted b.opening r.log
  started = record { memory = ran.memory; queue = ran.queue; started = all_started b false (Some r.limit) r.log outcomes lefts ran.threads ran.entries }

  -- who was started heard the answer to its leave last
  heard_last : (n : ℕ) (c : State) → begins_in b r.log n ≡ Some c → last_places b r n ≡ Free
  heard_last n c begins =
      let run = HasRun.run (ran.threads n c begins) in
      let s : System Shared (Thread State Outcome) Event Reply Answer = system_of b in
      let last : LeavesLast (machine_of b.program) (acts run.steps) (Left (outcomes n) (lefts n)) =
      threads_leave_last State Event Reply Answer Outcome Shared (machine_of b.program) s.reply s.after s.gives s.starts
      c b.fuel run.steps (Left (outcomes n) (lefts n)) (run.run b.spawned b.fuel) in
      let own : acts_of n (as_acts r.log) ≡ acts run.steps = sym (same_acts b false (Some r.limit) r.log outcomes lefts started ran.threads n c begins) in
      let leave : List (Act Event Reply Answer) = Made (events.Ask Leave) last.reply ∷ [] in
      free_last (system_of b) n (first_shared b) first_places (as_acts r.log) (last.before ++ leave) last.answer one.run.legal
      (own ∙ (last.entries ∙ sym (append_assoc last.before leave (Heard last.answer ∷ []))))

  -- who wasn't, isn't
  unstarted : (k : ℕ) → next_id (queue_after r.log) ≤ k → last_places b r k ≡ Unstarted
  unstarted k past = stand_after b r.log started k ∙ place_unstarted (queue_after r.log) k past

  -- each line agrees
  agrees_with : (m : ℕ) (o : Option ThreadReport) → slice_get r.ends m ≡ o → EndAgrees r (state_along b r schedule) (last_places b r) m o
  agrees_with m (Some report) is =
      let within : m < length r.ends = slice_get_within r.ends m report is in
      let begun : (c : State) × (begins_in b r.log m ≡ Some c) = known_begins b r.log m (omega (arith, within, tells.count)) in
      let told : (report.outcome ≡ outcomes m) × (report.spent + lefts m ≡ r.fuel) = tells.reports m report is in
      (lefts m, one.gives.threads m begun.0 begun.1 ∙ ap (λ (o : Outcome). Left o (lefts m)) (sym told.0), told.1, heard_last m begun.0 begun.1)
  agrees_with m None is =
      let past : length r.ends ≤ m = none_past r.ends m is in
      (ap pages one.gives.memory ∙ sym tells.pages_are, λ k beyond. unstarted k (omega (arith, past, beyond, tells.count)))

  pub recorded : IsRecordedRun b r (memory_after b.opening r.log)
  recorded = record { schedule = schedule; makes = makes; agrees = λ m within. agrees_with m (slice_get r.ends m) refl; memory = one.gives.memory }

pub runs_are_recorded : RunsAreRecorded
runs_are_recorded b r outcomes lefts ran tells =
    subst (λ (x : RecordParts). IsRecordedRun b x (memory_after b.opening r.log))
    (ap (λ (k : ℕ). record r { threads = k }) (sym tells.threads)) (recorded b r outcomes lefts ran tells)
