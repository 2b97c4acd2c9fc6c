-- Threads that ran, and made a legal history together, are threads of a run as the theorem of one schedule asks for it.
use Rattle.std.proofs.Common.{◌≡◌, ◌≢◌, ℕ, ◌<◌, ◌≤◌, Bool, List, [], ◌++◌, Option, Some, None, refl, sym, ◌∙◌, ap}
use Rattle.std.proofs.Common.{subst, ◌⊎◌, inl, inr, arith, zero, suc, append_assoc}
use Rattle.std.proofs.lemmas.Bool.{cases_eq, cases_lt}
use Rattle.types.specs.declared.event.Event.{Event}
use Rattle.types.specs.declared.event.Answer.{Answer}
use Rattle.types.specs.declared.event.Reply.{Reply}
use Rattle.types.specs.declared.event.Entry as entries
use Rattle.types.specs.declared.outcome.Outcome.{Outcome}
use Rattle.shared_memory.specs.WaitQueue.{next_id}
use Rattle.shared_memory.specs.History.{queue_after}
use Rattle.waiters.specs.Queue.{arg_of}
use Rattle.schedule.specs.System.{Want.Gone, Step, Step.Own, Step.Lost, Step.Full, Step.Acts, Mark, put}
use Rattle.schedule.specs.System as systems
use Rattle.schedule.specs.ThreadRun.{IsThreadRun, Laws, acts}
use Rattle.schedule.specs.Scheduled.{scheduled_run}
use Rattle.schedule.specs.Histories.{Place, Place.Unstarted, Place.Free, IsClosed, acts_of, places_after}
use Rattle.schedule.specs.Tries.{HasSeen}
use Rattle.schedule.specs.Tries as tries
use Rattle.schedule.specs.Schedules.{schedule_of, ThreadsRun, AllHaveSeen, IsOneSchedule, GivesEnds, AllGone}
use Rattle.schedule.specs.Machine.{Thread, Thread.Absent, Thread.Runs, Thread.Left}
use Rattle.schedule.proofs.Basics.{put-same, put-other}
use Rattle.schedule.proofs.Apart.{none_behind}
use Rattle.schedule.proofs.Orderly.{acts_seen}
use Rattle.schedule.proofs.Laws.{one_schedule, schedule_follows, every_other_gives_the_same}
use Rattle.interp_machine.specs.State.{State}
use Rattle.schedule_threads.specs.Shared.{Shared, try_rules}
use Rattle.schedule_threads.specs.Threads.{machine_of}
use Rattle.schedule_threads.specs.Seeing.{RunsToEnd}
use Rattle.schedule_threads.proofs.Threads.{system_laws}
use Rattle.schedule_threads.proofs.Asking.{machine_laws}
use Rattle.schedule_runs.specs.Runs.{Start, system_of, first_shared, first_state, first_places, as_acts, begins_in}
use Rattle.schedule_runs.specs.Runs.{if_spawned, HasRun, AllHaveRun, AreOfThreads, end_if, ends_of}
use Rattle.schedule_runs.specs.Theorem.{AllHaveLeft, GivesTheSame, IsOneRun, ThreadsMakeOneRun}
use Rattle.schedule_runs.proofs.Places.{place_unstarted, started_place}
use Rattle.schedule_runs.proofs.Linked.{IsStarted, Linked, linked, prefix_legal, stand_after}
use Rattle.schedule_runs.proofs.Beginning.{begins_known, known_begins, started_run}
use Rattle.schedule_runs.proofs.Idle.{idle}
use Rattle.schedule_runs.proofs.Order.{sees_more, entry_started, all_started}
use Rattle.schedule_runs.proofs.Leaving.{LeaveIsLast, leave_last}
use Rattle.schedule_runs.proofs.Turns.{all_turns}
use Rattle.shared_memory.specs.Legal.{IsWellFormed}
use Rattle.schedule_runs.proofs.Seen.{as_acts-append, others_acts, memory_along, back_run, seen_acts}

laws : (b : Start) → Laws (system_of b)
laws b = system_laws State (machine_of b.program) b.spawned b.fuel (machine_laws b.program)

-- at first

first_cases : (n : ℕ) → ((n ≡ 0) × (first_places n ≡ Free)) ⊎ ((n ≢ 0) × (first_places n ≡ Unstarted))
first_cases n = elim (cases_eq n 0) [
  | inl e ↦ inl (e, subst (λ (k : ℕ). first_places k ≡ Free) (sym e) (put-same (λ (m : ℕ). Unstarted) 0 Free))
  | inr apart ↦ inr (apart, put-other (λ (m : ℕ). Unstarted) 0 Free n apart)
]

module _ (b : Start) (loses : Bool) (limit : Option ℕ) (H : List entries.Entry) (outcomes : ℕ → Outcome) (lefts : ℕ → ℕ) (legal : IsStarted b.opening H)
    (ran : AllHaveRun b loses limit H outcomes lefts) where
  -- the steps of each thread

  steps_in : (n : ℕ) (o : Option State) → begins_in b H n ≡ o → List (Step Event Reply Answer)
  steps_in n None is = []
  steps_in n (Some c) is = RunsToEnd.steps (HasRun.run (ran n c is))

  steps : ℕ → List (Step Event Reply Answer)
  steps n = steps_in n (begins_in b H n) refl

  abbrev ends : ℕ → Thread State Outcome
  ends n = ends_of b H outcomes lefts n

  -- what holds of a thread's run holds of its steps and end
  by_run_in : (Q : State → List (Step Event Reply Answer) → Thread State Outcome → Type 0) (n : ℕ) (c : State)
      (o : Option State) (e : begins_in b H n ≡ o) → o ≡ Some c
      → ((c' : State) (is : begins_in b H n ≡ Some c') → Q c' (RunsToEnd.steps (HasRun.run (ran n c' is))) (Left (outcomes n) (lefts n)))
      → Q c (steps_in n o e) (end_if o (outcomes n) (lefts n))
  unfolding steps_in
  by_run_in Q n c None e is holds = absurd (cc is)
  by_run_in Q n c (Some d) e is holds =
      let same : d ≡ c = cc is in subst (λ (a : State). Q a (RunsToEnd.steps (HasRun.run (ran n d e))) (Left (outcomes n) (lefts n))) same (holds d e)

  by_run : (Q : State → List (Step Event Reply Answer) → Thread State Outcome → Type 0) (n : ℕ) (c : State) → begins_in b H n ≡ Some c
      → ((c' : State) (is : begins_in b H n ≡ Some c') → Q c' (RunsToEnd.steps (HasRun.run (ran n c' is))) (Left (outcomes n) (lefts n)))
      → Q c (steps n) (ends n)
  unfolding steps
  by_run Q n c is holds = by_run_in Q n c (begins_in b H n) refl is holds

  -- a thread that isn't started has no steps
  none_in : (n : ℕ) (o : Option State) (e : begins_in b H n ≡ o) → next_id (queue_after H) ≤ n → steps_in n o e ≡ []
  unfolding steps_in
  none_in n None e past = refl
  none_in n (Some c) e past = let known : n < next_id (queue_after H) = begins_known b H n c e in absurd (omega arith)

  no_steps : (n : ℕ) → next_id (queue_after H) ≤ n → steps n ≡ []
  unfolding steps
  no_steps n past = none_in n (begins_in b H n) refl past

  -- its acts are its entries
  pub same_acts : (n : ℕ) (c : State) (is : begins_in b H n ≡ Some c) → acts (RunsToEnd.steps (HasRun.run (ran n c is))) ≡ acts_of n (as_acts H)
  same_acts n c is =
      let r : HasRun b loses limit H n c (outcomes n) (lefts n) = ran n c is in
      let run : RunsToEnd b.program loses b.opening limit n (Runs c b.fuel) (outcomes n) (lefts n) r.before r.last = r.run in
      let seen : tries.SeesAll (system_of b) (try_rules loses limit) (first_shared b) n (as_acts r.before) run.steps (as_acts r.last) =
      seen_acts b loses limit n r.before r.last run.steps
      (back_run b.program b.spawned b.fuel run.steps (Runs c b.fuel) (Left (outcomes n) (lefts n))
      (run.run b.spawned b.fuel)) run.sees in
      let whole : acts_of n (as_acts r.last) ≡ acts run.steps =
      acts_seen (system_of b) (try_rules loses limit) (first_shared b) n run.steps (as_acts r.before)
      (as_acts r.last) seen ∙ ap (λ w. w ++ acts run.steps) (others_acts n r.before r.fresh) in
      sym (ap (λ w. acts_of n (as_acts w)) r.history ∙ (ap (acts_of n) (as_acts-append r.last r.unseen)
      ∙ (none_behind n (as_acts r.last) (as_acts r.unseen) (others_acts n r.unseen r.apart) ∙ whole)))

  acts_are : (n : ℕ) → acts (steps n) ≡ acts_of n (as_acts H)
  acts_are n =
      elim (cases_lt n (next_id (queue_after H))) [
        | inl known ↦ (let begun : (c : State) × (begins_in b H n ≡ Some c) = known_begins b H n known in
            by_run (λ a r t. acts r ≡ acts_of n (as_acts H)) n begun.0 begun.1 (same_acts n))
        | inr past ↦ ap acts (no_steps n past) ∙ sym (idle b H n legal past)
      ]

  -- where it is in the end
  abbrev after : ℕ → Place Answer
  after n = places_after (system_of b) (first_shared b) first_places (as_acts H) n

  known_after : (n : ℕ) → after n ≢ Unstarted → n < next_id (queue_after H)
  known_after n there =
      elim (cases_lt n (next_id (queue_after H))) [
        | inl known ↦ known
        | inr past ↦
            absurd (there (stand_after b H legal n ∙ place_unstarted (queue_after H) n past))
      ]

  unknown_after : (n : ℕ) → after n ≡ Unstarted → next_id (queue_after H) ≤ n
  unknown_after n is =
      elim (cases_lt n (next_id (queue_after H))) [
        | inl known ↦
            absurd (started_place (queue_after H) n known (sym (stand_after b H legal n) ∙ is))
        | inr past ↦ past
      ]

  begun_after : (n : ℕ) → after n ≢ Unstarted → (c : State) × (begins_in b H n ≡ Some c)
  begun_after n there = known_begins b H n (known_after n there)

  there_after : (n : ℕ) (c : State) → begins_in b H n ≡ Some c → after n ≢ Unstarted
  there_after n c is none = started_place (queue_after H) n (begins_known b H n c is) (sym (stand_after b H legal n) ∙ none)

  -- it runs to its end
  thread_run : (n : ℕ) (c : State) → begins_in b H n ≡ Some c → IsThreadRun (system_of b) (Runs c b.fuel) (steps n) (ends n)
  thread_run n c is =
      by_run (λ a r t. IsThreadRun (system_of b) (Runs a b.fuel) r t) n c is (λ c' is'. RunsToEnd.run (HasRun.run (ran n c' is')) b.spawned b.fuel)

  spawned_run : (m arg : ℕ) → arg_of (queue_after H) m ≡ Some arg → IsThreadRun (system_of b) (Runs (b.spawned m arg) b.fuel) (steps m) (ends m)
  spawned_run zero arg is = absurd (cc is)
  spawned_run (suc k) arg is = thread_run (suc k) (b.spawned (suc k) arg) (ap (if_spawned (b.spawned (suc k))) is)

  first_run : (n : ℕ) → first_places n ≡ Free → IsThreadRun (system_of b) (systems.State.threads (first_state b) n) (steps n) (ends n)
  first_run n is =
      elim (first_cases n) [
        | inl at ↦ subst (λ (k : ℕ). IsThreadRun (system_of b) (systems.State.threads (first_state b) k) (steps k) (ends k)) (sym at.0)
            (subst (λ (t : Thread State Outcome). IsThreadRun (system_of b) t (steps 0) (ends 0))
            (sym (put-same (λ (m : ℕ). Absent) 0 (Runs b.main b.fuel))) (thread_run 0 b.main refl))
        | inr at ↦ absurd (cc (is, at.1))
      ]

  threads_run : ThreadsRun (system_of b) (first_state b) first_places steps ends (as_acts H)
  threads_run = record {
    legal = Linked.legal (linked b H legal);
    closed = λ m. elim (first_cases m) [
      | inl at ↦ subst (λ (p : Place Answer). IsClosed p)
          (sym at.1) tt
      | inr at ↦ subst (λ (p : Place Answer). IsClosed p) (sym at.1) tt
    ];
    idle = λ m is. elim (first_cases m) [
      | inl at ↦ absurd (cc (is, at.1))
      | inr at ↦ ap (systems.System.wants (system_of b)) (put-other (λ (k : ℕ). Absent) 0 (Runs b.main b.fuel) m at.0)
    ];
    runs = first_run;
    started = started_run b H steps ends legal spawned_run;
    entries = acts_are;
    no_steps = λ m is. no_steps m (unknown_after m is);
  }

  -- and saw the history
  run_seen : (n : ℕ) (c : State) (is : begins_in b H n ≡ Some c)
      → HasSeen (system_of b) (try_rules loses limit) (first_shared b) first_places (as_acts H) n (RunsToEnd.steps (HasRun.run (ran n c is)))
  run_seen n c is =
      let r : HasRun b loses limit H n c (outcomes n) (lefts n) = ran n c is in
      let run : RunsToEnd b.program loses b.opening limit n (Runs c b.fuel) (outcomes n) (lefts n) r.before r.last = r.run in
      let more : (more : List entries.Entry) × (r.last ≡ r.before ++ more) = sees_more loses b.opening limit n r.before r.last run.steps run.sees in
      let list : H ≡ r.before ++ (more.0 ++ r.unseen) = r.history ∙ (ap (λ w. w ++ r.unseen) more.1 ∙ append_assoc r.before more.0 r.unseen) in
      let before_legal : IsStarted b.opening r.before = prefix_legal b.opening r.before (more.0 ++ r.unseen) (subst (IsStarted b.opening) list legal) in
      record {
        begun = as_acts r.before;
        started = λ none. started_place (queue_after r.before) n (begins_known b r.before n c r.begun) (sym (stand_after b r.before before_legal n) ∙ none);
        fresh = others_acts n r.before r.fresh;
        last = as_acts r.last;
        sees = seen_acts b loses limit n r.before r.last run.steps
            (back_run b.program b.spawned b.fuel run.steps (Runs c b.fuel) (Left (outcomes n) (lefts n))
            (run.run b.spawned b.fuel)) run.sees;
        unseen = as_acts r.unseen;
        history = ap as_acts r.history ∙ as_acts-append r.last r.unseen;
      }

  all_seen : AllHaveSeen (system_of b) (try_rules loses limit) (first_state b) first_places steps (as_acts H)
  all_seen n there =
      let begun : (c : State) × (begins_in b H n ≡ Some c) = begun_after n there in
      by_run (λ a r t. HasSeen (system_of b) (try_rules loses limit) (first_shared b) first_places (as_acts H) n r) n begun.0 begun.1 (run_seen n)

  -- so the theorem of one schedule applies

  end_is : (n : ℕ) (c : State) → begins_in b H n ≡ Some c → ends n ≡ Left (outcomes n) (lefts n)
  end_is n c is = ap (λ o. end_if o (outcomes n) (lefts n)) is

  gives_the_same : (S : List Mark) → GivesEnds (system_of b) (first_state b) first_places ends (as_acts H) S → GivesTheSame b H outcomes lefts S
  gives_the_same S gives = record {
    memory = ap Shared.memory gives.shared ∙ memory_along b (first_shared b) b.opening H refl;
    threads = λ n c is. gives.threads n (there_after n c is) ∙ end_is n c is;
  }

  all_gone : (S : List Mark) → AllHaveLeft b H S → AllGone (system_of b) (first_state b) first_places (as_acts H) S
  all_gone S left n there =
      let begun : (c : State) × (begins_in b H n ≡ Some c) = begun_after n there in
      let end : (outcome : Outcome) × (more : ℕ)
      × (systems.State.threads (scheduled_run (system_of b) (first_state b) S) n ≡ Left outcome more) =
      left n begun.0 begun.1 in
      ap (systems.System.wants (system_of b)) end.2

  one : IsOneSchedule (system_of b) (first_state b) first_places steps ends (as_acts H) (schedule_of (as_acts H) steps)
  one = one_schedule Shared (Thread State Outcome) Event Reply Answer (system_of b) (laws b) (first_state b) first_places steps ends (as_acts H) threads_run

  -- each thread's leave and its answer are its last
  leaves_last : (n : ℕ) → LeaveIsLast (acts (steps n))
  leaves_last n =
      elim (cases_lt n (next_id (queue_after H))) [
        | inl known ↦ (let begun : (c : State) × (begins_in b H n ≡ Some c) = known_begins b H n known in
            leave_last b.program b.spawned b.fuel (steps n) (Runs begun.0 b.fuel) (ends n) (thread_run n begun.0 begun.1))
        | inr past ↦ subst (λ (r : List (Step Event Reply Answer)). LeaveIsLast (acts r)) (sym (no_steps n past)) tt
      ]

  module _ (of_threads : AreOfThreads b H) where
    turns : IsWellFormed H
    turns =
        all_turns b H legal (entry_started b loses limit H outcomes lefts ran of_threads) (IsOneSchedule.ordered one)
        (λ n. subst LeaveIsLast (acts_are n) (leaves_last n))

    pub is_one_run : IsOneRun b loses limit H outcomes lefts
    is_one_run = record {
      turns = turns;
      steps = steps;
      run = threads_run;
      seen = all_seen;
      follows = schedule_follows Shared (Thread State Outcome) Event Reply Answer (List ℕ) (system_of b)
          (try_rules loses limit) (laws b) (first_state b) first_places steps ends (as_acts H) threads_run all_seen;
      gives = gives_the_same (schedule_of (as_acts H) steps) (IsOneSchedule.gives one);
      others = λ S makes losses left. gives_the_same S
          (every_other_gives_the_same Shared (Thread State Outcome) Event Reply Answer (system_of b) (laws b)
          (first_state b) first_places steps ends (as_acts H) threads_run S makes losses (all_gone S left));
    }

pub threads_make_one_run : ThreadsMakeOneRun
threads_make_one_run b loses limit H outcomes lefts together =
    let started : IsStarted b.opening H = record {
      memory = together.memory;
      queue = together.queue;
      started = all_started b loses limit H outcomes lefts together.threads together.entries;
    } in
    is_one_run b loses limit H outcomes lefts started together.threads together.entries
