-- A thread that makes the event that it wants.
use Rattle.std.proofs.Common.{◌≡◌, ◌≢◌, ℕ, zero, suc, ◌-◌, ◌<◌, ◌≤◌, true, false, List, length, Option, Some, None}
use Rattle.std.proofs.Common.{refl, sym, ◌∙◌, ap, subst, arith, get_or, slice_get, slice_set, length-set}
use Rattle.std.proofs.lemmas.Option.{slice_get_within}
use Rattle.types.specs.declared.event.Event.{Event}
use Rattle.types.specs.declared.event.Event.TheVariants as events
use Rattle.types.specs.declared.event.Question.{Question}
use Rattle.types.specs.declared.event.Reply.{Reply}
use Rattle.types.specs.declared.event.Reply.TheVariants as replies
use Rattle.types.specs.declared.outcome.Outcome.{Outcome}
use Rattle.types.specs.declared.limits.TheConstants.{MOST_THREADS}
use Rattle.shared_memory.specs.Memory.{reply_of}
use Rattle.shared_memory.specs.Events.{is_exempt}
use Rattle.shared_memory.specs.WaitQueue.{WaitQueue, is_alive, next_id, IsFree}
use Rattle.shared_memory.specs.History.{queue_step}
use Rattle.schedule.specs.System.{Want.Calls, Want.Awaits}
use Rattle.schedule.specs.Histories.{Place.Unstarted, Place.Free, placed}
use Rattle.schedule.specs.Machine.{Wish, Wish.Asks, Thread.Absent, Thread.Runs, Thread.Over, Thread.Leaves, Thread.Left, wanted, thread_takes, takes_by}
use Rattle.interp_machine.specs.Program.{Program}
use Rattle.interp_machine.specs.Config as configs
use Rattle.interp_machine.specs.Config.{Config}
use Rattle.interp_machine.specs.Step.{next}
use Rattle.interp_machine.specs.State as states
use Rattle.interp_machine.specs.State.{State, replied}
use Rattle.schedule_threads.specs.Shared.{is_question}
use Rattle.schedule_threads.specs.Threads.{machine_of, wishes, wish_of}
use Rattle.schedule_threads.proofs.Asking.{machine_laws}
use Rattle.schedule_runs.proofs.Places.{place_unstarted}
use Rattle.interp_trait.specs.Turns.{Running, outcome_of, outcome_in, wants_of, after_reply, Meaning, IsHere, spawn_types}
use Rattle.interp_trait.specs.declared.turn.Turn.{Turn}
use Rattle.interp_trait.specs.declared.turn.Given.TheVariants as given
use Rattle.replay_walk.specs.Standing.{StandsAt, Standing, IsStanding, IsSettledOn, IsTurnedAt, IsAnswered, system_at, made_by}
use Rattle.replay_walk.proofs.Told.{slice_get-set_same, slice_get-set_other}
use Rattle.replay_walk.proofs.Events.{IsFreePlace, free_place, IsMade, step, stands_after}
use Rattle.replay_walk.proofs.Places.{SlotGoes, here_at}
use Rattle.replay_walk.proofs.Living.{step_alive}
use Rattle.schedule.proofs.Basics.{at_each}
use Rattle.schedule.specs.Scheduled.{hears_any, or_started}

-- what a running thread that wants an event wishes, and what the reply makes of it
asks_wish : (p : Program) (c : Config) (left : ℕ) (e : Event) (go : configs.Next) → wanted (machine_of p) left (wish_of go) ≡ Calls e → wish_of go ≡ Asks e
asks_wish p c left e configs.Stuck h = absurd (cc h)
asks_wish p c left e (configs.Goes x) h = absurd (cc h)
asks_wish p c left e (configs.Traps x) h = absurd (cc h)
asks_wish p c left e (configs.Finishes x) h = absurd (cc h)
asks_wish p c left e (configs.Hears go) h = absurd (cc h)
asks_wish p c zero e (configs.Asks x go) h = absurd (cc h)
asks_wish p c (suc n) e (configs.Asks x go) h = let same : x ≡ e = cc h in ap (λ y. Asks y) same

pub record Takes (p : Program) (t : Running) (e : Event) (v : Reply) : Type 0 where
  pub here : IsHere (thread_takes (machine_of p) t v)
  pub outcome : is_question e v ≡ true → outcome_of (thread_takes (machine_of p) t v) ≡ None
  pub waits : is_question e v ≡ true → wants_of p (thread_takes (machine_of p) t v) ≡ Awaits

waits_none : (p : Program) (s : State) → wishes p s ≡ Wish.Waits → outcome_in s ≡ None
waits_none p (states.At c) h = refl
waits_none p (states.Over o) h = absurd (cc h)

takes_asked : (p : Program) (c : State) (left : ℕ) (e : Event) (v : Reply) → wishes p c ≡ Asks e → Takes p (Runs c left) e v
takes_asked p c left e v asks =
    let is : Runs (replied p c v) (left - 1) ≡ thread_takes (machine_of p) (Runs c left) v =
    sym (ap (λ (w : Wish Event Outcome). takes_by (machine_of p) w c left v) asks) in
    record {
      here = subst IsHere is tt;
      outcome = λ opens. subst (λ t. outcome_of t ≡ None) is (waits_none p (replied p c v) ((machine_laws p).opened c e v asks opens));
      waits = λ opens. subst (λ t. wants_of p t ≡ Awaits) is
          (ap (λ (w : Wish Event Outcome). wanted (machine_of p) (left - 1) w)
          ((machine_laws p).opened c e v asks opens));
    }

pub takes : (p : Program) (t : Running) (e : Event) (v : Reply) → IsHere t → outcome_of t ≡ None → wants_of p t ≡ Calls e → Takes p t e v
takes p Absent e v here none wants = absurd here
takes p (Runs (states.At c) left) e v here none wants = takes_asked p (states.At c) left e v (asks_wish p c left e (next p c) wants)
takes p (Runs (states.Over o) left) e v here none wants = absurd (cc none)
takes p (Over o left) e v here none wants = absurd (cc none)
takes p (Leaves o left) e v here none wants = absurd here
takes p (Left o left) e v here none wants = absurd here

taken_by : (p : Program) (t : Running) (v : Reply) → IsAnswered v → after_reply p t v ≡ thread_takes (machine_of p) t v
taken_by p t (replies.Value n) h = refl
taken_by p t replies.Done h = refl
taken_by p t replies.OutOfBounds h = refl
taken_by p t replies.Again h = absurd h
taken_by p t replies.Full h = absurd h

pub made_kind : (e : Event) → is_exempt e ≡ false → IsMade e
made_kind (events.Told a) h = absurd (cc h)
made_kind events.Size h = tt
made_kind (events.Grow more) h = tt
made_kind (events.Load addr width reach) h = tt
made_kind (events.Store addr width reach value) h = tt
made_kind (events.Rmw op addr width value) h = tt
made_kind (events.Cmpxchg addr width expected replacement) h = tt
made_kind (events.Ask question) h = tt

module _ {S : Type 0} (meaning : S → Meaning) where
  module _ (s : Standing) (threads : List S) (queue : WaitQueue) (begun : ℕ) (ends : List (Option Outcome)) (n : ℕ) (t : Running)
      (on : IsSettledOn meaning s threads queue begun ends n t) where
    pub place : IsFreePlace queue n
    place = free_place queue n (sym ((on.standing).places n) ∙ on.free)

    pub is_free : IsFree queue n
    is_free = let p = free_place queue n (sym ((on.standing).places n) ∙ on.free) in record { alive = on.alive; awake = p.awake; told = p.told }

    pub within : n < length threads
    within = slice_get_within threads n on.thread on.at

    pub right : (e : Event) → outcome_of t ≡ None → wants_of s.program t ≡ Calls e → (x : S) → slice_get threads n ≡ Some x
        → (u : Running) × (meaning x).stands u × (outcome_of u ≡ None) × ((y : Event) × (wants_of (meaning x).program u ≡ Calls y))
    right e none wants x at =
        let same : on.thread ≡ x = cc (at, on.at) in (
          t,
          subst (λ y. (meaning y).stands t) same on.stood,
          none,
          (
            e,
            subst (λ (p : Program). wants_of p t ≡ Calls e)
                (sym (subst (λ y. (meaning y).program ≡ s.program) same (on.alike).0)) wants,
          ),
        )

    -- the turn leaves it so
    pub record HasTaken (v : Reply) (after : List S) : Type 0 where
      pub now : S
      pub list : after ≡ slice_set threads n now
      pub alike : ((meaning now).program ≡ s.program) × ((meaning now).fuel ≡ s.budget)
      pub stood : (meaning now).stands (thread_takes (machine_of s.program) t v)

    pub has_taken : (e : Event) (v : Reply) (turn : Turn) (after : List S) → IsAnswered v → outcome_of t ≡ None → wants_of s.program t ≡ Calls e
        → ((x : S) → slice_get threads n ≡ Some x → IsTurnedAt meaning x (given.Reply v) turn threads n after) → HasTaken v after
    has_taken e v turn after answered none wants turned =
        let r = turned on.thread on.at in
        let wants_own : wants_of (meaning on.thread).program t ≡ Calls e = subst (λ (p : Program). wants_of p t ≡ Calls e) (sym (on.alike).0) wants in
        let now = r.turned t on.stood (none, e, wants_own) in
        record {
          now = (r.replaced).now;
          list = (r.replaced).list;
          alike = ((r.replaced).same_program ∙ (on.alike).0, (r.replaced).same_fuel ∙ (on.alike).1);
          stood = subst (λ (p : Program). (meaning (r.replaced).now).stands (thread_takes (machine_of p) t v)) (on.alike).0
              (subst (λ y. (meaning (r.replaced).now).stands y) (taken_by (meaning on.thread).program t v answered) now.after);
        }

    -- who isn't started has its place, and is as it begins
    unstarted : (m : ℕ) → next_id queue ≤ m → (x : S) → slice_get on.before m ≡ Some x → (meaning x).begins spawn_types s.worker
    unstarted m past x at = go (get_or ends m None)
        (subst (λ p. StandsAt meaning s.program s.worker p (s.state.threads m) (slice_get on.before m)
        (get_or ends m None) (is_alive queue m))
        ((on.standing).places m ∙ place_unstarted queue m past) ((on.standing).each m))
      where
        go : (gone : Option Outcome) → StandsAt meaning s.program s.worker Unstarted (s.state.threads m)
            (slice_get on.before m) gone (is_alive queue m) → (meaning x).begins spawn_types s.worker
        go None h = h.1 x at
        go (Some o) h = absurd h

    pub spawn_ready : (v : Reply) (after : List S) → HasTaken v after → length threads ≡ MOST_THREADS → begun < length queue.due
        → (begun < length after) × ((x : S) → slice_get after begun ≡ Some x → (meaning x).begins spawn_types s.worker)
    spawn_ready v after taken full room =
        let started : begun ≡ next_id queue = (on.standing).started in
        let known : n < next_id queue = IsFreePlace.known place in
        let apart : begun ≢ n = omega arith in
        let long : length after ≡ MOST_THREADS = ap length taken.list ∙ (length-set threads n taken.now ∙ full) in
        let below : begun < length after = omega (arith, room, long, ((on.standing).sound).due_length) in (
          below,
          λ x at. unstarted begun (omega arith) x (sym ((on.others) begun apart)
              ∙ (sym (slice_get-set_other threads n begun taken.now apart)
              ∙ (sym (ap (λ l. slice_get l begun) taken.list) ∙ at))),
        )

    -- a list in which one more is another
    pub alike_set : (before : List S) (k : ℕ) (y : S) → k < length before
        → ((m : ℕ) (x : S) → slice_get before m ≡ Some x → ((meaning x).program ≡ s.program)
        × ((meaning x).fuel ≡ s.budget))
        → ((meaning y).program ≡ s.program) × ((meaning y).fuel ≡ s.budget)
        → (m : ℕ) (x : S) → slice_get (slice_set before k y) m ≡ Some x → ((meaning x).program ≡ s.program) × ((meaning x).fuel ≡ s.budget)
    alike_set before k y below alike own =
        at_each k (λ m. (x : S) → slice_get (slice_set before k y) m ≡ Some x → ((meaning x).program ≡ s.program) × ((meaning x).fuel ≡ s.budget))
        (λ x at. let e : y ≡ x = cc (at, slice_get-set_same before k y below) in
        (sym (ap (λ z. (meaning z).program) e) ∙ own.0, sym (ap (λ z. (meaning z).fuel) e) ∙ own.1))
        (λ m h x at. alike m x (sym (slice_get-set_other before k m y h) ∙ at))

    pub settled_alike : (m : ℕ) (x : S) → slice_get threads m ≡ Some x → ((meaning x).program ≡ s.program) × ((meaning x).fuel ≡ s.budget)
    settled_alike =
        at_each n (λ m. (x : S) → slice_get threads m ≡ Some x → ((meaning x).program ≡ s.program) × ((meaning x).fuel ≡ s.budget))
        (λ x at. let e : on.thread ≡ x = cc (at, on.at) in
        (sym (ap (λ z. (meaning z).program) e) ∙ (on.alike).0, sym (ap (λ z. (meaning z).fuel) e) ∙ (on.alike).1))
        (λ m h x at. (on.standing).alike m x (sym (on.others m h) ∙ at))

    pub no_start : (old new : Option S) (start : Option Running) → ((x : Running) → start ≡ Some x → ⊥) → new ≡ old → SlotGoes meaning old new start
    no_start old new None none is = is
    no_start old new (Some x) none is = absurd (none x refl)

    module _ (e : Event) (v : Reply) (kind : is_exempt e ≡ false) (reply : v ≡ reply_of s.memory e)
        (none : outcome_of t ≡ None) (wants : wants_of s.program t ≡ Calls e)
        (after : List S) (taken : HasTaken v after) where
      abbrev starts_in : ℕ → Option Running
      starts_in m = (system_at s).starts (s.state.shared) n e m

      pub slot_here : slice_get after n ≡ Some taken.now
      slot_here = ap (λ l. slice_get l n) taken.list ∙ slice_get-set_same threads n taken.now (slice_get_within threads n on.thread on.at)

      pub slot_other : (m : ℕ) → m ≢ n → slice_get after m ≡ slice_get on.before m
      slot_other m h = ap (λ l. slice_get l m) taken.list ∙ (slice_get-set_other threads n m taken.now h ∙ on.others m h)

      pub after_alike : (m : ℕ) (x : S) → slice_get after m ≡ Some x → ((meaning x).program ≡ s.program) × ((meaning x).fuel ≡ s.budget)
      after_alike m x at = alike_set threads n taken.now (slice_get_within threads n on.thread on.at) settled_alike
          taken.alike m x (sym (ap (λ l. slice_get l m) taken.list) ∙ at)

      pub stands_made : (threads' : List S) (begun' : ℕ) → begun' ≡ next_id (queue_step queue n e v)
          → slice_get threads' n ≡ Some taken.now
          → ((m : ℕ) → m ≢ n → SlotGoes meaning (slice_get on.before m) (slice_get threads' m) (starts_in m))
          → ((m : ℕ) (x : S) → slice_get threads' m ≡ Some x → ((meaning x).program ≡ s.program) × ((meaning x).fuel ≡ s.budget))
          → ((m : ℕ) (x : Running) → starts_in m ≡ Some x → is_alive (queue_step queue n e v) m ≡ true)
          → IsStanding meaning (made_by s n e v t) threads' (queue_step queue n e v) begun' ends
      stands_made threads' begun' count at goes alike born =
          let own = takes s.program t e v on.here none wants in
          let legal = (step meaning s on.before queue begun ends on.standing n e v (made_kind e kind) is_free reply).legal in
          stands_after meaning s on.before queue begun ends on.standing n e v (made_kind e kind) is_free reply t on.free
          threads' begun' ends count (on.standing).slots (λ m h. refl) goes alike born
          (subst (λ (o : Option Outcome). StandsAt meaning s.program s.worker (placed (starts_in n)
          ((system_at s).gives (s.state.shared) n e n) (is_question e v) Free)
          (or_started (starts_in n) (hears_any (system_at s) (thread_takes (machine_of s.program) t v)
          ((system_at s).gives (s.state.shared) n e n))) (slice_get threads' n) o
          (is_alive (queue_step queue n e v) n)) (sym on.going)
          (here_at meaning s.program s.worker s.budget (thread_takes (machine_of s.program) t v)
          (slice_get threads' n) taken.now (is_alive (queue_step queue n e v) n) (starts_in n)
          ((system_at s).gives (s.state.shared) n e n) (is_question e v)
          (λ x k. cc (on.free, legal.2 n x k)) (λ a k. (legal.3 n a k).1 refl) at taken.stood own.here own.outcome own.waits
          (step_alive queue n e v kind on.alive)))

      -- nobody is started
      pub made_plain : ((m : ℕ) (x : Running) → starts_in m ≡ Some x → ⊥) → begun ≡ next_id (queue_step queue n e v)
          → IsStanding meaning (made_by s n e v t) after (queue_step queue n e v) begun ends
      made_plain nobody count =
          stands_made after begun count slot_here (λ m h. no_start (slice_get on.before m) (slice_get after m)
          (starts_in m) (nobody m) (slot_other m h)) after_alike (λ m x k. absurd (nobody m x k))

-- who starts nobody
pub nobody : (s : Standing) (n : ℕ) (e : Event) → ((q : Question) → e ≡ events.Ask q → ⊥) → (m : ℕ) (x : Running)
    → (system_at s).starts (s.state.shared) n e m ≡ Some x → ⊥
nobody s n (events.Ask q) other m x h = other q refl
nobody s n (events.Told a) other m x h = absurd (cc h)
nobody s n events.Size other m x h = absurd (cc h)
nobody s n (events.Grow more) other m x h = absurd (cc h)
nobody s n (events.Load addr width reach) other m x h = absurd (cc h)
nobody s n (events.Store addr width reach value) other m x h = absurd (cc h)
nobody s n (events.Rmw op addr width value) other m x h = absurd (cc h)
nobody s n (events.Cmpxchg addr width expected replacement) other m x h = absurd (cc h)

pub queue_stays : (q : WaitQueue) (n : ℕ) (e : Event) (v : Reply) → is_exempt e ≡ false
    → ((question : Question) → e ≡ events.Ask question → ⊥) → queue_step q n e v ≡ q
queue_stays q n (events.Ask question) v kind other = absurd (other question refl)
queue_stays q n (events.Told a) v kind other = absurd (cc kind)
queue_stays q n events.Size v kind other = refl
queue_stays q n (events.Grow more) v kind other = refl
queue_stays q n (events.Load addr width reach) v kind other = refl
queue_stays q n (events.Store addr width reach value) v kind other = refl
queue_stays q n (events.Rmw op addr width value) v kind other = refl
queue_stays q n (events.Cmpxchg addr width expected replacement) v kind other = refl
