-- A thread that leaves, and one that may be taken.
use Rattle.std.proofs.Common.{◌≡◌, ℕ, ◌<◌, ◌||◌, Bool, true, false, not, List, length, length-set, Option, Some, None}
use Rattle.std.proofs.Common.{refl, sym, ◌∙◌, ap, subst, inl, arith, get_or, get_or-set_same}
use Rattle.std.proofs.Common.{get_or-set_other, slice_get, slice_set}
use Rattle.std.specs.Prelude.{is_some}
use Rattle.types.specs.declared.event.Event.TheVariants as events
use Rattle.types.specs.declared.event.Question.TheVariants.{Leave}
use Rattle.types.specs.declared.event.Answer.{Answer}
use Rattle.types.specs.declared.event.Reply.TheVariants as replies
use Rattle.types.specs.declared.outcome.Outcome.{Outcome}
use Rattle.types.specs.declared.limits.TheConstants.{MOST_THREADS}
use Rattle.shared_memory.specs.WaitQueue.{WaitQueue, is_alive, is_asleep, answer_due, next_id, has_open_question}
use Rattle.shared_memory.specs.History.{queue_step}
use Rattle.schedule.specs.Scheduled.{hears_any, or_started}
use Rattle.schedule.specs.Histories.{Place.Free, placed}
use Rattle.schedule.specs.Machine.{Thread.Absent, Thread.Runs, Thread.Over, Thread.Leaves, Thread.Left, thread_takes}
use Rattle.interp_machine.specs.Program.{Program}
use Rattle.interp_machine.specs.State as states
use Rattle.schedule_threads.specs.Threads.{machine_of}
use Rattle.schedule_runs.proofs.Places.{place_free}
use Rattle.interp_trait.specs.Turns.{Running, outcome_of, left_of, Meaning, IsHere}
use Rattle.replay_walk.specs.Standing.{StandsAt, Standing, IsStanding, IsSettledOn, IsGoing, HasGone, system_at, made_by}
use Rattle.replay_walk.proofs.Events.{IsFreePlace, free_place, stands_after}
use Rattle.replay_walk.proofs.Places.{leaves_at}
use Rattle.replay_walk.proofs.Made.{is_free, no_start, settled_alike}
use Rattle.replay_walk.proofs.Asked.{asks_nobody, same_count}

-- who has ended leaves with its outcome, and with the units that it has left
takes_leave : (p : Program) (u : Running) (outcome : Outcome) → IsHere u → outcome_of u ≡ Some outcome
    → thread_takes (machine_of p) u replies.Done ≡ Leaves outcome (left_of u)
takes_leave p Absent outcome here is = absurd here
takes_leave p (Runs (states.At c) left) outcome here is = absurd (cc is)
takes_leave p (Runs (states.Over o) left) outcome here is = let same : o ≡ outcome = cc is in ap (λ x. Leaves x left) same
takes_leave p (Over o left) outcome here is = let same : o ≡ outcome = cc is in ap (λ x. Leaves x left) same
takes_leave p (Leaves o left) outcome here is = absurd here
takes_leave p (Left o left) outcome here is = absurd here

closed : (asleep : Bool) (due : Option Answer) → (asleep || is_some due) ≡ false → (asleep ≡ false) × (due ≡ None)
closed true due h = absurd (cc h)
closed false None h = (refl, refl)
closed false (Some a) h = absurd (cc h)

-- what `is_none` says
pub none_of : (o : Option Outcome) (b : Bool) → is_some o ≡ not b → b ≡ true → o ≡ None
none_of None b h is = refl
none_of (Some x) b h is = let bad : true ≡ false = h ∙ ap not is in absurd (cc bad)

pub some_of : (o : Option Outcome) (b : Bool) → is_some o ≡ not b → b ≡ false → (x : Outcome) × (o ≡ Some x)
some_of None b h is = let bad : false ≡ true = h ∙ ap not is in absurd (cc bad)
some_of (Some x) b h is = (x, refl)

module _ {S : Type 0} (meaning : S → Meaning) where
  module _ (s : Standing) (threads : List S) (queue : WaitQueue) (begun : ℕ) (ends : List (Option Outcome)) (n : ℕ) (t : Running)
      (on : IsSettledOn meaning s threads queue begun ends n t) where
    nobody_starts : (m : ℕ) (x : Running) → (system_at s).starts (s.state.shared) n (events.Ask Leave) m ≡ Some x → ⊥
    nobody_starts m x k = asks_nobody s n Leave (inl refl) m x k

    pub left_on : (u : Running) (outcome : Outcome) → n < MOST_THREADS → outcome_of u ≡ Some outcome → left_of u ≡ left_of t → IsHere u
        → IsStanding meaning (made_by s n (events.Ask Leave) replies.Done u) threads
        (queue_step queue n (events.Ask Leave) replies.Done) begun (slice_set ends n (Some outcome))
    left_on u outcome number over same here =
        let free = is_free meaning s threads queue begun ends n t on in
        let ends' : List (Option Outcome) = slice_set ends n (Some outcome) in
        let within : n < length ends = subst (λ k. n < k) (sym (on.standing).slots) number in
        stands_after meaning s on.before queue begun ends on.standing n (events.Ask Leave) replies.Done tt free refl u on.free threads begun ends'
        ((on.standing).started ∙ same_count queue n Leave replies.Done (inl refl))
        (length-set ends n (Some outcome) ∙ (on.standing).slots)
        (λ m h. get_or-set_other ends n m (Some outcome) None h)
        (λ m h. no_start meaning s threads queue begun ends n t on (slice_get on.before m) (slice_get threads m)
        ((system_at s).starts (s.state.shared) n (events.Ask Leave) m) (nobody_starts m)
        (on.others m h))
        (settled_alike meaning s threads queue begun ends n t on)
        (λ m x k. absurd (nobody_starts m x k))
        (subst (λ (o : Option Outcome). StandsAt meaning s.program s.worker (placed ((system_at s).starts (s.state.shared) n (events.Ask Leave) n)
        ((system_at s).gives (s.state.shared) n (events.Ask Leave) n) true Free)
        (or_started ((system_at s).starts (s.state.shared) n (events.Ask Leave) n) (hears_any (system_at s) (thread_takes (machine_of s.program) u replies.Done)
        ((system_at s).gives (s.state.shared) n (events.Ask Leave) n)))
        (slice_get threads n) o (is_alive (queue_step queue n (events.Ask Leave) replies.Done) n)) (sym (get_or-set_same ends n (Some outcome) None within))
        (leaves_at meaning s.program s.worker s.budget (thread_takes (machine_of s.program) u replies.Done) t outcome (slice_get threads n) on.thread
        (is_alive (queue_step queue n (events.Ask Leave) replies.Done) n)
        ((system_at s).starts (s.state.shared) n (events.Ask Leave) n)
        ((system_at s).gives (s.state.shared) n (events.Ask Leave) n) (nobody_starts n) on.at on.stood
        (takes_leave s.program u outcome here over ∙ ap (λ k. Leaves outcome k) same)))

  module _ (s : Standing) (threads : List S) (queue : WaitQueue) (begun : ℕ) (ends : List (Option Outcome))
      (st : IsStanding meaning s threads queue begun ends) (n : ℕ) where
    -- who stands in its place, by how it left
    at_free : s.places n ≡ Free → (end : Option Outcome) → get_or ends n None ≡ end
        → StandsAt meaning s.program s.worker Free (s.state.threads n) (slice_get threads n) end (is_alive queue n)
    at_free free end is =
        subst (λ (o : Option Outcome). StandsAt meaning s.program s.worker Free (s.state.threads n) (slice_get threads n) o (is_alive queue n)) is
        (subst (λ p. StandsAt meaning s.program s.worker p (s.state.threads n) (slice_get threads n) (get_or ends n None) (is_alive queue n)) free (st.each n))

    pub going_at : n < begun → has_open_question queue n ≡ false → get_or ends n None ≡ None → IsGoing meaning s threads queue ends n
    going_at known none is =
        let parts = closed (is_asleep queue n) (answer_due queue n) none in
        let free : s.places n ≡ Free = st.places n ∙ place_free queue n (subst (λ k. n < k) st.started known) parts.0 parts.1 in
        let at = at_free free None is in record { free = free; runs = at.0; alive = at.1; going = is }

    -- its place is free
    pub is_known : s.places n ≡ Free → n < begun
    is_known free = subst (λ k. n < k) (sym st.started) (IsFreePlace.known (free_place queue n (sym (st.places n) ∙ free)))

    pub has_none_open : s.places n ≡ Free → has_open_question queue n ≡ true → ⊥
    has_none_open free open_ =
        let place = free_place queue n (sym (st.places n) ∙ free) in
        let none : has_open_question queue n ≡ false = (λ i. place.awake i || is_some (place.told i)) in absurd (cc (sym open_ ∙ none))

    pub is_below : s.places n ≡ Free → n < length ends
    is_below free =
        let known : n < begun = is_known free in
        let started : begun ≡ next_id queue = st.started in omega (arith, st.sound.few, st.sound.due_length, st.slots)

    pub gone_at : s.places n ≡ Free → (outcome : Outcome) → get_or ends n None ≡ Some outcome → HasGone (s.state.threads n)
    gone_at free outcome is = let at = at_free free (Some outcome) is in record { outcome = outcome; left = at.0; gone = at.1 }
