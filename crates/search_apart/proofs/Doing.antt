-- What a thread does next at a state that can be reached, and what its turn makes of the state.
use Rattle.std.proofs.Common.{◌≡◌, ◌≢◌, ◌⊎◌, inl, inr, ℕ, zero, suc, ◌≤◌, Bool, true, false, length, Option, Some, None, refl, sym, ap, ◌∙◌, subst, arith}
use Rattle.std.proofs.lemmas.Bool.{false_from_ne_true}
use Rattle.allowed_races.specs.declared.allowed.Allowed.{Allowed}
use Rattle.types.specs.declared.event.Event.{Event}
use Rattle.types.specs.declared.event.Event.TheVariants as events
use Rattle.types.specs.declared.event.Question.TheVariants.{Leave}
use Rattle.types.specs.declared.event.Answer.{Answer}
use Rattle.shared_memory.specs.Memory.{Memory, reply_of}
use Rattle.shared_memory.specs.WaitQueue.{WaitQueue, is_asleep, answer_due, settled, IsFree}
use Rattle.shared_memory.specs.Sound.{IsSound}
use Rattle.schedule.specs.System.{Want, Want.Turns, Want.Calls, Want.Awaits, Want.Gone, State, put}
use Rattle.schedule.specs.Scheduled.{after_turn, hears_any, or_started}
use Rattle.schedule.proofs.Basics.{put-other}
use Rattle.schedule_threads.specs.Shared.{Shared, without_dues, queue_by}
use Rattle.schedule_threads.specs.Threads.{machine_of, wish_of}
use Rattle.schedule_threads.proofs.Asking.{wants_no_answer}
use Rattle.interp_machine.specs.Config.{Config, Next, Stuck, Goes, Traps, Finishes, Asks, Hears}
use Rattle.interp_machine.specs.Step.{next}
use Rattle.interp_machine.specs.State.{At, Over}
use Rattle.schedule_machine.specs.Runs.{IsOrderly}
use Rattle.schedule_machine.proofs.Orderly.{nothing_due, turns_here, free_asker}
use Rattle.search_graph.specs.Paths.{Goes as GoesSteps}
use Rattle.search_reach.proofs.Paths.{stays, one_step, onward}
use Rattle.search_threads.specs.Unlimited.{Unlimited.Missing, Unlimited.Going, Unlimited.Leaving, Unlimited.Away}
use Rattle.search_threads.specs.Unlimited.{unlimited_wants, unlimited_goes, unlimited_takes, want_by}
use Rattle.search_threads.specs.Budgets.{started_without}
use Rattle.search_settled.specs.Settled.{StepsBy}
use Rattle.search_race_free.specs.Wanted.{after_next}
use Rattle.search_runs.specs.Called.{Called, Walker, system_of, first_state, shared_by, begun_at}
use Rattle.search_runs.specs.Theorems.{CanReach}
use Rattle.search_runs.proofs.Plain.{longer}
use Rattle.search_runs.proofs.Tame.{given, given_wants, orderly, starts_fit}
use Rattle.search_apart.specs.Acts.{Act, own_act, act_by}
use Rattle.search_apart.specs.Turning.{opening_of, act_if, next_act}
use Rattle.search_apart.proofs.Stepping.{EndsWithin, asks_within}
use Rattle.search_apart.proofs.Changes.{Change, Stays, changed, change_of, is-changed, IsIn, change-in}
use Rattle.search_apart.proofs.Calls.{Call, Rests, applied, call_of, IsMade, step-is, quiet-settled, unsettled, other-due, woken-asleep, HasRoomFor, call-room}

abbrev pub World : Type 0
World = State Shared Walker

-- A turn of its own, or an event.
pub data Doing : Type 0 where
  Own : Doing
  Makes : Event → Doing

abbrev pub wanting : Doing → Want Event
wanting Own = Turns
wanting (Makes e) = Calls e

abbrev pub shared_in : Shared → ℕ → Doing → Shared
shared_in x n Own = x
shared_in x n (Makes e) = shared_by x n e

abbrev pub gives_in : Shared → ℕ → Doing → ℕ → Option Answer
gives_in x n Own k = None
gives_in x n (Makes e) k = answer_due (queue_by x n e) k

abbrev pub change_in : Memory → Doing → Change
change_in m Own = Stays
change_in m (Makes e) = change_of m e

abbrev pub call_in : WaitQueue → Memory → Doing → Call
call_in q m Own = Rests
call_in q m (Makes e) = call_of q m e

abbrev pub act_in : Allowed → ℕ → Shared → Walker → Doing → Act
act_in allowed opening x t Own = own_act
act_in allowed opening x t (Makes e) = act_by allowed opening x t e

pub none-or : {X : Type 0} (o : Option X) → ((x : X) → o ≡ Some x → ⊥) → o ≡ None
none-or None h = refl
none-or (Some x) h = absurd (h x refl)

made-or : (e : Event) → ((answer : Answer) → e ≡ events.Told answer → ⊥) → IsMade e
made-or events.Size h = tt
made-or (events.Grow more) h = tt
made-or (events.Load addr width reach) h = tt
made-or (events.Store addr width reach value) h = tt
made-or (events.Rmw op addr width value) h = tt
made-or (events.Cmpxchg addr width expected replacement) h = tt
made-or (events.Ask question) h = tt
made-or (events.Told answer) h = h answer refl

module _ (b : Called) where
  abbrev pub wants_at : World → ℕ → Want Event
  wants_at w n = (system_of b).wants (w.threads n)

  abbrev pub after : World → ℕ → World
  after w n = after_next (system_of b) w n

  abbrev pub self_in : World → ℕ → Doing → Walker
  self_in w n Own = unlimited_goes (machine_of b.program) (w.threads n)
  self_in w n (Makes e) = unlimited_takes (machine_of b.program) (w.threads n) (reply_of w.shared.memory e)

  abbrev pub starts_in : Shared → Doing → ℕ → Option Walker
  starts_in x Own k = None
  starts_in x (Makes e) k = started_without (begun_at b x e k)

  abbrev pub hears : Walker → Option Answer → Walker
  hears t o = hears_any (system_of b) t o

  abbrev made_of : World → ℕ → Doing → World
  made_of w n d = record {
    shared = shared_in w.shared n d;
    threads = λ k. or_started (starts_in w.shared d k) (hears (put w.threads n (self_in w n d) k) (gives_in w.shared n d k));
  }

  pub after-is : (w : World) (n : ℕ) (d : Doing) → wants_at w n ≡ wanting d → after w n ≡ made_of w n d
  after-is w n Own h = ap (after_turn (system_of b) w n) h
  after-is w n (Makes e) h = ap (after_turn (system_of b) w n) h

  -- what it wants, as an act
  doing-by : (allowed : Allowed) (opening : ℕ) (x : Shared) (t : Walker) (a : Act) (want : Want Event) → act_if allowed opening x t want ≡ Some a
      → (d : Doing) × (want ≡ wanting d) × (a ≡ act_in allowed opening x t d)
  doing-by allowed opening x t a Turns h = (Own, refl, (let same : own_act ≡ a = cc h in sym same))
  doing-by allowed opening x t a (Calls e) h = (Makes e, refl, (let same : act_by allowed opening x t e ≡ a = cc h in sym same))
  doing-by allowed opening x t a Awaits h = absurd (cc h)
  doing-by allowed opening x t a Gone h = absurd (cc h)

  pub doing-of : (allowed : Allowed) (w : World) (n : ℕ) (a : Act) → next_act b allowed w n ≡ Some a
      → (d : Doing) × (wants_at w n ≡ wanting d) × (a ≡ act_in allowed (opening_of b) w.shared (w.threads n) d)
  doing-of allowed w n a h = doing-by allowed (opening_of b) w.shared (w.threads n) a (wants_at w n) h

  pub wanted-as : (allowed : Allowed) (w : World) (n : ℕ) (d : Doing) → wants_at w n ≡ wanting d
      → next_act b allowed w n ≡ Some (act_in allowed (opening_of b) w.shared (w.threads n) d)
  wanted-as allowed w n Own h = ap (act_if allowed (opening_of b) w.shared (w.threads n)) h
  wanted-as allowed w n (Makes e) h = ap (act_if allowed (opening_of b) w.shared (w.threads n)) h

  -- ---- Along turns

  pub reach-next : (w : World) (n : ℕ) → CanReach b w → CanReach b (after w n)
  reach-next w n reach =
      onward (StepsBy (system_of b)) (first_state b) w (after w n) reach (one_step (StepsBy (system_of b)) w (after w n) (n, refl))

  along-path : (P : World → Type 0) → ((v : World) → CanReach b v → P v → (n : ℕ) → P (after v n)) → (count : ℕ) (v w : World) → CanReach b v → P v
      → GoesSteps (StepsBy (system_of b)) count v w → P w
  along-path P step zero v w reach here path = subst P path here
  along-path P step (suc count) v w reach here path =
      let turn = path.1 in
      let n = turn.0 in
      along-path P step count path.0 w (subst (CanReach b) (sym turn.1) (reach-next v n reach)) (subst P (sym turn.1) (step v reach here n)) path.2

  pub along : (P : World → Type 0) → P (first_state b) → ((v : World) → CanReach b v → P v → (n : ℕ) → P (after v n)) → (w : World) → CanReach b w → P w
  along P first step w reach = along-path P step reach.count (first_state b) w (stays (StepsBy (system_of b)) (first_state b)) first reach.path

  -- the memory loses no bytes
  want-or : (want : Want Event) → ((d : Doing) → want ≡ wanting d → ⊥) → (want ≡ Awaits) ⊎ (want ≡ Gone)
  want-or Turns h = absurd (h Own refl)
  want-or (Calls e) h = absurd (h (Makes e) refl)
  want-or Awaits h = inl refl
  want-or Gone h = inr refl

  pub resting : (w : World) (n : ℕ) → (wants_at w n ≡ Awaits) ⊎ (wants_at w n ≡ Gone) → after w n ≡ w
  resting w n (inl h) = ap (after_turn (system_of b) w n) h
  resting w n (inr h) = ap (after_turn (system_of b) w n) h

  pub by-want : (P : World → Type 0) (w : World) (n : ℕ) → P w → ((d : Doing) → wants_at w n ≡ wanting d → P (after w n)) → P (after w n)
  by-want P w n here step = by (wants_at w n) refl
    where
      by : (want : Want Event) → wants_at w n ≡ want → P (after w n)
      by Turns h = step Own h
      by (Calls e) h = step (Makes e) h
      by Awaits h = subst P (sym (resting w n (inl h))) here
      by Gone h = subst P (sym (resting w n (inr h))) here

  longer-in : (w : World) (n : ℕ) (d : Doing) → length (Memory.bytes w.shared.memory) ≤ length (Memory.bytes (shared_in w.shared n d).memory)
  longer-in w n Own = omega arith
  longer-in w n (Makes e) = longer w.shared.memory e

  abbrev IsLong : World → Type 0
  IsLong w = opening_of b ≤ length (Memory.bytes w.shared.memory)

  long-step : (v : World) → CanReach b v → IsLong v → (n : ℕ) → IsLong (after v n)
  long-step v reach here n = by-want IsLong v n here (λ d h.
      subst IsLong (sym (after-is v n d h)) (let more = longer-in v n d in omega (arith, here, more)))

  pub least : (w : World) → CanReach b w → opening_of b ≤ length (Memory.bytes w.shared.memory)
  least w reach = along IsLong (omega arith) long-step w reach

  -- an access ends where it says
  ends-next : (c : Config) (e : Event) (x : Next) → next b.program c ≡ x → want_by (machine_of b.program) (wish_of x) ≡ Calls e → EndsWithin e
  ends-next c e Stuck is h = absurd (cc h)
  ends-next c e (Goes later) is h = absurd (cc h)
  ends-next c e (Traps trap) is h = absurd (cc h)
  ends-next c e (Finishes result) is h = absurd (cc h)
  ends-next c e (Asks this go) is h = let same : this ≡ e = cc h in subst EndsWithin same (asks_within b.program c this go is)
  ends-next c e (Hears go) is h = absurd (cc h)

  ends-by : (t : Walker) (e : Event) → unlimited_wants (machine_of b.program) t ≡ Calls e → EndsWithin e
  ends-by Missing e h = absurd (cc h)
  ends-by (Going (At c)) e h = ends-next c e (next b.program c) refl h
  ends-by (Going (Over o)) e h = let same : events.Ask Leave ≡ e = cc h in subst EndsWithin same tt
  ends-by (Leaving o) e h = absurd (cc h)
  ends-by (Away o) e h = absurd (cc h)

  -- ---- At a state that can be reached

  module _ (w : World) (reach : CanReach b w) where
    abbrev q : WaitQueue
    q = w.shared.queue

    abbrev m : Memory
    m = w.shared.memory

    orders : IsOrderly b.program q (λ k. given (w.threads k))
    orders = orderly b w reach

    pub sound : IsSound q
    sound = orders.sound

    pub heard : without_dues q ≡ q
    heard = orders.heard

    pub nothing : (k : ℕ) → answer_due q k ≡ None
    nothing k = nothing_due b.program q (λ j. given (w.threads j)) orders k

    pub asleep-awaits : (k : ℕ) → is_asleep q k ≡ true → wants_at w k ≡ Awaits
    asleep-awaits k h = sym (given_wants b.program (w.threads k)) ∙ orders.awaiting k h

    pub not-asleep : (k : ℕ) → (wants_at w k ≡ Awaits → ⊥) → is_asleep q k ≡ false
    not-asleep k h = false_from_ne_true (is_asleep q k) (λ is. h (asleep-awaits k is))

    pub free : (n : ℕ) (d : Doing) → wants_at w n ≡ wanting d → IsFree q n
    free n Own h = record {
      alive = orders.living n (turns_here b.program (given (w.threads n)) (given_wants b.program (w.threads n) ∙ h));
      awake = not-asleep n (λ a. absurd (cc (a, h)));
      told = nothing n;
    }
    free n (Makes e) h = free_asker b.program q (λ k. given (w.threads k)) n e orders (given_wants b.program (w.threads n) ∙ h)

    pub made : (n : ℕ) (e : Event) → wants_at w n ≡ Calls e → IsMade e
    made n e h = made-or e (λ answer is. wants_no_answer b.program (given (w.threads n)) answer (given_wants b.program (w.threads n) ∙ (h ∙ ap Calls is)))

    pub ends : (n : ℕ) (e : Event) → wants_at w n ≡ Calls e → EndsWithin e
    ends n e h = ends-by (w.threads n) e h

    pub in-memory : (n : ℕ) (d : Doing) → wants_at w n ≡ wanting d → IsIn m (change_in m d)
    in-memory n Own h = tt
    in-memory n (Makes e) h = change-in m e (ends n e h)

    pub room : (d : Doing) → HasRoomFor q (call_in q m d)
    room Own h = absurd (let z : ◌≡◌ {A = Bool} false true = h in cc z)
    room (Makes e) h = call-room q m e h

    -- what is shared behind a turn
    pub memory-after : (n : ℕ) (d : Doing) → wants_at w n ≡ wanting d → (after w n).shared.memory ≡ changed m (change_in m d)
    memory-after n Own h = ap (λ (z : World). z.shared.memory) (after-is w n Own h)
    memory-after n (Makes e) h = ap (λ (z : World). z.shared.memory) (after-is w n (Makes e) h) ∙ is-changed m e

    queue-in : (n : ℕ) (d : Doing) → wants_at w n ≡ wanting d → (shared_in w.shared n d).queue ≡ without_dues (settled (applied n q (call_in q m d)))
    queue-in n Own h = sym heard ∙ ap without_dues (quiet-settled q n (free n Own h))
    queue-in n (Makes e) h = ap without_dues (step-is q n m e (free n (Makes e) h) (made n e h))

    pub queue-after : (n : ℕ) (d : Doing) → wants_at w n ≡ wanting d → (after w n).shared.queue ≡ without_dues (settled (applied n q (call_in q m d)))
    queue-after n d h = ap (λ (z : World). z.shared.queue) (after-is w n d h) ∙ queue-in n d h

    pub gives-are : (n : ℕ) (d : Doing) → wants_at w n ≡ wanting d → (k : ℕ) → gives_in w.shared n d k ≡ answer_due (settled (applied n q (call_in q m d))) k
    gives-are n Own h k = sym (ap (λ z. answer_due z k) (sym (quiet-settled q n (free n Own h))) ∙ nothing k)
    gives-are n (Makes e) h k = ap (λ z. answer_due z k) (step-is q n m e (free n (Makes e) h) (made n e h))

    -- and the threads
    pub threads-after : (n : ℕ) (d : Doing) → wants_at w n ≡ wanting d → (k : ℕ)
        → (after w n).threads k ≡ or_started (starts_in w.shared d k)
        (hears (put w.threads n (self_in w n d) k) (answer_due (settled (applied n q (call_in q m d))) k))
    threads-after n d h k =
        ap (λ (z : World). z.threads k) (after-is w n d h)
        ∙ ap (λ o. or_started (starts_in w.shared d k) (hears (put w.threads n (self_in w n d) k) o)) (gives-are n d h k)

    pub starts-none : (n : ℕ) (d : Doing) → wants_at w n ≡ wanting d → (k : ℕ) → (wants_at w k ≡ Gone → ⊥) → starts_in w.shared d k ≡ None
    starts-none n Own h k there = refl
    starts-none n (Makes e) h k there = none-or (starts_in w.shared (Makes e) k) (λ t is. there (starts_fit b w reach n k e t h is))

    -- a thread that isn't told or started anything is as it was
    pub unmoved : (n : ℕ) (d : Doing) → wants_at w n ≡ wanting d → (k : ℕ) → k ≢ n → starts_in w.shared d k ≡ None
        → answer_due (settled (applied n q (call_in q m d))) k ≡ None → (after w n).threads k ≡ w.threads k
    unmoved n d h k apart starts told =
        threads-after n d h k
        ∙ (ap (λ o. or_started o (hears (put w.threads n (self_in w n d) k) (answer_due (settled (applied n q (call_in q m d))) k))) starts
        ∙ (ap (λ o. hears (put w.threads n (self_in w n d) k) o) told ∙ put-other w.threads n (self_in w n d) k apart))

    -- where another one goes on, an awake thread is told nothing
    pub told-nothing : (n other : ℕ) (d f : Doing) → wants_at w n ≡ wanting d → wants_at w other ≡ wanting f → n ≢ other → (k : ℕ) → k ≢ n
        → is_asleep q k ≡ false → answer_due (settled (applied n q (call_in q m d))) k ≡ None
    told-nothing n other d f h g apart k not_n awake =
        ap (λ z. answer_due z k) (unsettled other n q (call_in q m d) apart (free other f g))
        ∙ (other-due k n q (call_in q m d) not_n (woken-asleep k (call_in q m d) q.sleepers awake) ∙ nothing k)

    -- a thread that goes on is as it was behind another one's turn
    pub goes-unmoved : (n k : ℕ) (d f : Doing) → wants_at w n ≡ wanting d → wants_at w k ≡ wanting f → n ≢ k → (after w n).threads k ≡ w.threads k
    goes-unmoved n k d f h g apart =
        unmoved n d h k (λ e. apart (sym e)) (starts-none n d h k (gone-not f g))
        (told-nothing n k d f h g apart k (λ e. apart (sym e)) (not-asleep k (awaits-not f g)))
      where
        gone-not : (f : Doing) → wants_at w k ≡ wanting f → wants_at w k ≡ Gone → ⊥
        gone-not Own g a = absurd (cc (g, a))
        gone-not (Makes e) g a = absurd (cc (g, a))

        awaits-not : (f : Doing) → wants_at w k ≡ wanting f → wants_at w k ≡ Awaits → ⊥
        awaits-not Own g a = absurd (cc (g, a))
        awaits-not (Makes e) g a = absurd (cc (g, a))
