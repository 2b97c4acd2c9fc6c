-- Where all stand after an event.
use Rattle.std.proofs.Common.{◌≡◌, ◌≢◌, ℕ, ◌<◌, Bool, true, false, cond, List, length, Option, Some, None, refl, sym, ◌∙◌, ap, subst, get_or, slice_get}
use Rattle.std.specs.Prelude.{nat_lt}
use Rattle.std.proofs.lemmas.Bool.{ltb-true}
use Rattle.types.specs.declared.event.Event.{Event}
use Rattle.types.specs.declared.event.Event.TheVariants as events
use Rattle.types.specs.declared.event.Answer.{Answer}
use Rattle.types.specs.declared.event.Reply.{Reply}
use Rattle.types.specs.declared.outcome.Outcome.{Outcome}
use Rattle.types.specs.declared.limits.TheConstants.{MOST_THREADS}
use Rattle.shared_memory.specs.Memory.{reply_of, state_after}
use Rattle.shared_memory.specs.WaitQueue.{WaitQueue, is_alive, is_asleep, answer_due, next_id, IsFree}
use Rattle.shared_memory.specs.History.{queue_step}
use Rattle.shared_memory.specs.Legal.{IsAllowed, IsInTurn}
use Rattle.shared_memory.proofs.Soundness.{IsSound-step}
use Rattle.shared_memory.proofs.Others.{Keeps, Keeps-step}
use Rattle.schedule.specs.System.{Act.Made, put}
use Rattle.schedule.specs.Scheduled.{hears_any, or_started}
use Rattle.schedule.specs.Histories.{Place.Unstarted, Place.Free, Place.Open, placed, next_shared, next_places, IsLegalEntry}
use Rattle.schedule.specs.Machine.{thread_takes}
use Rattle.schedule.proofs.Basics.{at_each, put-same, put-other}
use Rattle.schedule_threads.specs.Shared.{Shared, without_dues, is_question, act_by}
use Rattle.schedule_threads.specs.Threads.{machine_of}
use Rattle.schedule_runs.specs.Runs.{Start}
use Rattle.schedule_runs.specs.Places.{place_of, place_due}
use Rattle.schedule_runs.proofs.Entries.{EntryStep, entry_step}
use Rattle.interp_trait.specs.Turns.{Running, Meaning, spawned_in}
use Rattle.replay_rules.specs.Walk.{after_made}
use Rattle.replay_rules.proofs.Making.{put_put}
use Rattle.replay_walk.specs.Standing.{StandsAt, Standing, IsStanding, system_at}
use Rattle.replay_walk.proofs.Places.{SlotGoes, others_at}

-- a free place
pub record IsFreePlace (q : WaitQueue) (n : ℕ) : Type 0 where
  pub known : n < next_id q
  pub awake : is_asleep q n ≡ false
  pub told : answer_due q n ≡ None

pub free_place : (q : WaitQueue) (n : ℕ) → place_of q n ≡ Free → IsFreePlace q n
unfolding place_of
free_place q n h = go (nat_lt n (next_id q)) (is_asleep q n) (answer_due q n) refl refl refl h
  where
    go : (known asleep : Bool) (o : Option Answer) → nat_lt n (next_id q) ≡ known → is_asleep q n ≡ asleep → answer_due q n ≡ o
        → cond known (cond asleep Open (place_due o)) Unstarted ≡ Free → IsFreePlace q n
    go false asleep o k a d e = absurd (cc e)
    go true true o k a d e = absurd (cc e)
    go true false (Some x) k a d e = absurd (cc e)
    go true false None k a d e = record { known = ltb-true n (next_id q) k; awake = a; told = d }

-- the event is no answer heard
abbrev pub IsMade : Event → Type 0
IsMade (events.Told a) = ⊥
IsMade e = Unit {0}

made_act : (e : Event) (v : Reply) → IsMade e → act_by e v ≡ Made e v
made_act (events.Told a) v h = absurd h
made_act events.Size v h = refl
made_act (events.Grow more) v h = refl
made_act (events.Load addr width reach) v h = refl
made_act (events.Store addr width reach value) v h = refl
made_act (events.Rmw op addr width value) v h = refl
made_act (events.Cmpxchg addr width expected replacement) v h = refl
made_act (events.Ask question) v h = refl

allowed : (q : WaitQueue) (n : ℕ) (e : Event) → IsMade e → IsFree q n → IsAllowed q n e
allowed q n (events.Told a) h free = absurd h
allowed q n (events.Ask question) h free = free
allowed q n e h free = tt

in_turn : (q : WaitQueue) (n : ℕ) (e : Event) → IsMade e → IsFree q n → IsInTurn q n e
in_turn q n (events.Told a) h free = absurd h
in_turn q n e h free = free

module _ {S : Type 0} (meaning : S → Meaning) where
  module _ (s : Standing) (threads : List S) (queue : WaitQueue) (begun : ℕ) (ends : List (Option Outcome)) (st : IsStanding meaning s threads queue begun ends)
      (n : ℕ) (e : Event) (v : Reply) (is_made : IsMade e) (free : IsFree queue n) (reply : v ≡ reply_of s.memory e) where
    abbrev start : Start
    start = record { program = s.program; main = spawned_in s.worker 0 0; spawned = spawned_in s.worker; fuel = s.budget; opening = s.memory }

    -- the event in the scheduled machine
    pub record Step : Type 0 where
      pub legal : IsLegalEntry (system_at s) (s.state.shared) s.places n (Made e v)
      pub shared : next_shared (system_at s) (s.state.shared) n (Made e v) ≡ record {
        memory = state_after s.memory e;
        queue = without_dues (queue_step queue n e v);
      }
      pub stand : (m : ℕ) → next_places (system_at s) (s.state.shared) s.places n (Made e v) m ≡ place_of (queue_step queue n e v) m

    pub step : Step
    step =
        let es : EntryStep start s.memory queue s.places n e v =
        entry_step start s.memory queue s.places n e v st.sound st.places reply (allowed queue n e is_made free) (st.sound.named n free.alive) in
        record {
          legal = subst (λ (x : Shared). IsLegalEntry (system_at s) x s.places n (Made e v)) (sym st.shared)
              (subst (λ a. IsLegalEntry (system_at s) (record { memory = s.memory; queue = without_dues queue }) s.places n a) (made_act e v is_made) es.legal);
          shared = ap (λ (x : Shared). next_shared (system_at s) x n (Made e v)) st.shared
              ∙ (ap (λ a. next_shared (system_at s) (record { memory = s.memory; queue = without_dues queue }) n a) (sym (made_act e v is_made)) ∙ es.shared);
          stand = λ m. ap (λ (x : Shared). next_places (system_at s) x s.places n (Made e v) m) st.shared
              ∙ (ap (λ a. next_places (system_at s)
              (record { memory = s.memory; queue = without_dues queue }) s.places n a m)
              (sym (made_act e v is_made)) ∙ es.stand m);
        }

    abbrev pub starts_by : ℕ → Option Running
    starts_by m = (system_at s).starts (s.state.shared) n e m

    abbrev pub gives_by : ℕ → Option Answer
    gives_by m = (system_at s).gives (s.state.shared) n e m

    -- the machine after it, where t is the thread that made it
    abbrev pub after_it : Running → Standing
    after_it t = record s {
      memory = state_after s.memory e;
      state = after_made (system_at s) s.state n e t;
      places = next_places (system_at s) (s.state.shared) s.places n (Made e v);
    }

    pub stands_after : (t : Running) → s.places n ≡ Free → (threads' : List S) (begun' : ℕ) (ends' : List (Option Outcome))
        → begun' ≡ next_id (queue_step queue n e v) → length ends' ≡ MOST_THREADS
        → ((m : ℕ) → m ≢ n → get_or ends' m None ≡ get_or ends m None)
        → ((m : ℕ) → m ≢ n → SlotGoes meaning (slice_get threads m) (slice_get threads' m) (starts_by m))
        → ((m : ℕ) (x : S) → slice_get threads' m ≡ Some x → ((meaning x).program ≡ s.program) × ((meaning x).fuel ≡ s.budget))
        → ((m : ℕ) (x : Running) → starts_by m ≡ Some x → is_alive (queue_step queue n e v) m ≡ true)
        → StandsAt meaning s.program s.worker (placed (starts_by n) (gives_by n) (is_question e v) Free)
        (or_started (starts_by n) (hears_any (system_at s) (thread_takes (machine_of s.program) t v) (gives_by n))) (slice_get threads' n) (get_or ends' n None)
        (is_alive (queue_step queue n e v) n)
        → IsStanding meaning (after_it t) threads' (queue_step queue n e v) begun' ends'
    stands_after t free_place threads' begun' ends' started slots same_ends goes alike born here = record {
      shared = step.shared;
      places = step.stand;
      sound = IsSound-step queue n e v (allowed queue n e is_made free) st.sound;
      started = started;
      slots = slots;
      alike = alike;
      each = at_each n (λ m. StandsAt meaning s.program s.worker ((after_it t).places m) ((after_it t).state.threads m)
          (slice_get threads' m) (get_or ends' m None)
          (is_alive (queue_step queue n e v) m))
          (subst (λ x. StandsAt meaning s.program s.worker ((after_it t).places n) x (slice_get threads' n)
          (get_or ends' n None) (is_alive (queue_step queue n e v) n)) thread_here
          (subst (λ q. StandsAt meaning s.program s.worker q (or_started (starts_by n)
          (hears_any (system_at s) (thread_takes (machine_of s.program) t v) (gives_by n))) (slice_get threads' n)
          (get_or ends' n None)
          (is_alive (queue_step queue n e v) n))
          (λ i. placed (starts_by n) (gives_by n) (sym (put-same (λ (j : ℕ). false) n (is_question e v)) i) (sym free_place i)) here))
          (λ m h. subst (λ x. StandsAt meaning s.program s.worker ((after_it t).places m) x (slice_get threads' m)
          (get_or ends' m None) (is_alive (queue_step queue n e v) m)) (thread_other m h)
          (subst (λ b. StandsAt meaning s.program s.worker (placed (starts_by m) (gives_by m) b (s.places m))
          (or_started (starts_by m) (hears_any (system_at s) (s.state.threads m) (gives_by m)))
          (slice_get threads' m)
          (get_or ends' m None) (is_alive (queue_step queue n e v) m)) (sym (put-other (λ (j : ℕ). false) n (is_question e v) m h))
          (subst (λ (o : Option Outcome). StandsAt meaning s.program s.worker (placed (starts_by m) (gives_by m) false (s.places m))
          (or_started (starts_by m) (hears_any (system_at s) (s.state.threads m) (gives_by m)))
          (slice_get threads' m) o (is_alive (queue_step queue n e v) m)) (sym (same_ends m h))
          (others_at meaning s.program s.worker s.budget (s.places m) (s.state.threads m) (slice_get threads m)
          (slice_get threads' m) (get_or ends m None) (is_alive queue m)
          (is_alive (queue_step queue n e v) m)
          (starts_by m) (gives_by m) (λ x k. step.legal.2 m x k) (λ a k. (step.legal.3 m a k).0 h)
          (λ alive. Keeps.alive (Keeps-step m n queue e v (λ z. h (sym z))
          (allowed queue n e is_made free) st.sound) alive) (λ x k. born m x k) (goes m h) (st.each m)))));
    }
      where
        value : v ≡ reply_of s.state.shared.memory e
        value = reply ∙ sym (ap (λ (x : Shared). reply_of x.memory e) st.shared)

        thread_here : or_started (starts_by n) (hears_any (system_at s) (thread_takes (machine_of s.program) t v) (gives_by n)) ≡ (after_it t).state.threads n
        thread_here =
            ap (λ x. or_started (starts_by n) (hears_any (system_at s) x (gives_by n)))
            (sym (put-same (put s.state.threads n t) n (thread_takes (machine_of s.program) (put s.state.threads n t n) (reply_of s.state.shared.memory e))
            ∙ (λ i. thread_takes (machine_of s.program) (put-same s.state.threads n t i) (sym value i))))

        thread_other : (m : ℕ) → m ≢ n → or_started (starts_by m) (hears_any (system_at s) (s.state.threads m) (gives_by m)) ≡ (after_it t).state.threads m
        thread_other m h =
            ap (λ x. or_started (starts_by m) (hears_any (system_at s) x (gives_by m)))
            (sym (put_put s.state.threads n t (thread_takes (machine_of s.program) (put s.state.threads n t n) (reply_of s.state.shared.memory e)) m
            ∙ put-other s.state.threads n (thread_takes (machine_of s.program) (put s.state.threads n t n) (reply_of s.state.shared.memory e)) m h))
