-- Schedules: the one of a history, and which schedules follow one.
use Rattle.std.specs.Prelude.{ℕ, ◌≡◌, ◌≢◌, List, [], ◌∷◌, ◌++◌}
use Rattle.schedule.specs.System.{Want.Gone, Act, Act.Made, Act.Heard, Step, Step.Own, Step.Lost, Step.Full}
use Rattle.schedule.specs.System.{Step.Acts, Entry, Mark, Kind.Turn, Kind.Loses, Kind.Fills, System, State, put}
use Rattle.schedule.specs.ThreadRun.{acts, after_first_act, losses_between, IsThreadRun}
use Rattle.schedule.specs.Scheduled.{scheduled_run, entries_made, steps_made}
use Rattle.schedule.specs.Histories.{Place, Place.Unstarted, Place.Free, IsClosed, acts_of, without_answers}
use Rattle.schedule.specs.Histories.{shared_after, places_after, IsLegalHistory, IsOrdered, StartedRun}
use Rattle.schedule.specs.Tries.{TryRules, HasSeen, AreLossesCovered, IsFullOnlyAtLimit, IsWithinLimit, MayMarkAll}

module _ {E V A : Type 0} where
  -- A thread's own turns, lost tries and full logs before its next act, as marks.
  abbrev pub marks_before_act : ℕ → List (Step E V A) → List Mark
  marks_before_act n [] = []
  marks_before_act n (Own ∷ steps) = record { thread = n; kind = Turn } ∷ marks_before_act n steps
  marks_before_act n (Lost e ∷ steps) = record { thread = n; kind = Loses } ∷ marks_before_act n steps
  marks_before_act n (Full e ∷ steps) = record { thread = n; kind = Fills } ∷ marks_before_act n steps
  marks_before_act n (Acts a ∷ steps) = []

  -- For an event these, and the turn that makes it; for an answer heard nothing.
  abbrev pub marks_of_entry : ℕ → Act E V A → List (Step E V A) → List Mark
  marks_of_entry n (Made e v) steps = marks_before_act n steps ++ record { thread = n; kind = Turn } ∷ []
  marks_of_entry n (Heard a) steps = []

  -- The schedule of a history whose threads make these steps.
  abbrev pub schedule_of : List (Entry E V A) → (ℕ → List (Step E V A)) → List Mark
  schedule_of [] steps = []
  schedule_of (h ∷ H) steps = marks_of_entry h.thread h.act (steps h.thread) ++ schedule_of H
      (put steps h.thread (after_first_act (steps h.thread)))

module _ {X T E V A : Type 0} (s : System X T E V A) where
  -- A legal history of threads that ran: from the beginning, where no question is open and who isn't started does
  -- nothing, each thread runs by its steps, whose acts are its entries.
  pub record ThreadsRun (first : State X T) (places : ℕ → Place A) (steps : ℕ → List (Step E V A)) (ends : ℕ → T)
      (H : List (Entry E V A)) : Type 0 where
    pub legal : IsLegalHistory s first.shared places H
    pub closed : (m : ℕ) → IsClosed (places m)
    pub idle : (m : ℕ) → places m ≡ Unstarted → s.wants (first.threads m) ≡ Gone
    pub runs : (m : ℕ) → places m ≡ Free → IsThreadRun s (first.threads m) (steps m) (ends m)
    pub started : StartedRun s steps ends first.shared H
    pub entries : (m : ℕ) → acts (steps m) ≡ acts_of m H
    pub no_steps : (m : ℕ) → places_after s first.shared places H m ≡ Unstarted → steps m ≡ []

  -- The scheduled machine makes the history along a schedule: its events in order with their replies; and each thread's
  -- acts in order, so that an answer heard in the history, which stands after its question and before its thread's next
  -- event, is the one that the machine gives.
  pub record Makes (first : State X T) (H : List (Entry E V A)) (S : List Mark) : Type 0 where
    pub events : entries_made s first S ≡ without_answers H
    pub answers : (m : ℕ) → acts (steps_made s m first S) ≡ acts_of m H

  -- Along a schedule the scheduled machine comes to the shared state after the history, and brings each thread that was
  -- started to its end.
  pub record GivesEnds (first : State X T) (places : ℕ → Place A) (ends : ℕ
      → T) (H : List (Entry E V A)) (S : List Mark) : Type 0 where
    pub shared : (scheduled_run s first S).shared ≡ shared_after s first.shared H
    pub threads : (m : ℕ) → places_after s first.shared places H m ≢ Unstarted
        → (scheduled_run s first S).threads m ≡ ends m

  -- All threads that were started are gone.
  abbrev pub AllGone : State X T → (ℕ → Place A) → List (Entry E V A) → List Mark → Type 0
  AllGone first places H S = (m : ℕ) → places_after s first.shared places H m ≢ Unstarted
      → s.wants ((scheduled_run s first S).threads m) ≡ Gone

  -- Two schedules lose as many tries of each thread between its neighbouring acts; marks without a step don't count.
  abbrev pub LoseAsMany : State X T → List Mark → List Mark → Type 0
  LoseAsMany first S S' = (m : ℕ) → losses_between (steps_made s m first S) ≡ losses_between (steps_made s m first S')

  -- What one schedule of a history does: it makes the history and each thread's steps, gives all ends, and leaves all
  -- gone.
  pub record IsOneSchedule (first : State X T) (places : ℕ → Place A) (steps : ℕ → List (Step E V A)) (ends : ℕ → T)
      (H : List (Entry E V A)) (S : List Mark) : Type 0 where
    pub makes : Makes first H S
    pub makes_steps : (m : ℕ) → steps_made s m first S ≡ steps m
    pub gives : GivesEnds first places ends H S
    pub gone : AllGone first places H S
    pub ordered : IsOrdered s first.shared places H

module _ {X T E V A W : Type 0} (s : System X T E V A) (rules : TryRules X E W) where
  -- Each thread that was started saw lists of the history, step by step.
  abbrev pub AllHaveSeen : State X T → (ℕ → Place A) → (ℕ → List (Step E V A)) → List (Entry E V A) → Type 0
  AllHaveSeen first places steps H =
      (m : ℕ) → places_after s first.shared places H m ≢ Unstarted → HasSeen s rules first.shared places H m (steps m)

  -- A schedule follows a history: the machine makes it; between neighbouring entries of one thread others change what
  -- it wants to touch at least as often as it loses tries there; it finds the log full only at the limit, and the
  -- history is within that.
  pub record Follows (first : State X T) (places : ℕ → Place A) (H : List (Entry E V A)) (S : List Mark) : Type 0 where
    pub makes : Makes s first H S
    pub covered : (m : ℕ) → AreLossesCovered s rules (places m) m first.shared H (steps_made s m first S)
    pub full : (m : ℕ) → IsFullOnlyAtLimit s rules H m 0 (steps_made s m first S)
    pub within : IsWithinLimit s rules H 0
    pub marks : MayMarkAll rules.loses rules.limit S
