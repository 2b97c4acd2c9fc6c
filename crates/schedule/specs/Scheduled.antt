-- The scheduled machine: one thread steps all, mark by mark.
use Rattle.std.specs.Prelude.{ℕ, ◌==◌, Bool, true, false, cond, List, [], ◌∷◌, ◌++◌, Option, Some, None}
use Rattle.schedule.specs.System.{Want, Want.Turns, Want.Calls, Want.Awaits, Want.Gone, Act.Made, Act.Heard, Step}
use Rattle.schedule.specs.System.{Step.Own, Step.Lost, Step.Full, Step.Acts, Entry, Mark, Kind, Kind.Turn, Kind.Loses}
use Rattle.schedule.specs.System.{Kind.Fills, System, State, put}

-- A thread that starts takes the place of what was there.
abbrev pub or_started : {B : Type 0} → Option B → B → B
or_started None t = t
or_started (Some new) t = new

module _ {X T E V A : Type 0} (s : System X T E V A) where
  -- A thread that is given an answer hears it at once.
  abbrev pub hears_any : T → Option A → T
  hears_any t None = t
  hears_any t (Some a) = s.hears t a

  -- After an event of thread n: it took the reply, and each thread heard the answer that it was given, or starts.
  abbrev pub after_event : State X T → ℕ → E → State X T
  after_event w n e =
      record {
        shared = s.after w.shared n e;
        threads = λ m. or_started (s.starts w.shared n e m)
            (hears_any (put w.threads n (s.takes (w.threads n) (s.reply w.shared n e)) m) (s.gives w.shared n e m));
      }

  abbrev pub with_thread : State X T → ℕ → T → State X T
  with_thread w n t = record { shared = w.shared; threads = put w.threads n t }

  -- After a turn of thread n, by what it wants. One that awaits an answer or is gone makes no turn.
  abbrev pub after_turn : State X T → ℕ → Want E → State X T
  after_turn w n Turns = with_thread w n (s.own_turn (w.threads n))
  after_turn w n (Calls e) = after_event w n e
  after_turn w n Awaits = w
  after_turn w n Gone = w

  abbrev pub if_may : Bool → State X T → State X T → State X T
  if_may true new w = new
  if_may false new w = w

  -- After one mark. A thread that can't lose a try, or can't find the log full, doesn't.
  abbrev pub after_mark : State X T → ℕ → Kind → State X T
  after_mark w n Turn = after_turn w n (s.wants (w.threads n))
  after_mark w n Loses = if_may (s.may_lose (w.threads n)) (with_thread w n (s.lost (w.threads n))) w
  after_mark w n Fills = if_may (s.may_fill (w.threads n)) (with_thread w n (s.full (w.threads n))) w

  -- What the scheduled machine comes to along a schedule.
  abbrev pub scheduled_run : State X T → List Mark → State X T
  scheduled_run w [] = w
  scheduled_run w (k ∷ S) = scheduled_run (after_mark w k.thread k.kind) S

  -- The entries that it makes, which are events alone: answers are heard at once.
  abbrev pub entries_by : State X T → ℕ → Want E → List (Entry E V A)
  entries_by w n Turns = []
  entries_by w n (Calls e) = record { thread = n; act = Made e (s.reply w.shared n e) } ∷ []
  entries_by w n Awaits = []
  entries_by w n Gone = []

  abbrev pub entries_at : State X T → ℕ → Kind → List (Entry E V A)
  entries_at w n Turn = entries_by w n (s.wants (w.threads n))
  entries_at w n Loses = []
  entries_at w n Fills = []

  abbrev pub entries_made : State X T → List Mark → List (Entry E V A)
  entries_made w [] = []
  entries_made w (k ∷ S) = entries_at w k.thread k.kind ++ entries_made (after_mark w k.thread k.kind) S

  -- The steps that it makes of thread m, an answer where it is given.
  abbrev pub heard_step : Option A → List (Step E V A)
  heard_step None = []
  heard_step (Some a) = Acts (Heard a) ∷ []

  abbrev pub steps_by : ℕ → State X T → ℕ → Want E → List (Step E V A)
  steps_by m w n Turns = cond (n == m) (Own ∷ []) []
  steps_by m w n (Calls e) = cond (n == m) (Acts (Made e (s.reply w.shared n e)) ∷ []) [] ++ heard_step
      (s.gives w.shared n e m)
  steps_by m w n Awaits = []
  steps_by m w n Gone = []

  abbrev pub lost_step : Want E → List (Step E V A)
  lost_step Turns = []
  lost_step (Calls e) = Lost e ∷ []
  lost_step Awaits = []
  lost_step Gone = []

  abbrev pub full_step : Want E → List (Step E V A)
  full_step Turns = []
  full_step (Calls e) = Full e ∷ []
  full_step Awaits = []
  full_step Gone = []

  abbrev pub steps_at : ℕ → State X T → ℕ → Kind → List (Step E V A)
  steps_at m w n Turn = steps_by m w n (s.wants (w.threads n))
  steps_at m w n Loses = cond (s.may_lose (w.threads n)) (cond (n == m) (lost_step (s.wants (w.threads n))) []) []
  steps_at m w n Fills = cond (s.may_fill (w.threads n)) (cond (n == m) (full_step (s.wants (w.threads n))) []) []

  abbrev pub steps_made : ℕ → State X T → List Mark → List (Step E V A)
  steps_made m w [] = []
  steps_made m w (k ∷ S) = steps_at m w k.thread k.kind ++ steps_made m (after_mark w k.thread k.kind) S
