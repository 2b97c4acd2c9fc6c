-- What a walk along a log shows of the runs. Types: shared states X, threads T, events E, replies V, answers A, and W
-- for what events touch.
use Rattle.std.specs.Prelude.{ℕ, ◌≡◌, List, ◌∷◌, ◌++◌, length}
use Rattle.schedule.specs.System.{Want.Gone, Entry, Mark, System, State}
use Rattle.schedule.specs.ThreadRun.{Laws}
use Rattle.schedule.specs.Scheduled.{scheduled_run}
use Rattle.schedule.specs.Histories.{Place, Place.Unstarted, IsClosed, places_after}
use Rattle.schedule.specs.Tries.{TryRules}
use Rattle.replay_rules.specs.Logs.{MakesLog, IsFirstMisfit}
use Rattle.replay_rules.specs.Walk.{Walks, CanTake}

-- A beginning: no question is open, and who isn't started does nothing.
pub record IsBeginning {X T E V A : Type 0} (s : System X T E V A) (first : State X T) (places : ℕ
    → Place A) : Type 0 where
  pub closed : (m : ℕ) → IsClosed (places m)
  pub idle : (m : ℕ) → places m ≡ Unstarted → s.wants (first.threads m) ≡ Gone

-- A walk along a whole log: a schedule makes the log, and comes to where the walk does;
pub record IsMadeBy {X T E V A W : Type 0} (s : System X T E V A) (rules : TryRules X E W) (first : State X T)
    (places : ℕ → Place A)
    (log : List (Entry E V A))
    (z : State X T) (p : ℕ → Place A) : Type 0 where
  pub schedule : List Mark
  pub makes : MakesLog s rules first places log schedule
  pub run : scheduled_run s first schedule ≡ z
  pub placed : places_after s first.shared places log ≡ p

abbrev pub WalksAreMade : (X T E V A W : Type 0) → Type 0
WalksAreMade X T E V A W =
    (s : System X T E V A) (rules : TryRules X E W) → Laws s
    → (first : State X T) (places : ℕ → Place A) → IsBeginning s first places
    → (log : List (Entry E V A)) (z : State X T) (p : ℕ → Place A) → Walks s rules log first places 0 z p
    → IsMadeBy s rules first places log z p

-- and every schedule that makes it comes to the same shared state, and to the same of each thread that is gone.
abbrev pub EndsAreTheSame : (X T E V A W : Type 0) → Type 0
EndsAreTheSame X T E V A W =
    (s : System X T E V A) (rules : TryRules X E W) → Laws s
    → (first : State X T) (places : ℕ → Place A) → IsBeginning s first places
    → (log : List (Entry E V A)) (z : State X T) (p : ℕ → Place A) → Walks s rules log first places 0 z p
    → (S : List Mark) → MakesLog s rules first places log S
    → ((scheduled_run s first S).shared ≡ z.shared)
    × ((m : ℕ) → s.wants ((scheduled_run s first S).threads m) ≡ Gone
    → z.threads m ≡ (scheduled_run s first S).threads m)

-- An entry that a walk can't take is the first that doesn't fit, whatever follows it.
abbrev pub StopsAreMisfits : (X T E V A W : Type 0) → Type 0
StopsAreMisfits X T E V A W =
    (s : System X T E V A) (rules : TryRules X E W) → Laws s
    → (first : State X T) (places : ℕ → Place A) → IsBeginning s first places
    → (log rest : List (Entry E V A)) (h : Entry E V A) (z : State X T) (p : ℕ → Place A)
    → Walks s rules log first places 0 z p
    → (CanTake s rules z p (length log) h.thread h.act → ⊥)
    → IsFirstMisfit s rules first places (log ++ h ∷ rest) (length log)
