-- Logs that a schedule makes, and the first entry of a log that none makes.
use Rattle.std.specs.Prelude.{ℕ, suc, ◌≡◌, ◌<◌, false, List, ◌++◌, length, take}
use Rattle.schedule.specs.System.{Entry, Mark, System, State}
use Rattle.schedule.specs.Scheduled.{entries_made, steps_made}
use Rattle.schedule.specs.Histories.{Place, without_answers, IsLegalHistory, IsOrdered}
use Rattle.schedule.specs.Tries.{TryRules, IsFullOnlyAtLimit, IsWithinLimit, MayMarkAll}

module _ {X T E V A W : Type 0} (s : System X T E V A) (rules : TryRules X E W) (first : State X T) (places : ℕ
    → Place A) where
  -- A schedule without lost tries makes the log. The log is legal, so that each answer heard is the one that is due,
  -- and each event is of a thread without an open question. The scheduled machine makes its events in order, with their
  -- replies. A thread finds the log full only where that has reached its limit before the thread's next entry, and each
  -- entry found room.
  pub record MakesLog (log : List (Entry E V A)) (S : List Mark) : Type 0 where
    pub legal : IsLegalHistory s first.shared places log
    pub ordered : IsOrdered s first.shared places log
    pub events : entries_made s first S ≡ without_answers log
    pub full : (m : ℕ) → IsFullOnlyAtLimit s rules log m 0 (steps_made s m first S)
    pub within : IsWithinLimit s rules log 0
    pub marks : MayMarkAll false rules.limit S

  -- Some run begins with these entries.
  abbrev pub IsMade : List (Entry E V A) → Type 0
  IsMade log = (S : List Mark) × MakesLog log S

  -- The entry at k is the first that doesn't fit: some run makes those before it, and none goes on with it, whatever
  -- follows.
  pub record IsFirstMisfit (log : List (Entry E V A)) (k : ℕ) : Type 0 where
    pub below : k < length log
    pub before : IsMade (take k log)
    pub none : (rest : List (Entry E V A)) → IsMade (take (suc k) log ++ rest) → ⊥
