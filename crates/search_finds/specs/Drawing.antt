-- Which run of a search is made: by the call, along the strategy of its number.
use Rattle.std.specs.Prelude.{ℕ, ◌≡◌, ◌≢◌, ◌+◌, Bool, List, [], ◌∷◌, Option, length, max, min}
use Rattle.types.specs.declared.event.Entry.{Entry}
use Rattle.spawn_host.specs.Requests.{Requested}
use Rattle.selection.specs.declared.sought.Sought.{Sought}
use Rattle.selection.specs.declared.way.Way.{Way}
use Rattle.selection.specs.declared.way.Way.TheVariants as ways
use Rattle.search_strategies.specs.Given.{along, chosen}
use Rattle.search_strategies.specs.Places.{ChoosesBy}
use Rattle.search_strategies.specs.Runs.{drawn_choice, drawn_heard, strategy_of}
use Rattle.search_scheduled.specs.Led.{IsLedRun}
use Rattle.search_scheduled.specs.declared.running.MadeRun.{MadeRun}
use Rattle.search_endings.specs.Endings.{Ending}
use Rattle.search_finds.specs.Endings.{ending_left}
use Rattle.search_finds.specs.Finds.{IsFind}
use Rattle.search_finds.specs.declared.search.JudgedEnding.{JudgedEnding}

module _ {Q : Type 0} (choice : Q → List ℕ → Option ℕ × Q) (heard : Q → Entry → Q) where
  -- A strategy that is a function of what it is names who goes on, and hears each entry. A run by the call goes along
  -- it, where it led the run from its beginning to its end.
  pub record GoesAlong (q : Requested) (limit : ℕ) (strategy : Q) (made : MadeRun) : Type 0 where
    pub find : IsFind q limit made
    pub last : Q
    pub led : IsLedRun (ChoosesBy choice) (λ before entry after. after ≡ heard before entry) q limit strategy last
        made.record

-- A strategy is the same once it has heard an entry.
abbrev pub unheard : {Q : Type 0} → Q → Entry → Q
unheard strategy entry = strategy

-- Choices among the threads that can go on lead to another ending.
pub record LeadToOther (q : Requested) (limit dump : ℕ) (choices : List ℕ) (e : Ending) : Type 0 where
  pub made : MadeRun
  pub along : GoesAlong chosen unheard q limit choices made
  pub other : e ≢ ending_left dump made.end

-- A run by the call in which each thread goes on as long as it can. It has so many entries, 1 to 1,000,000.
pub record IsPlainRun (q : Requested) (limit entries : ℕ) : Type 0 where
  pub made : MadeRun
  pub plain : GoesAlong along unheard q limit (record { schedule = []; last = 0; in_a_row = 0 }) made
  pub count : entries ≡ max (min (length made.record.log) 1_000_000) 1

-- Among so many entries the points lie at which priorities change: among those of the plain run, where a way has such.
abbrev pub HasPointsAmong : Requested → ℕ → Way → ℕ → Type 0
HasPointsAmong q limit ways.Mix entries = IsPlainRun q limit entries
HasPointsAmong q limit ways.Random entries = entries ≡ 1
HasPointsAmong q limit (ways.Priorities depth) entries = IsPlainRun q limit entries
HasPointsAmong q limit ways.Spin entries = entries ≡ 1

-- It goes along the strategy that is drawn of the seed and this number, where points lie among so many entries.
abbrev pub IsDrawnAmong : Requested → Sought → ℕ → ℕ → MadeRun → Type 0
IsDrawnAmong q s entries run made =
    GoesAlong drawn_choice (λ strategy entry. drawn_heard strategy entry.event) q s.limit
    (strategy_of s.way s.seed run entries) made

-- It is the ending of that run, of which this is said.
pub record IsEndingAmong (Says : MadeRun → Bool → Type 0) (q : Requested) (s : Sought) (entries run : ℕ)
    (e : JudgedEnding) : Type 0 where
  pub made : MadeRun
  pub drawn : IsDrawnAmong q s entries run made
  pub ending : e.ending ≡ ending_left s.dump made.end
  pub judged : Says made e.is_sought

-- The run of this number.
pub record IsRunOfNumber (q : Requested) (s : Sought) (run : ℕ) (made : MadeRun) : Type 0 where
  pub entries : ℕ
  pub points : HasPointsAmong q s.limit s.way entries
  pub drawn : IsDrawnAmong q s entries run made

-- It is the ending of the run of this number.
pub record IsMetEnding (q : Requested) (s : Sought) (run : ℕ) (e : Ending) : Type 0 where
  pub made : MadeRun
  pub drawn : IsRunOfNumber q s run made
  pub ending : e ≡ ending_left s.dump made.end

-- The same, and this holds of the number and of its run.
pub record IsMetBy (P : ℕ → MadeRun → Type 0) (q : Requested) (s : Sought) (run : ℕ) (e : Ending) : Type 0 where
  pub made : MadeRun
  pub drawn : IsRunOfNumber q s run made
  pub ending : e ≡ ending_left s.dump made.end
  pub holds : P run made

-- The endings of the runs of numbers in a row, from this one on.
abbrev pub AreOfRuns : Requested → Sought → ℕ → List Ending → Type 0
AreOfRuns q s run [] = Unit {0}
AreOfRuns q s run (e ∷ endings) = IsMetEnding q s run e × AreOfRuns q s (run + 1) endings

abbrev pub AreOfRunsBy : (ℕ → MadeRun → Type 0) → Requested → Sought → ℕ → List Ending → Type 0
AreOfRunsBy P q s run [] = Unit {0}
AreOfRunsBy P q s run (e ∷ endings) = IsMetBy P q s run e × AreOfRunsBy P q s (run + 1) endings

-- Those where points lie among so many entries, the last first, and what is said of each.
abbrev pub AreOfRunsBack : (MadeRun → Bool → Type 0) → Requested → Sought → ℕ → ℕ → List JudgedEnding → Type 0
AreOfRunsBack Says q s entries run [] = Unit {0}
AreOfRunsBack Says q s entries run (e ∷ endings) =
    IsEndingAmong Says q s entries (run + length endings) e × AreOfRunsBack Says q s entries run endings
