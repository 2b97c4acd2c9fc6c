-- How far a walk along a recorded log has come, and what it is to take one more entry.
use Rattle.std.specs.Prelude.{ℕ, ◌≡◌, ◌≢◌, ◌⊎◌, false, List, [], length, Option, Some}
use Rattle.std.specs.List.{slice_get}
use Rattle.types.specs.declared.value.Value.{Value}
use Rattle.types.specs.declared.event.Event.{Event}
use Rattle.types.specs.declared.event.Reply.{Reply}
use Rattle.types.specs.declared.event.Answer.{Answer}
use Rattle.types.specs.declared.event.Entry as entries
use Rattle.types.specs.declared.outcome.Outcome.{Outcome}
use Rattle.types.specs.declared.limits.TheConstants.{MOST_THREADS}
use Rattle.shared_memory.specs.Memory.{Memory}
use Rattle.shared_memory.specs.WaitQueue.{WaitQueue}
use Rattle.schedule.specs.System.{Act, Act.Heard}
use Rattle.schedule.specs.System as systems
use Rattle.schedule.specs.Histories.{Place}
use Rattle.schedule.specs.Machine.{Thread.Runs}
use Rattle.schedule.specs.Tries.{TryRules}
use Rattle.interp_machine.specs.Program.{Program}
use Rattle.interp_machine.specs.Config.{Config}
use Rattle.interp_machine.specs.State.{At}
use Rattle.schedule_threads.specs.Shared.{Shared, act_of, try_rules}
use Rattle.schedule_runs.specs.Runs.{Start, system_of, state_for, first_places, as_acts}
use Rattle.interp_trait.specs.Turns.{Running, Meaning, spawn_types}
use Rattle.replay_walk.specs.declared.walk.Walk.{Walk}
use Rattle.replay_rules.specs.Walk.{WalksOn, Walks, CanTake}
use Rattle.replay_rules.specs.Logs as logs
use Rattle.replay_rules.specs.Recorded.{start_of}
use Rattle.replay_walk.specs.Standing.{Standing, IsStanding, system_at, StageStands}

-- A log takes so many entries, and no try is lost.
abbrev pub rules_of : ℕ → TryRules Shared Event (List ℕ)
rules_of limit = try_rules false (Some limit)

-- A walk of a program that starts threads has 64, and another one thread.
abbrev pub HasThreads : Program → ℕ → Type 0
HasThreads p count = (count ≡ MOST_THREADS) ⊎ ((p.imported ≡ 0) × (count ≡ 1))

-- A walk after an entry: the memory, the state and the places are others.
abbrev pub moved : Standing → Memory → systems.State Shared Running → (ℕ → Place Answer) → Standing
moved s memory state places = record s { memory = memory; state = state; places = places }

-- Behind so many entries the walk can't take this act of thread n.
abbrev pub IsRefused : Standing → ℕ → ℕ → ℕ → Act Event Reply Answer → Type 0
IsRefused s limit count n act = CanTake (system_at s) (rules_of limit) s.state s.places count n act → ⊥

module _ {S : Type 0} (meaning : S → Meaning) where
  -- Behind so many entries it took this act of thread n.
  pub record HasTaken (s : Standing) (limit count n : ℕ) (act : Act Event Reply Answer)
      (threads : List S) (memory : Memory) (queue : WaitQueue) (begun : ℕ) (ends : List (Option Outcome)) : Type 0 where
    pub state : systems.State Shared Running
    pub places : ℕ → Place Answer
    pub walks : WalksOn (system_at s) (rules_of limit) s.state s.places count n act (λ w q. (w ≡ state) × (q ≡ places))
    pub standing : IsStanding meaning (moved s memory state places) threads queue begun ends

-- A run to be replayed: its program, the call of thread 0, that of a spawned thread, the budget, the opening memory,
-- how many threads it may have, and how many entries its log takes.
pub record Run : Type 0 where
  pub program : Program
  pub main : Config
  pub worker : List Value → Config
  pub budget : ℕ
  pub opening : Memory
  pub threads : ℕ
  pub limit : ℕ

abbrev pub start : Run → Start
start r = start_of r.program r.main r.worker r.budget r.opening

abbrev pub standing_in : Run → Memory → systems.State Shared Running → (ℕ → Place Answer) → Standing
standing_in r memory state places = record {
  program = r.program;
  worker = r.worker;
  budget = r.budget;
  memory = memory;
  state = state;
  places = places;
}

-- The entry at k is the first of the log that doesn't fit the run.
abbrev pub IsFirstMisfit : Run → List entries.Entry → ℕ → Type 0
IsFirstMisfit r log k =
    logs.IsFirstMisfit (system_of (start r)) (rules_of r.limit) (state_for r.threads (start r)) first_places
    (as_acts log) k

module _ {S : Type 0} (meaning : S → Meaning) where
  -- Threads and a memory with which a run begins: thread 0 is at its start, and the others can be spawned.
  pub record IsReady (r : Run) (threads : List S) (memory : Memory) : Type 0 where
    pub opening : memory ≡ r.opening
    pub count : HasThreads r.program (length threads)
    pub first : (x : S) → slice_get threads 0 ≡ Some x → (meaning x).stands (Runs (At r.main) r.budget)
    pub others : (m : ℕ) (x : S) → m ≢ 0 → slice_get threads m ≡ Some x → (meaning x).begins spawn_types r.worker
    pub alike : (m : ℕ) (x : S) → slice_get threads m ≡ Some x
        → ((meaning x).program ≡ r.program) × ((meaning x).fuel ≡ r.budget)

  -- The walk came along these entries, and stands there.
  pub record HasWalked (r : Run) (log : List entries.Entry) (threads : List S) (memory : Memory) (queue : WaitQueue)
      (begun : ℕ) (ends : List (Option Outcome)) : Type 0 where
    pub count : HasThreads r.program (length threads)
    pub state : systems.State Shared Running
    pub places : ℕ → Place Answer
    pub walks : Walks (system_of (start r)) (rules_of r.limit) (as_acts log) (state_for r.threads (start r))
        first_places 0 state places
    pub standing : IsStanding meaning (standing_in r memory state places) threads queue begun ends

module _ {S : Type 0} (meaning : S → Meaning) where
  -- The same of a walk as the program has it: where it stands, what it took, and along which entries it came.
  abbrev pub WalkStands : Standing → Walk S → Type 0
  WalkStands s w = StageStands meaning s w.threads.items w.stage

  abbrev pub WalkTakes : Standing → ℕ → ℕ → ℕ → Act Event Reply Answer → Walk S → Type 0
  WalkTakes s limit count n act w =
      HasTaken meaning s limit count n act w.threads.items w.memory w.stage.queue w.stage.started w.stage.ends

  abbrev pub WalkCame : Run → List entries.Entry → Walk S → Type 0
  WalkCame r log w = HasWalked meaning r log w.threads.items w.memory w.stage.queue w.stage.started w.stage.ends

  -- A walk stands somewhere; there its threads have this budget; there are as many of them as the program needs.
  abbrev pub StandsSomewhere : Walk S → Type 0
  StandsSomewhere w = (s : Standing) × WalkStands s w × (s.memory ≡ w.memory)

  abbrev pub StandsReady : Walk S → Type 0
  StandsReady w = (s : Standing) × WalkStands s w × (s.memory ≡ w.memory)
      × HasThreads s.program (length w.threads.items)

  -- Wherever it stood, it took an entry behind so many others, or an answer; or it can't take that.
  abbrev pub TakesEntry : Walk S → Walk S → ℕ → ℕ → entries.Entry → Type 0
  TakesEntry before after limit count e = (s : Standing) → WalkStands s before → s.memory ≡ before.memory
      → WalkTakes s limit count e.thread (act_of e) after

  abbrev pub RefusesEntry : Walk S → ℕ → ℕ → entries.Entry → Type 0
  RefusesEntry w limit count e = (s : Standing) → WalkStands s w → s.memory ≡ w.memory
      → IsRefused s limit count e.thread (act_of e)

  abbrev pub RefusesLeave : Walk S → ℕ → ℕ → entries.Entry → Type 0
  RefusesLeave w limit count e = (s : Standing) → WalkStands s w → IsRefused s limit count e.thread (act_of e)

  abbrev pub TakesAnswer : Walk S → Walk S → ℕ → Answer → Type 0
  TakesAnswer before after n answer = (s : Standing) (limit count : ℕ) → WalkStands s before → s.memory ≡ before.memory
      → WalkTakes s limit count n (Heard answer) after

  abbrev pub RefusesAnswer : Walk S → ℕ → Answer → Type 0
  RefusesAnswer w n answer = (s : Standing) (limit count : ℕ) → WalkStands s w
      → IsRefused s limit count n (Heard answer)

  -- Threads and a memory with which a run begins make a walk at its beginning.
  abbrev pub BeginsWalk : List S → Memory → ℕ → Walk S → Type 0
  BeginsWalk threads memory most w = (r : Run) → IsReady meaning r threads memory → r.threads ≡ most → WalkCame r [] w

  -- It is at the beginning of some run with this budget and this limit. From the beginning of each run with this limit
  -- it came along the whole log, or to the first entry that doesn't fit.
  abbrev pub IsNewWalk : Walk S → ℕ → Type 0
  IsNewWalk w limit = (r : Run) × WalkCame r [] w × (r.limit ≡ limit)

  abbrev pub ComesAlong : Walk S → ℕ → List entries.Entry → Walk S → Type 0
  ComesAlong before limit log after = (r : Run) → WalkCame r [] before → r.limit ≡ limit → WalkCame r log after

  abbrev pub StopsAt : Walk S → ℕ → List entries.Entry → ℕ → Type 0
  StopsAt w limit log k = (r : Run) → WalkCame r [] w → r.limit ≡ limit → IsFirstMisfit r log k

  -- It came along so many entries of the log of some run.
  abbrev pub HasComeBy : Walk S → ℕ → Type 0
  HasComeBy w count = (r : Run) × (log : List entries.Entry) × (length log ≡ count) × WalkCame r log w
