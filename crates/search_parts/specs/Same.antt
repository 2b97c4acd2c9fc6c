-- What is equal is the same, and what is the same is equal.
use Rattle.std.specs.Prelude.{ℕ, ◌≡◌, true, List, map}
use Rattle.validate_typing.specs.Tabled.{WithTables}
use Rattle.waiters.specs.Kept.{queue_of}
use Rattle.waiters.specs.declared.kept.KeptQueue.{KeptQueue}
use Rattle.waiters.specs.contracts.kept.KeptQueuePartialEq.TheImpl as queues
use Rattle.interp_machine.specs.Config.{Config}
use Rattle.interp_machine.specs.State.{At}
use Rattle.interp.specs.Kept.{IsKept}
use Rattle.interp.specs.declared.kept.Kept.{Kept}
use Rattle.search_memory.specs.Memories.{memory_of, HasDifferences}
use Rattle.search_memory.specs.declared.beside.Changes.{Changes}
use Rattle.search_memory.specs.contracts.beside.ChangesPartialEq.TheImpl as memories
use Rattle.search_threads.specs.Unlimited.{Unlimited.Going as Goes}
use Rattle.search_runs.specs.Called.{Walker}
use Rattle.search_parts.specs.Walkers.{StandsForThread, Wants}
use Rattle.search_parts.specs.declared.walker.RestingThread.{RestingThread}
use Rattle.search_parts.specs.declared.walker.RestingThread.TheVariants.{Missing, Going, Ended, Leaving, Away}
use Rattle.search_parts.specs.contracts.walker.RestingThreadPartialEq.TheImpl as standings

abbrev pub EqualMemoriesAreTheSame : Type 0
EqualMemoriesAreTheSame =
    (opening : List ℕ) (x y : Changes) → memories.eq-value.it x y ≡ true → memory_of opening x ≡ memory_of opening y

abbrev pub EqualQueuesAreTheSame : Type 0
EqualQueuesAreTheSame = (x y : KeptQueue) → queues.eq-value.it x y ≡ true → queue_of x ≡ queue_of y

abbrev pub EqualStandingsAreTheSame : Type 0
EqualStandingsAreTheSame =
    (w : WithTables) (x y : RestingThread) (v : Walker) → standings.eq-value.it x y ≡ true → StandsForThread w x v → StandsForThread w y v

-- Changes that say each byte that differs once, in order of the addresses, and no other (search_memory makes no others).
abbrev pub TheSameMemoriesAreEqual : Type 0
TheSameMemoriesAreEqual =
    (opening : List ℕ) (x y : Changes) → HasDifferences opening x → HasDifferences opening y
    → memory_of opening x ≡ memory_of opening y → memories.eq-value.it x y ≡ true

abbrev pub TheSameQueuesAreEqual : Type 0
TheSameQueuesAreEqual = (x y : KeptQueue) → queue_of x ≡ queue_of y → queues.eq-value.it x y ≡ true

-- The function that runs, the instruction that comes next in it, and those of each caller.
pub record AreAtOnePlace (x y : Kept) : Type 0 where
  pub function : x.function ≡ y.function
  pub instruction : x.pc ≡ y.pc
  pub callers : map (λ c. c.function) x.callers.items ≡ map (λ c. c.function) y.callers.items
  pub instructions : map (λ c. c.pc) x.callers.items ≡ map (λ c. c.pc) y.callers.items

-- A configuration doesn't name the functions that it is in: two of the same code are told apart by their places alone.
abbrev pub AreWhereTheyAre : RestingThread → RestingThread → Type 0
AreWhereTheyAre (Going x o) (Going y p) = AreAtOnePlace x y
AreWhereTheyAre Missing y = Unit {0}
AreWhereTheyAre (Ended o) y = Unit {0}
AreWhereTheyAre (Leaving o) y = Unit {0}
AreWhereTheyAre (Away o) y = Unit {0}
AreWhereTheyAre (Going x o) y = Unit {0}

-- It stands for the thread with all its locals, those that are dead too.
abbrev pub StandsForJust : WithTables → RestingThread → Walker → Type 0
StandsForJust w (Going k o) v = (c : Config) × (v ≡ Goes (At c)) × IsKept w k c × Wants w v o
StandsForJust w Missing v = StandsForThread w Missing v
StandsForJust w (Ended o) v = StandsForThread w (Ended o) v
StandsForJust w (Leaving o) v = StandsForThread w (Leaving o) v
StandsForJust w (Away o) v = StandsForThread w (Away o) v

abbrev pub TheSameStandingsAreEqual : Type 0
TheSameStandingsAreEqual =
    (w : WithTables) (x y : RestingThread) (v : Walker) → AreWhereTheyAre x y → StandsForJust w x v → StandsForJust w y v
    → standings.eq-value.it x y ≡ true
