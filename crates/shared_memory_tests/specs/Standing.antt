-- How a thread stands by the list that its seat has seen.
use Rattle.std.specs.Prelude.{ℕ, ◌≡◌, List, []}
use Rattle.types.specs.declared.event.Entry.{Entry}
use Rattle.shared_memory.specs.WaitQueue.{IsFree}
use Rattle.shared_memory.specs.History.{entries_of, queue_after}
use Rattle.waiters_desk.specs.Calls.{IsWaiting}

-- It is alive without an open question.
abbrev pub StandsFree : ℕ → List Entry → Type 0
StandsFree n seen = IsFree (queue_after seen) n

-- Its question is open.
abbrev pub StandsWaiting : ℕ → List Entry → Type 0
StandsWaiting n seen = IsWaiting (queue_after seen) n

-- It has entered nothing.
abbrev pub StandsNew : ℕ → List Entry → Type 0
StandsNew n seen = entries_of n seen ≡ []
