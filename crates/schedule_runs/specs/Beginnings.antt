-- Which threads begin in a history, and in longer ones.
use Rattle.std.specs.Prelude.{ℕ, ◌≡◌, List, [], ◌++◌, Some, None}
use Rattle.types.specs.declared.event.Entry as entries
use Rattle.shared_memory.specs.WaitQueue.{WaitQueue}
use Rattle.shared_memory.specs.History.{queue_after}
use Rattle.shared_memory.specs.Legal.{IsQueueLegal}
use Rattle.interp_machine.specs.State.{State}
use Rattle.schedule_runs.specs.Runs.{Start, begins_in}

-- A thread that begins in a history begins as it does in each longer one.
abbrev pub BeginningsStay : Type 0
BeginningsStay = (b : Start) (xs ys : List entries.Entry) (n : ℕ) (c : State) → begins_in b xs n ≡ Some c
    → begins_in b (xs ++ ys) n ≡ Some c

-- Where nobody is alive any more, nobody begins later.
abbrev pub NobodyBeginsLater : Type 0
NobodyBeginsLater =
    (b : Start) (xs ys : List entries.Entry) (n : ℕ) → IsQueueLegal (xs ++ ys) → WaitQueue.alive (queue_after xs) ≡ []
    → begins_in b xs n ≡ None → begins_in b (xs ++ ys) n ≡ None
