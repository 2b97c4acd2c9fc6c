-- That a history is legal has one proof at most.
use Rattle.std.proofs.Common.{◌≡◌, ℕ, Bool, true, false, List, [], ◌∷◌, Option, Some, None}
use Rattle.std.specs.Coded.{×_prop, Unit-prop}
use Rattle.std.proofs.Props.{props}
use Rattle.types.specs.declared.event.Entry.{Entry}
use Rattle.types.specs.declared.event.Event.{Event}
use Rattle.types.specs.declared.event.Event.TheVariants.{Ask, Told}
use Rattle.types.specs.declared.event.Answer.{Answer}
use Rattle.types.specs.declared.event.Reply.{Reply}
use Rattle.types.specs.declared.limits.TheConstants.{MOST_THREADS}
use Rattle.shared_memory.specs.Memory.{Memory, reply_of, state_after}
use Rattle.shared_memory.specs.WaitQueue.{WaitQueue, first_queue, is_alive, is_asleep, answer_due, IsFree}
use Rattle.shared_memory.specs.History.{of_queue, queue_step, queue_after}
use Rattle.shared_memory.specs.Legal.{IsMemoryLegal, IsAllowed, IsQueueLegalFrom, IsQueueLegal, MayEnter, IsInTurn, IsWellFormedFrom, IsWellFormed, IsLegal}

Reply-set : (a b : Reply) → IsProp (a ≡ b)
Reply-set a b = hlevel props

due-set : (a b : Option Answer) → IsProp (a ≡ b)
due-set a b = hlevel props

test-set : (a b : Bool) → IsProp (a ≡ b)
test-set a b = hlevel props

pub IsFree-prop : (q : WaitQueue) (n : ℕ) → IsProp (IsFree q n)
IsFree-prop q n = λ x y. λ i. record {
  alive = test-set (is_alive q n) true x.alive y.alive i;
  awake = test-set (is_asleep q n) false x.awake y.awake i;
  told = due-set (answer_due q n) None x.told y.told i;
}

pub IsMemoryLegal-prop : (m : Memory) (history : List Entry) → IsProp (IsMemoryLegal m history)
IsMemoryLegal-prop m [] = Unit-prop
IsMemoryLegal-prop m (e ∷ history) = ×_prop (Reply-set e.reply (reply_of m e.event)) (IsMemoryLegal-prop (state_after m e.event) history)

pub IsAllowed-prop : (q : WaitQueue) (n : ℕ) (event : Event) → IsProp (IsAllowed q n event)
IsAllowed-prop q n (Ask question) = IsFree-prop q n
IsAllowed-prop q n (Told answer) = due-set (answer_due q n) (Some answer)
IsAllowed-prop q n _ = Unit-prop

IsQueueLegalFrom-prop : (q : WaitQueue) (history : List Entry) → IsProp (IsQueueLegalFrom q history)
IsQueueLegalFrom-prop q [] = Unit-prop
IsQueueLegalFrom-prop q (e ∷ history) = ×_prop (IsAllowed-prop q e.thread e.event) (IsQueueLegalFrom-prop (queue_step q e.thread e.event e.reply) history)

pub IsQueueLegal-prop : (history : List Entry) → IsProp (IsQueueLegal history)
unfolding IsQueueLegal
IsQueueLegal-prop history = IsQueueLegalFrom-prop (first_queue MOST_THREADS) (of_queue history)

pub MayEnter-prop : (n : ℕ) (event : Event) (history : List Entry) → IsProp (MayEnter n event history)
unfolding MayEnter
MayEnter-prop n event history = IsAllowed-prop (queue_after history) n event

IsInTurn-prop : (q : WaitQueue) (n : ℕ) (event : Event) → IsProp (IsInTurn q n event)
IsInTurn-prop q n (Told answer) = Unit-prop
IsInTurn-prop q n _ = IsFree-prop q n

IsWellFormedFrom-prop : (q : WaitQueue) (history : List Entry) → IsProp (IsWellFormedFrom q history)
IsWellFormedFrom-prop q [] = Unit-prop
IsWellFormedFrom-prop q (e ∷ history) = ×_prop (IsInTurn-prop q e.thread e.event) (IsWellFormedFrom-prop (queue_step q e.thread e.event e.reply) history)

pub IsWellFormed-prop : (history : List Entry) → IsProp (IsWellFormed history)
unfolding IsWellFormed
IsWellFormed-prop history = IsWellFormedFrom-prop (first_queue MOST_THREADS) history

pub IsLegal-prop : (opening : Memory) (history : List Entry) → IsProp (IsLegal opening history)
IsLegal-prop opening history = λ x y. λ i. record {
  memory = IsMemoryLegal-prop opening history x.memory y.memory i;
  queue = IsQueueLegal-prop history x.queue y.queue i;
  form = IsWellFormed-prop history x.form y.form i;
}
