-- What the calls of a desk do, said of their caller's seat before and after.
use Rattle.std.specs.Prelude.{ℕ, ℤ, ◌≡◌, true, [], ◌∷◌, Option, IfSome}
use Rattle.types.specs.declared.event.Question.{Question}
use Rattle.types.specs.declared.event.Answer.{Answer}
use Rattle.shared_memory.specs.declared.memory.SharedMemory.{Ghosts}
use Rattle.shared_memory.specs.WaitQueue.{WaitQueue}
use Rattle.waiters.specs.Queue.{falls_asleep}
use Rattle.waiters_desk.specs.declared.answers.Asked.{Asked}
use Rattle.waiters_desk.specs.declared.answers.Notified.{Notified}
use Rattle.waiters_desk.specs.declared.turn.Entered.{Entered}
use Rattle.waiters_desk.specs.Calls.{Asks, BeginsOrNever, Collects, EntersAtDesk, IsBeside, Leaves}
use Rattle.waiters_desk.specs.Calls.{Notifies, Puts, Refused, Spawns, Waits, loaded_of, step_of, taken}
use Rattle.waiters_desk.specs.Locks.{NotifiesBehind, WaitReads}

-- It is a seat's turn: it has the queue right, and the wait queue is the one after what it has seen, which is legal for
-- it.
pub record HasTurn {M S : Type 0} (m : Ghosts M S) (queue : WaitQueue) (seat : S) : Type 0 where
  pub right : m.has_queue_right seat ≡ true
  pub beside : IsBeside queue (m.seen seat)

-- The wait queue makes the step of thread n's question, and the thread falls asleep where the question lets it.
abbrev pub MakesStep : Question → ℕ → WaitQueue → WaitQueue → Option Entered → Type 0
MakesStep question n before after entered = after ≡ step_of question (loaded_of entered) n before

abbrev pub IsAsleepAfter : Question → Option Entered → Type 0
IsAsleepAfter question entered = IfSome entered (λ e. e.asleep ≡ falls_asleep question e.loaded)

-- What each call does.
abbrev pub SeatAsks : {M S : Type 0} → Ghosts M S → M → S → S → Question → Option Entered → Type 0
SeatAsks m memory before after question entered =
    Asks m.opening (m.limit memory) (m.name before) question (loaded_of entered) (m.seen before) (m.seen after)

-- It enters the answer to its question.
abbrev pub SeatHears : {M S : Type 0} → Ghosts M S → S → S → Answer → Type 0
SeatHears m before after answer =
    EntersAtDesk m.opening (m.name before) (taken (m.name before) answer ∷ []) (m.seen before) (m.seen after)

abbrev pub SeatPuts : {M S : Type 0} → Ghosts M S → M → S → S → Question → Asked → Type 0
SeatPuts m memory before after question =
    Puts m.opening (m.limit memory) (m.name before) question (m.seen before) (m.seen after)

abbrev pub SeatRefused : {M S : Type 0} → Ghosts M S → M → S → S → Type 0
SeatRefused m memory before after = Refused m.opening (m.limit memory) (m.name before) (m.seen before) (m.seen after)

abbrev pub SeatNotifies : {M S : Type 0} → Ghosts M S → M → S → S → ℕ → ℕ → Notified → Type 0
SeatNotifies m memory before after addr count =
    Notifies m.opening (m.limit memory) (m.name before) addr count (m.seen before) (m.seen after)

abbrev pub SeatNotifiesBehind : {M S : Type 0} → Ghosts M S → S → S → ℕ → ℕ → Type 0
SeatNotifiesBehind m before after addr count =
    NotifiesBehind m.opening (m.name before) addr count (m.seen before) (m.seen after)

abbrev pub SeatSpawns : {M S : Type 0} → Ghosts M S → M → S → S → ℕ → ℕ → Type 0
SeatSpawns m memory before after arg =
    Spawns m.opening (m.limit memory) (m.name before) arg (m.seen before) (m.seen after)

abbrev pub SeatLeaves : {M S : Type 0} → Ghosts M S → M → S → S → Type 0
SeatLeaves m memory before after = Leaves m.opening (m.limit memory) (m.name before) (m.seen before) (m.seen after)

abbrev pub SeatCollects : {M S : Type 0} → Ghosts M S → S → S → Answer → Type 0
SeatCollects m before after answer = Collects m.opening (m.name before) answer (m.seen before) (m.seen after)

abbrev pub SeatBegins : {M S : Type 0} → Ghosts M S → S → S → Option ℕ → Type 0
SeatBegins m before after arg = BeginsOrNever m.opening (m.name before) (m.seen before) (m.seen after) arg

abbrev pub SeatWaits : {M S : Type 0} → Ghosts M S → M → S → S → ℕ → ℕ → ℕ → ℤ → Asked → Type 0
SeatWaits m memory before after addr width expected timeout =
    Waits m.opening (m.limit memory) (m.name before) addr width expected timeout (m.seen before) (m.seen after)

abbrev pub SeatReads : {M S : Type 0} → Ghosts M S → S → S → ℕ → ℕ → ℕ → ℤ → Asked → Type 0
SeatReads m before after addr width expected timeout =
    WaitReads m.opening (m.name before) addr width expected timeout (m.seen before) (m.seen after)
