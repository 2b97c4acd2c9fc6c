-- The place of a thread, as the wait queue has it.
use Rattle.std.specs.Prelude.{ℕ, cond, nat_lt, Option, Some, None}
use Rattle.types.specs.declared.event.Answer.{Answer}
use Rattle.shared_memory.specs.WaitQueue.{WaitQueue, is_asleep, answer_due, next_id}
use Rattle.schedule.specs.Histories.{Place, Place.Unstarted, Place.Free, Place.Open, Place.Due}

-- Who is owed an answer has it due; who isn't is free.
abbrev pub place_due : Option Answer → Place Answer
place_due None = Free
place_due (Some a) = Due a

-- Not started is whose number isn't given out; open is who sleeps.
unfoldable pub place_of : WaitQueue → ℕ → Place Answer
place_of q n = cond (nat_lt n (next_id q)) (cond (is_asleep q n) Open (place_due (answer_due q n))) Unstarted
