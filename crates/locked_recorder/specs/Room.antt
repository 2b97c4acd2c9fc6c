-- The room that a log needs past its limit, for the entries that no limit holds back.
use Rattle.std.specs.Prelude.{ℕ, zero, suc, ◌+◌, ◌*◌, ◌≤◌, List, length}
use Rattle.types.specs.declared.event.Entry.{Entry}
use Rattle.types.specs.declared.limits.TheConstants.{MOST_THREADS, PAST_LIMIT}
use Rattle.shared_memory.specs.WaitQueue.{WaitQueue, has_open_question}
use Rattle.shared_memory.specs.History.{queue_after}
use Rattle.shared_memory_on_table.specs.Callers.{one_if}

-- How many of the threads with a number below this one have an open question.
unfoldable pub open_questions : WaitQueue → ℕ → ℕ
open_questions q zero = 0
open_questions q (suc n) = one_if (has_open_question q n) + open_questions q n

-- How many entries threads may still make past a limit: each live one its last question and the answer to it, and each
-- with an open question the answer to that.
unfoldable pub still_due : WaitQueue → ℕ
still_due q = 2 * length q.alive + open_questions q MOST_THREADS

-- With all that may still come past the limit, a log has 192 entries above it at most.
abbrev pub HasSpare : ℕ → List Entry → Type 0
HasSpare limit history = length history + still_due (queue_after history) ≤ limit + PAST_LIMIT
