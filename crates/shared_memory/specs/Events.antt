-- Which events there are, and which kinds of them.
use Rattle.std.specs.Prelude.{ℕ, ◌≡◌, ◌+◌, ◌*◌, ◌%◌, ◌^◌, ◌<◌, ◌≤◌, ◌⊎◌, Bool, true, false}
use Rattle.types.specs.declared.event.Event.{Event}
use Rattle.types.specs.declared.event.Event.TheVariants.{Size, Grow, Load, Store, Rmw, Cmpxchg, Ask, Told}
use Rattle.types.specs.declared.event.Question.{Question}
use Rattle.types.specs.declared.event.Question.TheVariants.{Wait, Notify, Spawn, Leave}

-- A value has at most so many bytes.
abbrev pub FitsWidth : ℕ → ℕ → Type 0
FitsWidth width value = value < 2 ^ (8 * width)

-- A part of an access lies in one aligned 8-byte word, and the whole access ends at reach.
pub record IsPart (addr width reach : ℕ) : Type 0 where
  pub some : 1 ≤ width
  pub one_word : addr % 8 + width ≤ 8
  pub ends : addr + width ≤ reach
  pub near : reach ≤ addr + 8

-- An atomic access has a width of 1, 2, 4 or 8 bytes, which divides its address (threads proposal, "Alignment").
pub record IsAtomic (addr width : ℕ) : Type 0 where
  pub of_width : (width ≡ 1) ⊎ (width ≡ 2) ⊎ (width ≡ 4) ⊎ (width ≡ 8)
  pub aligned : addr % width ≡ 0

-- The conditions on a question.
abbrev pub IsQuestion : Question → Type 0
IsQuestion (Wait addr width expected timeout) = ((width ≡ 4) ⊎ (width ≡ 8)) × (addr % width ≡ 0)
    × FitsWidth width expected
IsQuestion (Notify addr count) = addr % 4 ≡ 0
IsQuestion (Spawn arg) = Unit {0}
IsQuestion Leave = Unit {0}

-- The conditions on an event.
abbrev pub IsEvent : Event → Type 0
IsEvent Size = Unit {0}
IsEvent (Grow more) = Unit {0}
IsEvent (Load addr width reach) = IsPart addr width reach
IsEvent (Store addr width reach value) = IsPart addr width reach × FitsWidth width value
IsEvent (Rmw op addr width value) = IsAtomic addr width × FitsWidth width value
IsEvent (Cmpxchg addr width expected replacement) = IsAtomic addr width × FitsWidth width replacement
IsEvent (Ask question) = IsQuestion question
IsEvent (Told answer) = Unit {0}

-- The events of the wait queue: questions, and answers taken.
abbrev pub is_of_queue : Event → Bool
is_of_queue (Ask question) = true
is_of_queue (Told answer) = true
is_of_queue _ = false

-- The events that a full log still takes: a thread can always leave, and hear its answer.
abbrev pub is_exempt : Event → Bool
is_exempt (Ask Leave) = true
is_exempt (Told answer) = true
is_exempt _ = false

-- The events whose try can be lost to another thread.
abbrev pub may_lose : Event → Bool
may_lose (Grow more) = true
may_lose (Store addr width reach value) = true
may_lose (Rmw op addr width value) = true
may_lose (Cmpxchg addr width expected replacement) = true
may_lose _ = false
