-- What one word settles of an event: an answer without a change, or what an exchange makes of the word.
use Rattle.std.specs.Prelude.{ℕ, ◌≡◌, ◌+◌, ◌*◌, ◌/◌, ◌%◌, ◌^◌, ◌<◌, ◌≤◌, ◌==◌, Bool, true, false, nat_le, if◌then◌else◌}
use Rattle.std.specs.Prelude.{Option, Some, None, bit_and, bit_or, bit_xor}
use Rattle.types.specs.declared.event.Event.{Event}
use Rattle.types.specs.declared.event.Event.TheVariants.{Size, Grow, Load, Store, Rmw, Cmpxchg, Ask, Told}
use Rattle.types.specs.declared.event.Question.TheVariants.{Wait, Notify, Spawn, Leave}
use Rattle.types.specs.declared.event.Reply.{Reply}
use Rattle.types.specs.declared.event.Reply.TheVariants.{Value, Done, OutOfBounds}
use Rattle.types.specs.declared.event.RmwOp.{RmwOp}
use Rattle.types.specs.declared.event.RmwOp.TheVariants as ops
use Rattle.types.specs.declared.limits.TheConstants.{PAGE_SIZE}
use Rattle.shared_memory.specs.Memory.{combined}
use Rattle.shared_memory_sequential.specs.Words.{lane_of, IsWithLane}
use Rattle.word_row.specs.declared.single.Single.{Single}
use Rattle.word_row.specs.declared.single.Single.TheVariants.{Swap, Add, And, Or, Xor}

-- The address at which an access ends.
abbrev pub end_of : Event → ℕ
end_of Size = 0
end_of (Grow more) = 0
end_of (Load addr width reach) = reach
end_of (Store addr width reach value) = reach
end_of (Rmw op addr width value) = addr + width
end_of (Cmpxchg addr width expected replacement) = addr + width
end_of (Ask (Wait addr width expected timeout)) = addr + width
end_of (Ask (Notify addr count)) = addr + 4
end_of (Ask (Spawn arg)) = 0
end_of (Ask Leave) = 0
end_of (Told answer) = 0

-- Whether an event reads or writes bytes of the memory.
abbrev pub is_access : Event → Bool
is_access (Load addr width reach) = true
is_access (Store addr width reach value) = true
is_access (Rmw op addr width value) = true
is_access (Cmpxchg addr width expected replacement) = true
is_access (Ask (Wait addr width expected timeout)) = true
is_access _ = false

-- The word that an event reads or changes: word 0 is the page count, and the one that holds an address is one further
-- than that address in words of eight bytes.
abbrev pub place_of : Event → ℕ
place_of (Load addr width reach) = addr / 8 + 1
place_of (Store addr width reach value) = addr / 8 + 1
place_of (Rmw op addr width value) = addr / 8 + 1
place_of (Cmpxchg addr width expected replacement) = addr / 8 + 1
place_of (Ask (Wait addr width expected timeout)) = addr / 8 + 1
place_of _ = 0

-- An access that ends past so many pages is refused.
abbrev pub refusal : ℕ → ℕ → Option Reply
refusal end count = if nat_le end (PAGE_SIZE * count) then None else Some OutOfBounds

-- The reply that a page count settles. An access within bounds and a growth that can succeed are left open.
abbrev pub size_answer : ℕ → Event → ℕ → Option Reply
size_answer max Size count = Some (Value count)
size_answer max (Grow more) count = if nat_le (count + more) max then None else Some (Value 4294967295)
size_answer max (Load addr width reach) count = refusal reach count
size_answer max (Store addr width reach value) count = refusal reach count
size_answer max (Rmw op addr width value) count = refusal (addr + width) count
size_answer max (Cmpxchg addr width expected replacement) count = refusal (addr + width) count
size_answer max (Ask (Wait addr width expected timeout)) count = refusal (addr + width) count
size_answer max (Ask (Notify addr woken)) count =
    Some (if nat_le (addr + 4) (PAGE_SIZE * count) then Done else OutOfBounds)
size_answer max (Ask (Spawn arg)) count = Some Done
size_answer max (Ask Leave) count = Some Done
size_answer max (Told answer) count = Some Done

-- The reply that the word of an access within bounds settles. What changes the word is left open.
abbrev pub word_answer : Event → ℕ → Option Reply
word_answer (Load addr width reach) word = Some (Value (lane_of word addr width))
word_answer (Cmpxchg addr width expected replacement) word =
    if lane_of word addr width == expected then None else Some (Value (lane_of word addr width))
word_answer (Ask (Wait addr width expected timeout)) word = Some (Value (lane_of word addr width))
word_answer _ word = None

-- An event makes one word of another, and may: a growth within the maximum, or a lane replaced in the word.
abbrev pub Makes : ℕ → Event → ℕ → ℕ → Type 0
Makes max (Grow more) word new = (word + more ≤ max) × (new ≡ word + more)
Makes max (Store addr width reach value) word new = IsWithLane word addr width value new
Makes max (Rmw op addr width value) word new =
    IsWithLane word addr width (combined op width (lane_of word addr width) value) new
Makes max (Cmpxchg addr width expected replacement) word new =
    (lane_of word addr width ≡ expected) × IsWithLane word addr width replacement new
Makes max _ word new = ⊥

-- The reply where the exchange of the word was made.
abbrev pub made_reply : Event → ℕ → Reply
made_reply (Grow more) word = Value word
made_reply (Rmw op addr width value) word = Value (lane_of word addr width)
made_reply (Cmpxchg addr width expected replacement) word = Value (lane_of word addr width)
made_reply _ word = Done

-- The reply that an exchange settles: it was made where the word found is the one expected.
abbrev pub exchange_answer : Event → ℕ → ℕ → Option Reply
exchange_answer event old found = if found == old then Some (made_reply event old) else None

-- What a single exchange makes of a word.
abbrev pub after_single : Single → ℕ → ℕ
after_single (Swap new) word = new
after_single (Add more) word = (word + more) % 2 ^ 64
after_single (And bits) word = bit_and word bits
after_single (Or bits) word = bit_or word bits
after_single (Xor bits) word = bit_xor word bits

-- One exchange makes the event, whatever the word is.
abbrev pub IsMadeBy : Event → (ℕ → ℕ) → Type 0
IsMadeBy event makes = (max word : ℕ) → word < 2 ^ 64 → Makes max event word (makes word)

-- The read-modify-writes that a single exchange makes: those of a whole word, and the bitwise ones of any width.
abbrev pub is_single_rmw : RmwOp → ℕ → Bool
is_single_rmw ops.And width = true
is_single_rmw ops.Or width = true
is_single_rmw ops.Xor width = true
is_single_rmw _ width = width == 8

-- The events that are made in a single step on the word, whatever the word is. No try of them can be lost.
abbrev pub is_single : Event → Bool
is_single (Store addr width reach value) = width == 8
is_single (Rmw op addr width value) = is_single_rmw op width
is_single _ = false
