-- The sequential memory: what an event reads and writes where one thread alone steps it.
use Rattle.std.specs.Prelude.{ℕ, ◌≡◌, ◌+◌, ◌-◌, ◌*◌, ◌/◌, ◌%◌, ◌^◌, ◌==◌, Bool, nat_le, if◌then◌else◌}
use Rattle.std.specs.Prelude.{List, [], ◌∷◌, ◌++◌, length, take, drop, replicate, bit_and, bit_or, bit_xor}
use Rattle.std.specs.List.{splice}
use Rattle.types.specs.declared.event.Event.{Event}
use Rattle.types.specs.declared.event.Event.TheVariants.{Size, Grow, Load, Store, Rmw, Cmpxchg, Ask, Told}
use Rattle.types.specs.declared.event.Question.{Question}
use Rattle.types.specs.declared.event.Question.TheVariants.{Wait, Notify, Spawn, Leave}
use Rattle.types.specs.declared.event.Reply.{Reply}
use Rattle.types.specs.declared.event.Reply.TheVariants.{Value, Done, OutOfBounds}
use Rattle.types.specs.declared.event.RmwOp.{RmwOp}
use Rattle.types.specs.declared.event.RmwOp.TheVariants as ops
use Rattle.types.specs.declared.limits.TheConstants.{PAGE_SIZE}
use Rattle.shared_memory.specs.Numbers.{le_number, le_bytes}

-- A linear memory: its bytes, and how many pages it may have (Core specification 1.0, section 4.2.8).
pub record Memory : Type 0 where
  pub bytes : List ℕ
  pub max : ℕ

-- The page count; a page has 65,536 bytes (section 4.2.8).
abbrev pub pages : Memory → ℕ
pages m = length m.bytes / PAGE_SIZE

-- The number in so many bytes at an address (section 4.4.4, loads).
abbrev pub loaded : Memory → ℕ → ℕ → ℕ
loaded m addr width = le_number (take width (drop addr m.bytes))

-- The memory with a number in so many bytes at an address (section 4.4.4, stores).
abbrev pub written : Memory → ℕ → ℕ → ℕ → Memory
written m addr width n = record m { bytes = splice m.bytes addr (addr + width) (le_bytes width n) }

-- What a read-modify-write makes of the old value and its operand, modulo the width (threads proposal).
abbrev pub combined : RmwOp → ℕ → ℕ → ℕ → ℕ
combined ops.Add width old value = (old + value) % 2 ^ (8 * width)
combined ops.Sub width old value = (old + (2 ^ (8 * width) - value)) % 2 ^ (8 * width)
combined ops.And width old value = bit_and old value
combined ops.Or width old value = bit_or old value
combined ops.Xor width old value = bit_xor old value
combined ops.Xchg width old value = value

-- Its bytes are whole pages (section 4.2.8).
abbrev pub IsWhole : Memory → Type 0
IsWhole m = length m.bytes % PAGE_SIZE ≡ 0

-- So many more pages fit under the maximum.
abbrev pub can_grow : Memory → ℕ → Bool
can_grow m more = nat_le (pages m + more) m.max

-- The memory with so many pages of zeros behind it (section 4.4.4, memory.grow).
abbrev pub grown : Memory → ℕ → Memory
grown m more = record m { bytes = m.bytes ++ replicate (PAGE_SIZE * more) 0 }

-- An access that ends at this address has its effect only within the memory.
abbrev pub if_within : {A : Type 0} → Memory → ℕ → A → A → A
if_within m end inside outside = if nat_le end (length m.bytes) then inside else outside

-- The reply to a question: a wait loads its word, and a notify is tested as an access of four bytes.
abbrev pub reply_to_question : Memory → Question → Reply
reply_to_question m (Wait addr width expected timeout) =
    if_within m (addr + width) (Value (loaded m addr width)) OutOfBounds
reply_to_question m (Notify addr count) = if_within m (addr + 4) Done OutOfBounds
reply_to_question m (Spawn arg) = Done
reply_to_question m Leave = Done

-- The reply to an event.
abbrev pub reply_of : Memory → Event → Reply
reply_of m Size = Value (pages m)
reply_of m (Grow more) = Value (if can_grow m more then pages m else 4294967295)
reply_of m (Load addr width reach) = if_within m reach (Value (loaded m addr width)) OutOfBounds
reply_of m (Store addr width reach value) = if_within m reach Done OutOfBounds
reply_of m (Rmw op addr width value) = if_within m (addr + width) (Value (loaded m addr width)) OutOfBounds
reply_of m (Cmpxchg addr width expected replacement) =
    if_within m (addr + width) (Value (loaded m addr width)) OutOfBounds
reply_of m (Ask question) = reply_to_question m question
reply_of m (Told answer) = Done

-- The memory after an event.
abbrev pub state_after : Memory → Event → Memory
state_after m Size = m
state_after m (Grow more) = if can_grow m more then grown m more else m
state_after m (Load addr width reach) = m
state_after m (Store addr width reach value) = if_within m reach (written m addr width value) m
state_after m (Rmw op addr width value) =
    if_within m (addr + width) (written m addr width (combined op width (loaded m addr width) value)) m
state_after m (Cmpxchg addr width expected replacement) =
    if_within m (addr + width) (if loaded m addr width == expected then written m addr width replacement else m) m
state_after m (Ask question) = m
state_after m (Told answer) = m

-- The aligned 8-byte word that holds an address.
abbrev pub word_at : Memory → ℕ → List ℕ
word_at m addr = take 8 (drop (addr / 8 * 8) m.bytes)

-- What an event touches: the aligned 8-byte word of its address, or for a grow the page count.
abbrev pub touched : Memory → Event → List ℕ
touched m Size = []
touched m (Grow more) = pages m ∷ []
touched m (Load addr width reach) = []
touched m (Store addr width reach value) = word_at m addr
touched m (Rmw op addr width value) = word_at m addr
touched m (Cmpxchg addr width expected replacement) = word_at m addr
touched m (Ask question) = []
touched m (Told answer) = []
