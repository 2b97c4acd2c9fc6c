-- Reading from left to right: the value at the front and the bytes behind it, or the first fault, with its offset.
use Rattle.std.specs.Prelude.{◌≡◌, ℕ, zero, suc, ◌+◌, ◌-◌, ◌*◌, ◌/◌, List, [], ◌∷◌, length, take, drop, Option, Some}
use Rattle.std.specs.Prelude.{None, Result, Ok, Err, nat_lt, nat_eq, Bool, true, false, if◌then◌else◌}
use Rattle.std.specs.Str.{is_utf8}
use Rattle.binary_wire.specs.declared.bounds.Bounds.{Bounds}
use Rattle.binary_wire.specs.declared.reader.Reader.{Reader}
use Rattle.binary_wire.specs.declared.fault.Fault.{Fault}
use Rattle.binary_wire.specs.declared.fault.Fault.TheVariants as kinds
use Rattle.binary_wire.specs.declared.fault.Refusal.{Refusal}
use Rattle.binary_wire.specs.declared.fault.ReadFault.{ReadFault}
use Rattle.binary_wire.specs.declared.fault.ReadFault.TheVariants.{OutOfMemory, Malformed}
use Rattle.binary_wire.specs.Faults.{refusal, offset_of, refused, missing, inside}

-- What is read of the bytes that are left within bounds.
abbrev pub Reading : Type 0 → Type 0
Reading A = Bounds → List ℕ → Result (A × List ℕ) Refusal

infixl 10 ◌>>=◌
abbrev pub ◌>>=◌ : {A B : Type 0} → Result A Refusal → (A → Result B Refusal) → Result B Refusal
(Ok x) >>= f = f x
(Err e) >>= f = Err e

-- The value, or a refusal where there is none.
abbrev pub some_or : {A : Type 0} → Refusal → Option A → Result A Refusal
some_or e (Some x) = Ok x
some_or e None = Err e

-- A fault that says something of the bytes.
abbrev pub Refuses : ReadFault → Type 0
Refuses OutOfMemory = ⊥
Refuses (Malformed kind offset) = Unit {0}

-- A fault other than out of memory is the one that reading gives.
abbrev pub Fails : {Y : Type 0} → ReadFault → Result Y Refusal → Type 0
Fails OutOfMemory read = Unit {0}
Fails (Malformed kind offset) read = read ≡ Err (refusal kind offset)

-- What a reader answers that takes no memory: what reading gives.
abbrev pub Gives : {X Y : Type 0} → (X → Y) → Result X Refusal → Result Y Refusal → Type 0
Gives view (Ok x) read = read ≡ Ok (view x)
Gives view (Err e) read = read ≡ Err e

-- What a reader answers that takes memory: the same, or that memory ran out.
abbrev pub GivesInMemory : {X Y : Type 0} → (X → Y) → Result X ReadFault → Result Y Refusal → Type 0
GivesInMemory view (Ok x) read = read ≡ Ok (view x)
GivesInMemory view (Err e) read = Fails e read

-- What reading gives of what a reader has left.
abbrev pub read_at : {A : Type 0} → (Bounds → List ℕ → Result A Refusal) → Reader → Result A Refusal
read_at reading reader = reading reader.bounds reader.rest.now

-- What a reader answers that reads the value at the front of what it had left, seen by view, and is left at the bytes
-- behind it.
abbrev pub GivesNextAs : {X A : Type 0} → (X → A) → Reading A → Reader → Reader → Result X Refusal → Type 0
GivesNextAs view reading old new result = Gives (λ x. (view x, new.rest.now)) result (read_at reading old)

abbrev pub GivesNext : {A : Type 0} → Reading A → Reader → Reader → Result A Refusal → Type 0
GivesNext reading old new result = GivesNextAs (λ x. x) reading old new result

-- The same of one that takes memory.
abbrev pub GivesNextInMemoryAs : {X A : Type 0} → (X → A) → Reading A → Reader → Reader → Result X ReadFault → Type 0
GivesNextInMemoryAs view reading old new result =
    GivesInMemory (λ x. (view x, new.rest.now)) result (read_at reading old)

abbrev pub GivesNextInMemory : {A : Type 0} → Reading A → Reader → Reader → Result A ReadFault → Type 0
GivesNextInMemory reading old new result = GivesNextInMemoryAs (λ x. x) reading old new result

-- What a reader answers that passes over what has to stand at the front of what it had left.
abbrev pub PassesOver : {X : Type 0} → (Bounds → List ℕ → Result (List ℕ) Refusal) → Reader → Reader → Result X Refusal
    → Type 0
PassesOver reading old new result = Gives (λ _. new.rest.now) result (read_at reading old)

abbrev pub front : List ℕ → Option ℕ
front [] = None
front (b ∷ bytes) = Some b

abbrev pub front_is : ℕ → List ℕ → Bool
front_is byte [] = false
front_is byte (b ∷ bytes) = nat_eq b byte

abbrev pub byte_at : Reading ℕ
byte_at s [] = Err (missing s)
byte_at s (b ∷ rest) = Ok (b, rest)

-- A byte that has to stand there.
abbrev pub tag_at : Fault → ℕ → Bounds → List ℕ → Result (List ℕ) Refusal
tag_at kind tag s [] = Err (missing s)
tag_at kind tag s (b ∷ bytes) = if nat_eq b tag then Ok bytes else Err (refused kind s (b ∷ bytes))

-- Nothing is left of contents of stated size.
abbrev pub end_at : Bounds → List ℕ → Result Bool Refusal
end_at s [] = Ok true
end_at s (b ∷ bytes) = Err (refused kinds.Size s (b ∷ bytes))

abbrev pub slice_at : ℕ → Reading (List ℕ)
slice_at n s bytes = if nat_lt (length bytes) n then Err (missing s) else Ok (take n bytes, drop n bytes)

-- What is left of a number whose first byte is at an offset.
unfoldable pub unsigned_at : ℕ → ℕ → Reading ℕ
unsigned_at top first s [] = Err (missing s)
unsigned_at top first s (b ∷ rest) =
    if nat_lt b 128 then (if nat_lt top b then Err (refusal kinds.Number first) else Ok (b, rest))
    else (if nat_lt 127 top then (unsigned_at (top / 128) first s rest >>= λ x. Ok (b - 128 + 128 * x.0, x.1))
    else Err (refusal kinds.Number first))

abbrev pub u32_at : Reading ℕ
u32_at s bytes = unsigned_at 0xffff_ffff (offset_of s bytes) s bytes

-- A number that has a limit.
unfoldable pub u32_within_at : ℕ → Reading ℕ
u32_within_at limit s bytes = do
  n ← u32_at s bytes
  if nat_lt limit n.0 then Err (refused kinds.Limit s bytes) else Ok n

unfoldable pub signed_at : ℕ → ℕ → Reading ℕ
signed_at half first s [] = Err (missing s)
signed_at half first s (b ∷ rest) =
    if nat_lt b 64 then (if nat_lt b half then Ok (b, rest) else Err (refusal kinds.Number first))
    else (if nat_lt b 128 then (if nat_lt (b + half) 128 then Err (refusal kinds.Number first) else Ok
    (half - (128 - b) + half, rest))
    else (if nat_lt 64 half then (signed_at (half / 128) first s rest >>= λ x. Ok (b - 128 + 128 * x.0, x.1))
    else Err (refusal kinds.Number first)))

abbrev pub s32_at : Reading ℕ
s32_at s bytes = signed_at 0x8000_0000 (offset_of s bytes) s bytes

abbrev pub s64_at : Reading ℕ
s64_at s bytes = signed_at 0x8000_0000_0000_0000 (offset_of s bytes) s bytes

-- A size, and so many bytes.
unfoldable pub block_at : Reading (List ℕ)
block_at s bytes = u32_at s bytes >>= λ n. slice_at n.0 s n.1

-- A name that isn't UTF-8 is refused behind its size.
unfoldable pub name_at : Reading (List ℕ)
name_at s bytes = do
  size ← u32_at s bytes
  text ← slice_at size.0 s size.1
  if is_utf8 text.0 then Ok text else Err (refused kinds.Name s size.1)

-- A size, and contents of exactly that size.
unfoldable pub sized_at : {A : Type 0} → Reading A → Reading A
sized_at inner s bytes = do
  contents ← block_at s bytes
  x ← inner (inside s contents.1) contents.0
  whole ← end_at (inside s contents.1) x.1
  Ok (x.0, contents.1)

-- So many items.
unfoldable pub items_at : {A : Type 0} → Reading A → ℕ → Reading (List A)
items_at item zero s bytes = Ok ([], bytes)
items_at item (suc n) s bytes = do
  first ← item s bytes
  others ← items_at item n s first.1
  Ok (first.0 ∷ others.0, others.1)

-- A count within a limit, and so many items.
unfoldable pub vector_at : {A : Type 0} → ℕ → Reading A → Reading (List A)
vector_at limit item s bytes = do
  n ← u32_within_at limit s bytes
  items_at item n.0 s n.1
