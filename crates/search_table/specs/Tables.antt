-- What numbers of parts stand for, and what tables of rows have. Types: G for what is shared, and H for threads.
use Rattle.std.specs.Prelude.{ℕ, zero, suc, ◌≡◌, ◌+◌, ◌*◌, ◌/◌, ◌%◌, ◌^◌, ◌<◌, ◌≤◌, Bool, true, false}
use Rattle.std.specs.Prelude.{List, [], ◌∷◌, length, get_or, Option, Some, None, nat_eq, bit_xor, slice_range}
use Rattle.std.specs.List.{slice_get, IsDistinct, AllZip, fold}
use Rattle.std.specs.Cmp.Lexicographic.{pointwise}
use Rattle.indexmap.specs.IndexSet.{insert_key}
use Rattle.search_table.specs.declared.parts.StateParts.{StateParts}
use Rattle.search_table.specs.declared.rows.PackedRows.{PackedRows}
use Rattle.search_table.specs.declared.states.States.{States}
use Rattle.search_table.specs.declared.states.RowPlace.{RowPlace}
use Rattle.search_table.specs.declared.states.RowPlace.TheVariants.{Known, Free}

-- What stands in the one list stands at the same place of the other.
abbrev pub Keeps : {A : Type 0} → List A → List A → Type 0
Keeps {A} xs ys = (i : ℕ) (x : A) → slice_get xs i ≡ Some x → slice_get ys i ≡ Some x

-- The one of this number equals it.
pub record HasEqual {A : Type 0} (eq : A → A → Bool) (xs : List A) (n : ℕ) (x : A) : Type 0 where
  pub key : A
  pub at : slice_get xs n ≡ Some key
  pub is : eq x key ≡ true

module _ {G H : Type 0} where
  -- All numbers stand for what they stood for.
  pub record Grows (before after : StateParts G H) : Type 0 where
    pub shared : Keeps before.shared.keys after.shared.keys
    pub threads : Keeps before.threads.keys after.threads.keys

  -- These are the threads of these numbers.
  abbrev pub AreThreads : StateParts G H → List ℕ → List H → Type 0
  AreThreads t numbers threads = AllZip (λ n x. slice_get t.threads.keys n ≡ Some x) numbers threads

  -- The row is of the state with this shared, and these threads.
  abbrev pub IsRow : StateParts G H → List ℕ → G → List H → Type 0
  IsRow t [] shared threads = ⊥
  IsRow t (number ∷ numbers) shared threads = (slice_get t.shared.keys number ≡ Some shared) × AreThreads t numbers threads

  pub record AreNoParts (t : StateParts G H) : Type 0 where
    pub shared : t.shared.keys ≡ []
    pub threads : t.threads.keys ≡ []

  -- No two of one list are equal.
  pub record ArePartsDistinct (eq_shared : G → G → Bool) (eq_thread : H → H → Bool) (t : StateParts G H) : Type 0 where
    pub shared : IsDistinct eq_shared t.shared.keys
    pub threads : IsDistinct eq_thread t.threads.keys

-- Rows of words that end at these places: the first one begins at `from`, and each other one where that before it ends.
abbrev pub cut : List ℕ → ℕ → List ℕ → List (List ℕ)
cut words from [] = []
cut words from (end ∷ ends) = slice_range words from end ∷ cut words end ends

-- Where a row begins.
abbrev pub start_at : ℕ → List ℕ → ℕ → ℕ
start_at from ends zero = from
start_at from ends (suc i) = get_or ends i from

-- They end one behind the other, and the last one at the end of all.
abbrev pub EndAt : ℕ → ℕ → List ℕ → Type 0
EndAt len from [] = from ≡ len
EndAt len from (end ∷ ends) = (from ≤ end) × (end ≤ len) × EndAt len end ends

-- The rows.
abbrev pub rows_of : PackedRows → List (List ℕ)
rows_of r = cut r.words.items 0 r.ends.items

abbrev pub AreRows : PackedRows → Type 0
AreRows r = EndAt (length r.words.items) 0 r.ends.items

-- The states that were met, each by its row, in the order of their meeting.
abbrev pub states_of : States → List (List ℕ)
states_of s = rows_of s.rows

abbrev pub words_eq : List ℕ → List ℕ → Bool
words_eq = pointwise nat_eq

-- Whether this row stands there.
abbrev pub is_row : Option (List ℕ) → List ℕ → Bool
is_row None row = false
is_row (Some there) row = words_eq there row

-- The rows with this one, which comes last where it wasn't there.
abbrev pub with_row : List (List ℕ) → List ℕ → List (List ℕ)
with_row = insert_key words_eq

-- A digest and one word more, and the digest of a row.
abbrev pub fold_high : ℕ → ℕ
fold_high spread = bit_xor spread (spread / 2 ^ 29)

abbrev pub mix : ℕ → ℕ → ℕ
mix digest word = fold_high ((bit_xor digest word * 0x9E37_79B9_7F4A_7C15) % 2 ^ 64)

abbrev pub row_digest : List ℕ → ℕ
row_digest row = fold mix (length row) row

-- The n-th number behind a digest.
unfoldable pub number_after : ℕ → ℕ → ℕ
number_after digest zero = digest
number_after digest (suc n) = (number_after digest n + 1) % 2 ^ 64

-- A state has this number.
abbrev pub IsTaken : List ℕ → ℕ → Type 0
IsTaken numbers n = (place : ℕ) × (slice_get numbers place ≡ Some n)

-- The number of a state is that of its row's digest, or one behind it, and all numbers from the digest on up to its own
-- are taken.
pub record HasNumber (numbers : List ℕ) (place : ℕ) (row : List ℕ) : Type 0 where
  pub steps : ℕ
  pub own : slice_get numbers place ≡ Some (number_after (row_digest row) steps)
  pub taken : (n : ℕ) → n < steps → IsTaken numbers (number_after (row_digest row) n)

-- So it is of each state, each of which is there once.
pub record AreStates (s : States) : Type 0 where
  pub rows : AreRows s.rows
  pub count : length s.digests.keys ≡ length (states_of s)
  pub apart : IsDistinct nat_eq s.digests.keys
  pub numbers : (place : ℕ) (row : List ℕ) → slice_get (states_of s) place ≡ Some row → HasNumber s.digests.keys place row
  pub distinct : IsDistinct words_eq (states_of s)

-- Another state than that of this row has this number.
abbrev pub IsOthers : States → List ℕ → ℕ → Type 0
IsOthers s row n =
    (place : ℕ) × (slice_get s.digests.keys place ≡ Some n) × (slice_get (states_of s) place ≡ Some row → ⊥)

-- All numbers from the row's digest on up to this one are others', and it is nobody's.
pub record IsFree (s : States) (row : List ℕ) (number : ℕ) : Type 0 where
  pub steps : ℕ
  pub is : number ≡ number_after (row_digest row) steps
  pub passed : (n : ℕ) → n < steps → IsOthers s row (number_after (row_digest row) n)
  pub free : IsTaken s.digests.keys number → ⊥

-- Where a row was found, or isn't.
abbrev pub IsPlace : States → List ℕ → RowPlace → Type 0
IsPlace s row (Known place) = slice_get (states_of s) place ≡ Some row
IsPlace s row (Free number) = IsFree s row number
