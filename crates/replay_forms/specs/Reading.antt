-- Reading from left to right: the value at the front and the bytes behind it, or nothing.
use Rattle.std.specs.Prelude.{◌≡◌, ℕ, zero, suc, ◌+◌, ◌-◌, ◌*◌, ◌^◌, ◌==◌, ◌≤◌, ◌&&◌, Bool, cond, nat_lt, nat_le}
use Rattle.std.specs.Prelude.{List, [], ◌∷◌, length, Option, Some, None, option_and_then, pos, negsuc, ℤ}
use Rattle.std.specs.Borrow.{Bor}

infixl 10 ◌>>=◌
abbrev pub ◌>>=◌ : {A B : Type 0} → Option A → (A → Option B) → Option B
o >>= f = option_and_then f o

abbrev pub Reader : Type 0 → Type 0
Reader A = List ℕ → Option (A × List ℕ)

-- What a reader in code answers, seen by view, is what reading gives.
abbrev pub Reads : {X Y : Type 0} → (X → Y) → Option X → Option Y → Type 0
Reads view None read = read ≡ None
Reads view (Some x) read = read ≡ Some (view x)

-- What a reader in code answers that reads the value at the front of bytes, seen by view, and the bytes behind it.
abbrev pub ReadsNextAs : {X A : Type 0} → (X → A) → Reader A → List ℕ → Option (X × Bor (List ℕ)) → Type 0
ReadsNextAs view at bytes result = Reads (λ r. (view r.0, r.1.now)) result (at bytes)

abbrev pub ReadsNext : {A : Type 0} → Reader A → List ℕ → Option (A × Bor (List ℕ)) → Type 0
ReadsNext at bytes result = ReadsNextAs (λ x. x) at bytes result

-- The bytes behind a word that has to stand there.
unfoldable pub after : List ℕ → List ℕ → Option (List ℕ)
after [] bytes = Some bytes
after (w ∷ ws) [] = None
after (w ∷ ws) (b ∷ bytes) = cond (w == b) (after ws bytes) None

abbrev pub is_digit : ℕ → Bool
is_digit c = nat_le 48 c && nat_le c 57

-- The digits behind those that make n.
unfoldable pub digits_after : ℕ → Reader ℕ
digits_after n [] = Some (n, [])
digits_after n (c ∷ cs) = cond (is_digit c)
    (cond (nat_lt (10 * n + (c - 48)) (2 ^ 64)) (digits_after (10 * n + (c - 48)) cs) None) (Some (n, c ∷ cs))

-- All digits that stand there, without leading zeros.
unfoldable pub number_at : Reader ℕ
number_at [] = None
number_at (c ∷ cs) = cond (c == 48) (Some (0, cs)) (cond (is_digit c) (digits_after (c - 48) cs) None)

abbrev pub number_within : ℕ → Reader ℕ
number_within max bytes = number_at bytes >>= λ n. cond (nat_le n.0 max) (Some n) None

-- A number, and the word behind it.
abbrev pub number_then : ℕ → List ℕ → Reader ℕ
number_then max word bytes = number_within max bytes >>= λ n. after word n.1 >>= λ rest. Some (n.0, rest)

abbrev pub behind : {A : Type 0} → List ℕ → Reader A → Reader A
behind word at bytes = after word bytes >>= λ rest. at rest

abbrev pub both : {A B : Type 0} → Reader A → Reader B → Reader (A × B)
both at bt bytes = at bytes >>= λ x. bt x.1 >>= λ y. Some ((x.0, y.0), y.1)

-- What a function makes of the value, where it makes something.
abbrev pub made : {A B : Type 0} → (A → Option B) → Reader A → Reader B
made to at bytes = at bytes >>= λ x. to x.0 >>= λ y. Some (y, x.1)

abbrev pub word_for : {A : Type 0} → A → List ℕ → Reader A
word_for x word bytes = after word bytes >>= λ rest. Some (x, rest)

abbrev pub or_else : {A : Type 0} → Option A → Option A → Option A
or_else (Some x) o = Some x
or_else None o = o

-- The first that gives something.
abbrev pub first : {A : Type 0} → Reader A → Reader A → Reader A
first at bt bytes = or_else (at bytes) (bt bytes)

abbrev pub positive : ℕ → Option ℤ
positive n = Some (pos n)

abbrev pub negative : ℕ → Option ℤ
negative zero = None
negative (suc n) = Some (negsuc n)

-- The signed numbers of 64 bits.
abbrev pub FitsSigned64 : ℤ → Type 0
FitsSigned64 (pos n) = n ≤ 2 ^ 63 - 1
FitsSigned64 (negsuc n) = suc n ≤ 2 ^ 63

-- A negative number of 64 bits, and the word behind it.
abbrev pub negative_then : List ℕ → Reader ℤ
negative_then word = made negative (behind (45 ∷ []) (number_then (2 ^ 63) word))

-- A signed number of 64 bits, and the word behind it.
abbrev pub signed_then : List ℕ → Reader ℤ
signed_then word = first (made positive (number_then (2 ^ 63 - 1) word)) (negative_then word)

abbrev pub more_of : {A : Type 0} → Option (A × List ℕ) → List ℕ → (List ℕ → List A × List ℕ) → List A × List ℕ
more_of None bytes others = ([], bytes)
more_of (Some x) bytes others = (x.0 ∷ (others x.1).0, (others x.1).1)

-- As many items as are there from place i on, and at most n.
unfoldable pub several : {A : Type 0} → (ℕ → Reader A) → ℕ → ℕ → List ℕ → List A × List ℕ
several at i zero bytes = ([], bytes)
several at i (suc n) bytes = more_of (at i bytes) bytes (λ rest. several at (i + 1) n rest)

abbrev pub hex_value : ℕ → Option ℕ
hex_value c = cond (is_digit c) (Some (c - 48)) (cond (nat_le 97 c && nat_le c 102) (Some (c - 87)) None)

-- A byte by two digits of base 16.
abbrev pub hex_byte_at : Reader ℕ
hex_byte_at [] = None
hex_byte_at (c ∷ []) = None
hex_byte_at (c ∷ d ∷ rest) = hex_value c >>= λ high. hex_value d >>= λ low. Some (16 * high + low, rest)

-- As many items as are there, and the word behind the last.
abbrev pub listed : {A : Type 0} → (ℕ → Reader A) → List ℕ → Reader (List A)
listed at word bytes = after word (several at 0 (length bytes) bytes).1 >>= λ rest. Some
    ((several at 0 (length bytes) bytes).0, rest)
