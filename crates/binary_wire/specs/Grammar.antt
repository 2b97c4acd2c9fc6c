-- The grammar: what stands at the front of bytes, and the bytes behind it (Core specification 1.0, sections 5.1, 5.2).
use Rattle.std.specs.Prelude.{◌≡◌, ℕ, ◌+◌, ◌-◌, ◌*◌, ◌/◌, ◌^◌, ◌<◌, ◌≤◌, ◌⊎◌, List, [], ◌∷◌, ◌++◌, length, true}
use Rattle.std.specs.Str.{is_utf8}

-- Which bytes spell a value, and which bytes are left behind it.
abbrev pub Spelling : Type 0 → Type 1
Spelling A = List ℕ → A → List ℕ → Type 0

-- The greatest number of some bits.
abbrev pub IsTop : ℕ → Type 0
IsTop top = (bits : ℕ) × (top + 1 ≡ 2 ^ bits)

-- A number up to top, its low seven bits first. Every byte but the last has its highest bit set.
abbrev pub IsUnsigned : ℕ → Spelling ℕ
IsUnsigned top [] n rest = ⊥
IsUnsigned top (b ∷ bytes) n rest =
    ((b < 128) × (b ≤ top) × (n ≡ b) × (rest ≡ bytes))
    ⊎ ((128 ≤ b) × (127 < top) × ((high : ℕ) × IsUnsigned (top / 128) bytes high rest × (n ≡ b - 128 + 128 * high)))

-- At most 5 bytes, whose unused bits are zero.
abbrev pub IsU32 : Spelling ℕ
IsU32 bytes n rest = IsUnsigned 0xffff_ffff bytes n rest

-- A count, a size or another number that has a limit.
abbrev pub IsU32Within : ℕ → Spelling ℕ
IsU32Within limit bytes n rest = IsU32 bytes n rest × (n ≤ limit)

abbrev pub IsPower : ℕ → Type 0
IsPower half = (bits : ℕ) × (half ≡ 2 ^ bits)

-- A signed number of one bit more than half has, in two's complement. The unused bits of its last byte are copies of
-- the sign.
abbrev pub IsSigned : ℕ → Spelling ℕ
IsSigned half [] n rest = ⊥
IsSigned half (b ∷ bytes) n rest =
    ((b < 64) × (b < half) × (n ≡ b) × (rest ≡ bytes))
    ⊎ (((64 ≤ b) × (b < 128) × (128 ≤ b + half) × (n ≡ half - (128 - b) + half) × (rest ≡ bytes))
    ⊎ ((128 ≤ b) × (64 < half) × ((high : ℕ) × IsSigned (half / 128) bytes high rest × (n ≡ b - 128 + 128 * high))))

abbrev pub IsS32 : Spelling ℕ
IsS32 bytes n rest = IsSigned 0x8000_0000 bytes n rest

abbrev pub IsS64 : Spelling ℕ
IsS64 bytes n rest = IsSigned 0x8000_0000_0000_0000 bytes n rest

-- A size, and so many bytes.
abbrev pub IsBlock : Spelling (List ℕ)
IsBlock bytes block rest = (mid : List ℕ) × IsU32 bytes (length block) mid × (mid ≡ block ++ rest)

-- A name is a block that is UTF-8.
abbrev pub IsName : Spelling (List ℕ)
IsName bytes text rest = IsBlock bytes text rest × (is_utf8 text ≡ true)

-- A size, and contents of exactly that size.
abbrev pub IsSized : {A : Type 0} → Spelling A → Spelling A
IsSized P bytes x rest = (block : List ℕ) × IsBlock bytes block rest × P block x []

-- One item after the other.
abbrev pub IsItems : {A : Type 0} → Spelling A → Spelling (List A)
IsItems P bytes [] rest = rest ≡ bytes
IsItems P bytes (x ∷ xs) rest = (mid : List ℕ) × P bytes x mid × IsItems P mid xs rest

-- A count within a limit, and so many items.
abbrev pub IsVector : {A : Type 0} → ℕ → Spelling A → Spelling (List A)
IsVector limit P bytes xs rest = (mid : List ℕ) × IsU32Within limit bytes (length xs) mid × IsItems P mid xs rest
