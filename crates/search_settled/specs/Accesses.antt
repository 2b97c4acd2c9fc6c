-- What an event does with the memory, and when two of them race.
use Rattle.std.specs.Prelude.{ℕ, ◌≡◌, ◌+◌, ◌<◌, ◌≤◌, ◌⊎◌, true, false}
use Rattle.search_settled.specs.declared.access.NextAccess.{NextAccess}

-- It is a turn of a thread's own, or a plain access within bounds.
abbrev pub IsPlain : NextAccess → Type 0
IsPlain a = a.plain ≡ true

abbrev pub HasByte : NextAccess → ℕ → Type 0
HasByte a byte = (a.addr ≤ byte) × (byte < a.addr + a.width)

-- Two accesses touch a byte in common.
abbrev pub Meet : NextAccess → NextAccess → Type 0
Meet a b = (byte : ℕ) × (HasByte a byte × HasByte b byte)

-- They do, and one of them writes.
pub record Conflict (a b : NextAccess) : Type 0 where
  pub meet : Meet a b
  pub write : (a.writes ≡ true) ⊎ (b.writes ≡ true)

-- They are of exactly the same bytes.
abbrev pub HaveSameBytes : NextAccess → NextAccess → Type 0
HaveSameBytes a b = (a.addr ≡ b.addr) × (a.width ≡ b.width)

-- Neither is plain, and both are allowed, or neither is and they are of exactly the same bytes.
pub record AreMatched (a b : NextAccess) : Type 0 where
  pub first : a.plain ≡ false
  pub second : b.plain ≡ false
  pub alike : a.is_allowed ≡ b.is_allowed
  pub bytes : (a.is_allowed ≡ true) ⊎ HaveSameBytes a b

-- It isn't plain, and is a wait with a timeout.
pub record IsTimed (a : NextAccess) : Type 0 where
  pub atomic : a.plain ≡ false
  pub timed : a.is_timed ≡ true

-- They conflict, and aren't matched.
pub record Race (a b : NextAccess) : Type 0 where
  pub conflict : Conflict a b
  pub unmatched : AreMatched a b → ⊥

-- Each byte of the one is one of the other.
abbrev pub Covers : NextAccess → NextAccess → Type 0
Covers a b = (a.addr ≤ b.addr) × (b.addr + b.width ≤ a.addr + a.width)

-- They are matched. The one writes all bytes of the other and reads nothing; the other one would write, and may not where
-- it finds something else. (One that writes whatever it finds still does, when it comes later.)
pub record WritesOver (over access : NextAccess) : Type 0 where
  pub matched : AreMatched access over
  pub covers : Covers over access
  pub writes : access.writes ≡ true
  pub conditional : access.is_conditional ≡ true
  pub over_writes : over.writes ≡ true
  pub blind : over.reads ≡ false
