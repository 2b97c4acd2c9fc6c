-- The last accesses, in lists by words.
use Rattle.std.specs.Prelude.{ℕ, ◌≡◌, ◌<◌, ◌≤◌, ◌+◌, ◌++◌, ◌/◌, ◌%◌, List, [], ◌∷◌, length, map, filter, not}
use Rattle.std.specs.Prelude.{Contains, AllPairs, slice_index_or, slice_set}
use Rattle.std.specs.Global.{Vec}
use Rattle.types.specs.declared.event.Entry.{Entry}
use Rattle.race_history.specs.declared.access.ThreadAccess.{ThreadAccess}
use Rattle.race_history.specs.declared.access.Site.{Site}
use Rattle.race_history.specs.declared.lasts.Last.{Last}
use Rattle.race_history.specs.declared.lasts.Lasts.{Lasts}
use Rattle.race_history.specs.Places.{IsAccess}
use Rattle.race_history.specs.Tests.{is_same}

-- An access touches a byte, and all that it touches lie in one aligned 8-byte word.
pub record IsInWord (a : ThreadAccess) : Type 0 where
  pub some : 1 ≤ a.width
  pub one_word : a.addr % 8 + a.width ≤ 8

-- The lists.
abbrev pub table : Lasts → List (List Last)
table lasts = map (λ (v : Vec Last). v.items) lasts.lists.items

-- The list of a byte's word, of whatever location.
abbrev pub list_for : List (List Last) → ℕ → List Last
list_for lists addr = slice_index_or lists (addr / 8 % length lists) []

-- The list with one more behind it, and without one of the same access.
abbrev pub with_last : Last → List Last → List Last
with_last last list = filter (λ (x : Last). not (is_same x.access last.access)) list ++ last ∷ []

-- The list of its word has one more, and the others are as they were.
abbrev pub kept : List (List Last) → Last → List (List Last)
kept lists last =
    slice_set lists (last.access.addr / 8 % length lists) (with_last last (list_for lists last.access.addr))

-- One after the other, of accesses at one place.
abbrev pub keeping : ℕ → List (List Last) → ThreadAccess → List (List Last)
keeping place lists a = kept lists (record { place = place; access = a })

-- Their accesses aren't the same.
abbrev pub AreOther : Last → Last → Type 0
AreOther x y = x.access ≡ y.access → ⊥

-- Of each access that was made the list of its word has the last place, and has the access once.
pub record AreLastsOf (IsMade : ℕ → ThreadAccess → Type 0) (lists : List (List Last)) : Type 0 where
  pub some : 0 < length lists
  pub once : (k : ℕ) → AllPairs AreOther (slice_index_or lists k [])
  pub made : (k : ℕ) (x : Last) → Contains (slice_index_or lists k []) x → IsMade x.place x.access
  pub all : (place : ℕ) (a : ThreadAccess) → IsMade place a
      → (x : Last) × (Contains (list_for lists a.addr) x × (x.access ≡ a) × (place ≤ x.place))

-- Made by an entry before a place.
abbrev pub IsMadeBefore : List Entry → List Site → ℕ → ℕ → ℕ → ThreadAccess → Type 0
IsMadeBefore log sites opening end place a = (place < end) × IsAccess log sites opening place a

abbrev pub AreLasts : List Entry → List Site → ℕ → ℕ → List (List Last) → Type 0
AreLasts log sites opening end lists = AreLastsOf (IsMadeBefore log sites opening end) lists
