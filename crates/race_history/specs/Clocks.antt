-- Vector clocks.
use Rattle.std.specs.Prelude.{ℕ, ◌≡◌, ◌⊎◌, ◌<◌, ◌↔◌, List, [], length, max, slice_index, slice_index_or}
use Rattle.std.specs.List.{fold}
use Rattle.types.specs.declared.event.Entry.{Entry}
use Rattle.race_history.specs.declared.access.Site.{Site}
use Rattle.race_history.specs.Places.{thread_at}
use Rattle.race_history.specs.Order.{IsBefore}

-- The greatest number that these rows have for thread n.
abbrev pub greatest : List (List ℕ) → ℕ → List ℕ → ℕ
greatest rows n sources = fold (λ most s. max most (slice_index (slice_index_or rows s []) n)) 0 sources

abbrev pub IsJoined : List (List ℕ) → List ℕ → List ℕ → Type 0
IsJoined rows sources row = (n : ℕ) → slice_index row n ≡ greatest rows n sources

-- One is the other, or happens before it.
abbrev pub IsUpTo : List Entry → List Site → ℕ → ℕ → ℕ → Type 0
IsUpTo log sites opening first second = (first ≡ second) ⊎ IsBefore log sites opening first second

-- The entries of a thread that are before its number are this one, or happen before it.
pub record IsClock (log : List Entry) (sites : List Site) (opening threads place : ℕ) (clock : List ℕ) : Type 0 where
  pub wide : length clock ≡ threads
  pub counts : (first : ℕ) → first < length log
      → (first < slice_index clock (thread_at log first)) ↔ IsUpTo log sites opening first place

pub record AreClocks (log : List Entry) (sites : List Site) (opening threads end : ℕ)
    (clocks : List (List ℕ)) : Type 0 where
  pub count : length clocks ≡ end
  pub each : (place : ℕ) → place < end → IsClock log sites opening threads place (slice_index_or clocks place [])
