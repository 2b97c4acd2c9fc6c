-- What `position` says of where the first is.
use Rattle.std.proofs.Common.{◌≡◌, ℕ, ◌<◌, ◌≤◌, Bool, List, length, Some, None, inl, inr}
use Rattle.std.specs.List.{position, position_or_len}
use Rattle.std.proofs.lemmas.Bool.{cases_lt, lt-ltb, le-ltb}

pub first_at : (p : ℕ → Bool) (xs : List ℕ) (i : ℕ) → position p xs ≡ Some i → (i ≡ position_or_len p xs) × (position_or_len p xs < length xs)
first_at p xs i e =
    elim (cases_lt (position_or_len p xs) (length xs)) [
      | inl lt ↦
          let f = rw (lt-ltb (position_or_len p xs) (length xs) lt) at e in
          let same : i ≡ position_or_len p xs = cc f in
          (same, lt)
      | inr le ↦
          let f = rw (le-ltb (position_or_len p xs) (length xs) le) at e in
          absurd (cc f)
    ]

pub none_first : (p : ℕ → Bool) (xs : List ℕ) → position p xs ≡ None → length xs ≤ position_or_len p xs
none_first p xs e =
    elim (cases_lt (position_or_len p xs) (length xs)) [
      | inl lt ↦
          let f = rw (lt-ltb (position_or_len p xs) (length xs) lt) at e in
          absurd (cc f)
      | inr le ↦ le
    ]
