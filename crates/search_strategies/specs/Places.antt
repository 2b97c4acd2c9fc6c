-- Places among the threads that can go on, whose numbers stand in order.
use Rattle.std.specs.Prelude.{ℕ, ◌≡◌, ◌==◌, List, Option, nat_lt, position, unwrap_or, if◌then◌else◌}

-- The place of a thread, where it can go on.
abbrev pub place_of : ℕ → List ℕ → Option ℕ
place_of thread ready = position (λ n. n == thread) ready

-- The place of the next thread by its number: the first with a higher one, or the first of all.
abbrev pub next_place : ℕ → List ℕ → ℕ
next_place thread ready = unwrap_or (position (λ n. nat_lt thread n) ready) 0

-- What is chosen among so many, where there is such a place, and else the first.
abbrev pub place_within : ℕ → ℕ → ℕ
place_within choice count = if nat_lt choice count then choice else 0

-- Asked of these threads a strategy answers by a function of what it is, which says what it is then, too.
abbrev pub ChoosesBy : {S : Type 0} → (S → List ℕ → Option ℕ × S) → S → List ℕ → Option ℕ → S → Type 0
ChoosesBy choice before ready answer after = (answer ≡ (choice before ready).0) × (after ≡ (choice before ready).1)
