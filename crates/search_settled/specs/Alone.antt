-- Events of which nobody else hears. Types: as in Threads.
use Rattle.std.specs.Prelude.{ℕ, ◌≢◌, ◌<◌}
use Rattle.search_settled.specs.Threads.{ThreadSystem}
use Rattle.search_settled.specs.Flat.{ComesAfter}

-- After such an event of thread n each other thread below a number rests where it did.
abbrev pub IsUnheard : {X T E V A G H M : Type 0} → ThreadSystem X T E V A G H M → M → ℕ → ℕ → Type 0
IsUnheard k made n count = (m : ℕ) → m < count → m ≢ n → (t : _) → ComesAfter k made n t m t
