-- The numbers that a run draws.
use Rattle.std.specs.Prelude.{ℕ, ◌*◌, ◌/◌, ◌^◌, List, Option, Some, length}
use Rattle.rand_pcg.specs.Lcg.{Lcg, started, increment_of}
use Rattle.rand_pcg.specs.Pcg.{multiplier_64, pcg32}

-- The generator of the run of this number, of a seed: the seed is the state from which it starts, and the number its
-- stream.
abbrev pub draws_of : ℕ → ℕ → Lcg
draws_of seed run = started 64 multiplier_64 seed (increment_of 64 run)

-- Of its next word a number below this one, and the generator behind it.
abbrev pub number_below : ℕ → Lcg → ℕ
number_below count g = (pcg32 g).0 * count / 2 ^ 32

abbrev pub behind : Lcg → Lcg
behind g = (pcg32 g).1

-- Each of the threads that can go on alike.
abbrev pub at_random : Lcg → List ℕ → Option ℕ × Lcg
at_random g ready = (Some (number_below (length ready) g), behind g)
