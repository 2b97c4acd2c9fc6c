-- Which of some runs in a row a job makes.
use Rattle.std.specs.Prelude.{ℕ, ◌+◌, ◌*◌, min}

-- Of so many runs, from this number on, the number of the first behind those of so many jobs, each of which makes as
-- many as another, or fewer.
abbrev pub first_behind : ℕ → ℕ → ℕ → ℕ → ℕ
first_behind from count piece jobs = from + min (jobs * piece) count
