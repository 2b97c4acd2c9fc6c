-- Priorities that change at few points.
use Rattle.std.specs.Prelude.{ℕ, zero, suc, ◌+◌, ◌-◌, ◌^◌, ◌==◌, ◌||◌, Bool, List, [], ◌∷◌, Option, Some, None, length, fold, min, max, swap}
use Rattle.std.specs.Prelude.{position, unwrap_or, nat_le, if◌then◌else◌, slice_index, slice_set}
use Rattle.std.specs.List.{range_with_len}
use Rattle.types.specs.declared.limits.TheConstants.{MOST_THREADS}
use Rattle.rand_pcg.specs.Lcg.{Lcg}
use Rattle.search_strategies.specs.Draws.{draws_of, number_below, behind}

-- The ranks of the threads, in order of their numbers; the points of change, each so many events on; how many events
-- were made; the lowest rank that was given for long turns; who made the last event, and how many in a row.
pub record Priorities : Type 0 where
  pub ranks : List ℕ
  pub changes : List ℕ
  pub made : ℕ
  pub lowest : ℕ
  pub last : ℕ
  pub in_a_row : ℕ

-- The rank below all that are drawn and all of points of change.
abbrev pub base_rank : ℕ
base_rank = 2 ^ 31

-- The highest rank of threads that can go on, and the first place where it is.
abbrev pub highest_rank : List ℕ → List ℕ → ℕ
highest_rank ranks ready = fold (λ top n. max top (slice_index ranks n)) 0 ready

abbrev pub place_with : List ℕ → List ℕ → ℕ → Option ℕ
place_with ranks ready rank = position (λ n. slice_index ranks n == rank) ready

abbrev pub highest : List ℕ → List ℕ → ℕ
highest ranks ready = unwrap_or (place_with ranks ready (highest_rank ranks ready)) 0

-- A thread that would make the next event, and others could: behind 200 in a row it falls below all.
abbrev pub tired : Priorities → Bool → Option ℕ × Priorities
tired s alone =
    if nat_le s.in_a_row 200 || alone
    then (None, s)
    else (Some (s.lowest - 1), record s { lowest = s.lowest - 1; in_a_row = 0 })

-- The first of the points of change that lies behind so many events.
abbrev pub point_at : List ℕ → ℕ → Option ℕ
point_at changes made = position (λ change. change == made) changes

-- How many events in a row a thread will have made with the next one.
abbrev pub turns : ℕ → ℕ → ℕ → ℕ
turns thread last in_a_row = min ((if thread == last then in_a_row else 0) + 1) (2 ^ 32 - 1)

-- At a point of change it falls below all at which no change was before, the lower the earlier the point was drawn.
abbrev pub fall_at : Priorities → ℕ → Bool → Option ℕ → Option ℕ × Priorities
fall_at s thread alone (Some point) = (Some (base_rank + 1 + point), s)
fall_at s thread alone None =
    tired (record s { last = thread; in_a_row = turns thread s.last s.in_a_row }) alone

abbrev pub fall : Priorities → ℕ → Bool → Option ℕ × Priorities
fall s thread alone = fall_at s thread alone (point_at s.changes s.made)

-- One more event, which the thread at a place makes; or it falls, and whoever has the highest rank then makes it.
abbrev pub fallen : ℕ → List ℕ → Option ℕ × Priorities → Option ℕ × Priorities
fallen place ready (None, s) = (Some place, record s { made = min (s.made + 1) (2 ^ 32 - 1) })
fallen place ready (Some rank, s) =
    let ranks = slice_set s.ranks (slice_index ready place) rank in
    (Some (highest ranks ready), record s { ranks = ranks; made = min (s.made + 1) (2 ^ 32 - 1) })

-- Whoever has the highest rank, unless it falls.
abbrev pub by_priority : Priorities → List ℕ → Option ℕ × Priorities
by_priority s ready =
    let place = highest s.ranks ready in
    fallen place ready (fall s (slice_index ready place) (length ready == 1))

-- Numbers below one, so many, drawn one after another.
abbrev pub drawn_numbers : ℕ → ℕ → Lcg → List ℕ
drawn_numbers zero count g = []
drawn_numbers (suc n) count g = number_below count g ∷ drawn_numbers n count (behind g)

-- Each of so many places, from one on, changes places with one that is drawn among those up to it.
unfoldable pub shuffled : ℕ → ℕ → List ℕ × Lcg → List ℕ × Lcg
shuffled zero place x = x
shuffled (suc n) place (xs, g) = shuffled n (place + 1) (swap xs place (number_below (place + 1) g), behind g)

-- The ranks that a run draws first, above all of points of change, and the generator behind them.
unfoldable pub drawn_ranks : Lcg → List ℕ × Lcg
drawn_ranks g = shuffled (MOST_THREADS - 1) 1 (range_with_len (base_rank + 33) MOST_THREADS, g)

-- The priorities of the run of this number, of a seed.
abbrev pub priorities_of : ℕ → ℕ → ℕ → ℕ → Priorities
priorities_of seed run depth count =
    let drawn = drawn_ranks (draws_of seed run) in record {
      ranks = drawn.0;
      changes = drawn_numbers (depth - 1) count drawn.1;
      made = 0;
      lowest = base_rank;
      last = 0;
      in_a_row = 0;
    }
