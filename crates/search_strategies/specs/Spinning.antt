-- One thread, until it reads a word again.
use Rattle.std.specs.Prelude.{ℕ, ◌==◌, ◌||◌, ◌++◌, Bool, true, false, not, List, [], ◌∷◌, Option, Some, None, length}
use Rattle.std.specs.Prelude.{if◌then◌else◌, slice_index}
use Rattle.std.specs.List.{list_any}
use Rattle.types.specs.declared.event.Event.{Event}
use Rattle.types.specs.declared.event.Event.TheVariants as events
use Rattle.rand_pcg.specs.Lcg.{Lcg}
use Rattle.search_strategies.specs.Draws.{draws_of, number_below, behind}
use Rattle.search_strategies.specs.Places.{place_of}

-- The generator; who made the last event; the addresses that it read since it was drawn; and whether it goes on, if it
-- can.
pub record Spinning : Type 0 where
  pub draws : Lcg
  pub last : ℕ
  pub read : List ℕ
  pub stays : Bool

-- Of the run of this number, of a seed.
abbrev pub spinning_of : ℕ → ℕ → Spinning
spinning_of seed run = record { draws = draws_of seed run; last = 0; read = []; stays = false }

-- The thread at a place goes on; without one another is drawn, each that can alike.
abbrev pub spin_at : Spinning → List ℕ → Option ℕ → Option ℕ × Spinning
spin_at s ready (Some place) = (Some place, s)
spin_at s ready None =
    let place = number_below (length ready) s.draws in
    (Some place, record { draws = behind s.draws; last = slice_index ready place; read = []; stays = true })

-- The last one goes on that stays, unless of the next 16 numbers 0 is drawn.
abbrev pub spin : Spinning → List ℕ → Option ℕ × Spinning
spin s ready =
    let is_drawn = number_below 16 s.draws == 0 in
    spin_at (record s { draws = behind s.draws }) ready (if is_drawn || not s.stays then None else place_of s.last ready)

-- The address that an event reads.
abbrev pub read_at : Event → Option ℕ
read_at (events.Load addr width reach) = Some addr
read_at (events.Rmw op addr width value) = Some addr
read_at (events.Cmpxchg addr width expected replacement) = Some addr
read_at _ = None

-- A word that is read again, or behind 32 others, ends the stay.
abbrev pub spin_heard : Spinning → Option ℕ → Spinning
spin_heard s None = s
spin_heard s (Some addr) =
    if list_any (λ x. x == addr) s.read || (length s.read == 32)
    then record s { stays = false }
    else record s { read = s.read ++ addr ∷ [] }
