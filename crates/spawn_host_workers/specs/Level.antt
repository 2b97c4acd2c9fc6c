-- What rounds of meetings with one seat, the hub, give.
use Rattle.std.specs.Prelude.{ℕ, ◌≡◌, ◌<◌, ◌≤◌, Bool, true, List, length, slice_index_or}
use mathlib.Core.List.{IsPrefix}
use Rattle.types.specs.declared.event.Entry.{Entry}
use Rattle.shared_memory.specs.Memory.{Memory}
use Rattle.shared_memory.specs.History.{entries_of, of_queue}
use Rattle.shared_memory.specs.Access.{IsSeen}

-- The hub keeps its name and its right, and its list goes on, by nothing of its own and nothing of the queue.
pub record HubGoes {S : Type 0} (name : S → ℕ) (right : S → Bool) (seen : S → List Entry) (hub hub' : S) : Type 0 where
  pub name_is : name hub' ≡ name hub
  pub right_is : right hub' ≡ true
  pub grows : IsPrefix (seen hub) (seen hub')
  pub owned : entries_of (name hub) (seen hub') ≡ entries_of (name hub) (seen hub)
  pub queue : of_queue (seen hub') ≡ of_queue (seen hub)

-- A seat keeps its name and what it had entered.
pub record SeatGoes {S : Type 0} (name : S → ℕ) (seen : S → List Entry) (seat seat' : S) : Type 0 where
  pub name_is : name seat' ≡ name seat
  pub owned : entries_of (name seat) (seen seat') ≡ entries_of (name seat) (seen seat)

-- After i seats have met the hub.
pub record Round {S : Type 0} (opening : Memory) (name : S → ℕ) (right : S → Bool) (seen : S
    → List Entry) (hub hub' : S)
    (seats seats' : List S) (i : ℕ) : Type 0 where
  pub hub_goes : HubGoes name right seen hub hub'
  pub len : length seats' ≡ length seats
  pub goes : (k : ℕ) (d : S) → k < i → SeatGoes name seen (slice_index_or seats k d) (slice_index_or seats' k d)
  pub holds : (k : ℕ) (d : S) → k < i → IsPrefix (seen (slice_index_or seats k d)) (seen hub')
  pub begins : (k : ℕ) (d : S) → k < i → IsPrefix (seen (slice_index_or seats' k d)) (seen hub')
  pub rest : (k : ℕ) (d : S) → i ≤ k → slice_index_or seats' k d ≡ slice_index_or seats k d
  pub still : ((k : ℕ) (d : S) → k < length seats → IsPrefix (seen (slice_index_or seats k d)) (seen hub))
      → (seen hub' ≡ seen hub) × ((k : ℕ) (d : S) → k < i → seen (slice_index_or seats' k d) ≡ seen hub)
  pub legal : 0 < i → IsSeen opening (seen hub')

-- All have seen one list, which goes on from each one's.
pub record Level {S : Type 0} (opening : Memory) (name : S → ℕ) (right : S → Bool) (seen : S
    → List Entry) (hub hub' : S)
    (seats seats' : List S) : Type 0 where
  pub hub_goes : HubGoes name right seen hub hub'
  pub len : length seats' ≡ length seats
  pub goes : (k : ℕ) (d : S) → k < length seats
      → SeatGoes name seen (slice_index_or seats k d) (slice_index_or seats' k d)
  pub holds : (k : ℕ) (d : S) → k < length seats → IsPrefix (seen (slice_index_or seats k d)) (seen hub')
  pub one : (k : ℕ) (d : S) → k < length seats → seen (slice_index_or seats' k d) ≡ seen hub'
  pub legal : 0 < length seats → IsSeen opening (seen hub')
