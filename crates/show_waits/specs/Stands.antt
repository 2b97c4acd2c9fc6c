-- At which bytes a thread stands: those of the last of its entries that touches any, beside the memory that is left out.
use Rattle.std.specs.Prelude.{ℕ, ◌≡◌, ◌≢◌, ◌==◌, ◌&&◌, ◌<◌, ◌≤◌, Bool, List, Option, Some, drop, filter, length}
use Rattle.std.specs.List.{slice_get}
use Rattle.std.specs.Option.{is_some}
use Rattle.types.specs.declared.event.Entry.{Entry}
use Rattle.selection.specs.declared.choice.NumberSpan.{NumberSpan}
use Rattle.selection.specs.declared.spans.Spans.{Spans}
use Rattle.show_waits.specs.declared.stands.Stand.{Stand}
use Rattle.show_waits.specs.Beside.{touched_beside}

-- An entry of the thread that touches bytes, or waits or wakes at an address, and none that is left out.
abbrev pub is_touch : Option Spans → ℕ → Entry → Bool
is_touch out n e = (e.thread == n) && is_some (touched_beside out e.event)

-- The entry of this place is one, at these addresses.
pub record TouchesAt (n : ℕ) (log : List Entry) (out : Option Spans) (k : ℕ) (addrs : NumberSpan) : Type 0 where
  pub entry : Entry
  pub at : slice_get log k ≡ Some entry
  pub own : entry.thread ≡ n
  pub touches : touched_beside out entry.event ≡ Some addrs

-- Behind the place `last` there is none of the thread; from the place `since` on there are so many, and all are at these
-- addresses.
pub record Stands (n : ℕ) (log : List Entry) (out : Option Spans) (s : Stand) : Type 0 where
  pub last : TouchesAt n log out s.last s.addrs
  pub none : (k : ℕ) (addrs : NumberSpan) → s.last < k → TouchesAt n log out k addrs → ⊥
  pub since : TouchesAt n log out s.since s.addrs
  pub same : (k : ℕ) (addrs : NumberSpan) → s.since ≤ k → TouchesAt n log out k addrs → addrs ≡ s.addrs
  pub times : s.times ≡ length (filter (is_touch out n) (drop s.since log))

-- The one before these, if there is one, is at others.
pub record BeginsAt (n : ℕ) (log : List Entry) (out : Option Spans) (s : Stand) (k : ℕ) (addrs : NumberSpan) : Type 0 where
  pub place : ℕ
  pub from : k ≤ place
  pub to : place < s.since
  pub others : NumberSpan
  pub at : TouchesAt n log out place others
  pub differ : others ≢ s.addrs

pub record IsStand (n : ℕ) (log : List Entry) (out : Option Spans) (s : Stand) : Type 0 where
  pub stands : Stands n log out s
  pub begins : (k : ℕ) (addrs : NumberSpan) → k < s.since → TouchesAt n log out k addrs → BeginsAt n log out s k addrs

-- The thread touches nothing, beside what is left out.
abbrev pub TouchesNothing : ℕ → List Entry → Option Spans → Type 0
TouchesNothing n log out = (k : ℕ) (addrs : NumberSpan) → TouchesAt n log out k addrs → ⊥
