-- The part of a memory's rule that speaks of the seats: who has seen what of the one history, and who is who.
use Rattle.std.specs.Prelude.{ℕ, ◌≤◌, ◌≡◌, true, List}
use mathlib.Core.Option.{some}
use lib.ListN.{get_elem?}
use Rattle.types.specs.declared.event.Entry.{Entry}
use Rattle.shared_memory_on_table.specs.declared.view.View.{View}
use Rattle.shared_memory_on_table.specs.Callers.{AllGoOn, total, named, rights, keepers}

-- A keeper knows the history, and each caller has seen a beginning of it.
pub record Fits (history : List Entry) (v : View) : Type 0 where
  pub knows : v.keeps ≡ true → v.log ≡ history
  pub begins : AllGoOn v.callers history

-- Each view fits the history; there are so many keepers at most, each name is there once at most, and the queue right
-- exactly once.
pub record AreSeated (most : ℕ) (history : List Entry) (views : List View) : Type 0 where
  pub few_keepers : total keepers views ≤ most
  pub one_name : (n : ℕ) → total (named n) views ≤ 1
  pub one_right : total rights views ≡ 1
  pub each : (id : ℕ) (v : View) → get_elem? views id ≡ some v → Fits history v
