-- The states of a table, each by what is shared with what is owned, and by its threads.
use Rattle.std.specs.Prelude.{ℕ, ◌≡◌, ◌↔◌, ◌&&◌, Bool, true, List, map, Option, Some}
use Rattle.std.specs.List.{slice_get, AllZip}
use Rattle.std.specs.Cmp.Lexicographic.{pointwise}
use Rattle.search_table.specs.declared.parts.StateParts.{StateParts}
use Rattle.search_table.specs.Tables.{AreStates}
use Rattle.search_reach.specs.declared.explores.NextState.{NextState}
use Rattle.search_settled.specs.Threads.{ThreadSystem}
use Rattle.search_settled.specs.declared.flat.RestingState.{RestingState}
use Rattle.search_settled.specs.declared.met.NextRow.{NextRow}
use Rattle.search_settled.specs.Known.{AreOf, IsNextRow, IsRowOfEqual}
use Rattle.search_race_free.specs.contracts.owning.TouchPartialEq.TheImpl as touches
use Rattle.search_race_free.specs.declared.owning.Owning.{Owning}
use Rattle.search_race_free.specs.declared.met.Held.{Held}
use Rattle.search_race_free.specs.declared.met.StateTable.{StateTable}
use Rattle.search_race_free.specs.Same.{owning_eq}

-- What is owned is taken with what is shared, and the other way round.
abbrev pub held : {G H : Type 0} → Owning (RestingState G H) → RestingState (Held G) H
held s = record { shared = record { shared = s.flat.shared; owned = s.owned }; threads = s.flat.threads }

abbrev pub parted : {G H : Type 0} → RestingState (Held G) H → Owning (RestingState G H)
parted c = record { flat = record { shared = c.shared.shared; threads = c.threads }; owned = c.shared.owned }

abbrev pub held_eq : {G : Type 0} → (G → G → Bool) → Held G → Held G → Bool
held_eq eq_shared x y = eq_shared x.shared y.shared && pointwise touches.eq-value.it x.owned.items y.owned.items

-- The table has these states.
pub record HasOwning {G H : Type 0} (t : StateTable G H) (ks : List (Owning (RestingState G H))) : Type 0 where
  pub table : AreStates t.states
  pub are : AreOf t.parts t.states (map held ks)

module _ {G H : Type 0} (eq_shared : G → G → Bool) (eq_thread : H → H → Bool) (t : StateParts (Held G) H) where
  -- The row is of a state that equals this one.
  abbrev pub IsHeldRow : Owning (RestingState G H) → List ℕ → Type 0
  IsHeldRow s r = IsRowOfEqual (held_eq eq_shared) eq_thread t (held s) r

  -- The rows are of states that equal these.
  pub record AreHeldRows (xs : List (NextState (Owning (RestingState G H)))) (rs : List NextRow) : Type 0 where
    pub next : List (NextState (RestingState (Held G) H))
    pub are : AllZip (IsNextRow t) rs next
    pub equal : AllZip (λ x y. (x.thread ≡ y.thread) × (owning_eq eq_shared eq_thread x.state (parted y.state) ≡ true)) xs next

module _ {X T E V A G H M : Type 0} (k : ThreadSystem X T E V A G H M) where
  -- What is shared stands for the same, and the rest is the same.
  pub record IsCopy (s copy : Owning (RestingState G H)) : Type 0 where
    pub shared : (x : X) → k.shares s.flat.shared x ↔ k.shares copy.flat.shared x
    pub threads : copy.flat.threads.items ≡ s.flat.threads.items
    pub owned : copy.owned.items ≡ s.owned.items

  -- It is a copy of the state at this place.
  abbrev pub IsStateAt : StateTable G H → ℕ → Option (Owning (RestingState G H)) → Type 0
  IsStateAt t at o = (ks : List (Owning (RestingState G H))) (s : Owning (RestingState G H))
      → AreOf t.parts t.states (map held ks) → slice_get ks at ≡ Some s
      → (copy : Owning (RestingState G H)) × (o ≡ Some copy) × IsCopy s copy
