-- Turns that are known: those of which nobody else hears, by the numbers of a table.
use Rattle.std.specs.Prelude.{ℕ, ◌≡◌, ◌≢◌, ◌+◌, Bool, List, map, Option, Some, slice_set}
use Rattle.std.specs.List.{slice_get}
use Rattle.schedule.specs.System.{State}
use Rattle.search_table.specs.declared.parts.StateParts.{StateParts}
use Rattle.search_reach.specs.declared.explores.NextState.{NextState}
use Rattle.search_settled.specs.declared.access.NextAccess.{NextAccess}
use Rattle.search_settled.specs.declared.flat.RestingState.{RestingState}
use Rattle.search_settled.specs.declared.met.Known.{Known}
use Rattle.search_settled.specs.declared.met.NextRow.{NextRow}
use Rattle.search_settled.specs.Accesses.{IsPlain, WritesOver}
use Rattle.search_settled.specs.Threads.{ThreadSystem}
use Rattle.search_settled.specs.Known.{IsOf, AreOf, GoesAlone, AreKnownBy}
use Rattle.search_race_free.specs.declared.owning.Owning.{Owning}
use Rattle.search_race_free.specs.declared.met.Held.{Held}
use Rattle.search_race_free.specs.declared.met.StateTable.{StateTable}
use Rattle.search_race_free.specs.declared.known.LoneThread.{LoneThread}
use Rattle.search_race_free.specs.declared.known.LoneTurn.{LoneTurn}
use Rattle.search_race_free.specs.declared.known.LoneTurn.TheVariants.{Stops, GoesOn, Unknown}
use Rattle.search_race_free.specs.declared.known.TurnOf.{TurnOf}
use Rattle.search_race_free.specs.declared.known.FoundTurn.{FoundTurn}
use Rattle.search_race_free.specs.declared.known.LeadsTo.{LeadsTo}
use Rattle.search_race_free.specs.Touches.{StrikesNobody, ArePlainOf, IsPut, AreClear}
use Rattle.search_race_free.specs.Reduced.{wanted_in, IsResting, RestsSomewhere, HasReduced}
use Rattle.search_race_free.specs.Search.{IsAccessOf, AreWanted, IsOwned, IsKnown, ComesOnward, HasReducedBelow}
use Rattle.search_race_free.specs.Met.{held, AreHeldRows}

-- It is so of each state of a row.
abbrev pub OfHeldRow : {G H : Type 0} → StateParts (Held G) H → List ℕ → (Owning (RestingState G H) → Type 0) → Type 0
OfHeldRow t r so = (s : _) → IsOf t r (held s) → so s

-- The one is the other but for what is held, and for where thread n rests.
pub record IsBut {G H : Type 0} (s x : Owning (RestingState G H)) (n : ℕ) (g : Held G) (h : H) : Type 0 where
  pub held_is : (held x).shared ≡ g
  pub threads : x.flat.threads.items ≡ slice_set s.flat.threads.items n h

-- Of threads that stand still nothing is noted.
abbrev pub Stills : {G H : Type 0} → Held G → H → ℕ → Type 0
Stills g h n = Unit {0}

module _ {X T E V A G H M : Type 0} (k : ThreadSystem X T E V A G H M) where
  -- What thread n does next writes over no other thread's next access.
  abbrev pub WritesOverNone : Owning (RestingState G H) → ℕ → Type 0
  WritesOverNone s n = (z : State X T) → IsResting k s.flat z → (a b : NextAccess) (t : ℕ) → t ≢ n
      → wanted_in k z n ≡ Some a → wanted_in k z t ≡ Some b → WritesOver a b → ⊥

  -- Thread n of this state rests there, where this is held.
  pub record IsTurnFrom (g : Held G) (h : H) (n : ℕ) (s : Owning (RestingState G H)) : Type 0 where
    pub owned : IsOwned k s
    pub held_is : (held s).shared ≡ g
    pub there : slice_get s.flat.threads.items n ≡ Some h
    pub over : WritesOverNone s n

  -- There is such a state.
  abbrev pub AnyTurn : Held G → H → ℕ → Type 0
  AnyTurn g h n = (s : Owning (RestingState G H)) × IsTurnFrom g h n s

  -- Whatever the other threads are, by its turn and plain ones after it that is held, and thread n rests there; all
  -- others rest where they did.
  abbrev pub GoesOnAlone : Held G → H → ℕ → Held G → H → Type 0
  GoesOnAlone g h n after rested = (s x : Owning (RestingState G H)) → IsTurnFrom g h n s → IsBut s x n after rested
      → ComesOnward k n s x

  -- A plain turn of thread n, of which nobody else hears and which strikes nobody.
  pub record IsPlainTurn (from : LoneThread G H) (n : ℕ) (to : LoneThread G H) : Type 0 where
    pub access : NextAccess
    pub wants : IsAccessOf k from.held.shared from.thread n (Some access)
    pub plain : IsPlain access
    pub free : ArePlainOf from.held.owned.items n
    pub nobody : StrikesNobody from.held.owned.items n access
    pub alone : GoesAlone k from.held.shared from.thread n to.held.shared to.thread
    pub put : IsPut from.held.owned.items (record { thread = n; access = access }) to.held.owned.items

  -- What one more turn of thread n comes to: it stays where it is, or makes a plain one, or that can't be told.
  abbrev pub IsLoneTurn : LoneThread G H → ℕ → LoneTurn G H → Type 0
  IsLoneTurn from n (Stops last) = last ≡ from
  IsLoneTurn from n (GoesOn to) = IsPlainTurn from n to
  IsLoneTurn from n Unknown = Unit {0}

  -- What is known is so.
  abbrev pub AreKnownTurns : StateParts (Held G) H → List (Option Known) → Type 0
  AreKnownTurns t known = AreKnownBy Stills GoesOnAlone t known

  module _ (t : StateParts (Held G) H) where
    -- There is a state with such a turn.
    pub record HasTurn (of : TurnOf) : Type 0 where
      pub held_is : Held G
      pub thread_is : H
      pub held_at : slice_get t.shared.keys of.held ≡ Some held_is
      pub thread_at : slice_get t.threads.keys of.thread ≡ Some thread_is
      pub any : AnyTurn held_is thread_is of.n

    -- It is such a turn, and it leads there.
    pub record IsFoundTurn (turn : FoundTurn G H) : Type 0 where
      pub from : HasTurn turn.of
      pub goes : GoesOnAlone from.held_is from.thread_is turn.of.n turn.to.held turn.to.thread

    -- All states of a row are known, and there is one.
    pub record IsKnownRow (r : List ℕ) : Type 0 where
      pub state : Owning (RestingState G H)
      pub of : IsOf t r (held state)
      pub known : OfHeldRow t r (IsKnown k)

    -- One of a row rests somewhere.
    abbrev pub RestsInRow : List ℕ → Type 0
    RestsInRow r = (s : Owning (RestingState G H)) × IsOf t r (held s) × RestsSomewhere k s.flat

    -- What each thread of a row does next.
    abbrev pub WantsInRow : List ℕ → List (Option NextAccess) → Type 0
    WantsInRow r wanted = OfHeldRow t r (λ s. AreWanted k s.flat wanted)

  -- Where a turn leads, by numbers.
  pub record IsTurnOf (t u : StateParts (Held G) H) (of : TurnOf) (to : LeadsTo) : Type 0 where
    pub held_is : Held G
    pub thread_is : H
    pub held_at : slice_get u.shared.keys to.held ≡ Some held_is
    pub thread_at : slice_get u.threads.keys to.thread ≡ Some thread_is
    pub goes : (g : Held G) (h : H) → slice_get t.shared.keys of.held ≡ Some g
        → slice_get t.threads.keys of.thread ≡ Some h → GoesOnAlone g h of.n held_is thread_is

  -- Nobody is in another's way there.
  pub record IsClear (s : Owning (RestingState G H)) : Type 0 where
    pub wanted : List (Option NextAccess)
    pub are : AreWanted k s.flat wanted
    pub clear : AreClear wanted s.owned.items

  module _ (eq_shared : G → G → Bool) (eq_thread : H → H → Bool) where
    -- The rows are those of the next states by the turns of the threads below a number.
    pub record AreRowsBelow (t : StateParts (Held G) H) (s : Owning (RestingState G H)) (n : ℕ) (rs : List NextRow)
        : Type 0 where
      pub next : List (NextState (Owning (RestingState G H)))
      pub below : HasReducedBelow k s n next
      pub rows : AreHeldRows eq_shared eq_thread t next rs

    -- Where these are so, those have one thread's more.
    abbrev pub AddsRow : StateParts (Held G) H → StateParts (Held G) H → ℕ → List NextRow → List NextRow
        → Owning (RestingState G H) → Type 0
    AddsRow t u n before after s = AreRowsBelow t s n before → AreRowsBelow u s (n + 1) after

    -- They are those of its next states.
    pub record AreRowsOf (t : StateParts (Held G) H) (rs : List NextRow) (s : Owning (RestingState G H)) : Type 0 where
      pub next : List (NextState (Owning (RestingState G H)))
      pub has : HasReduced k s next
      pub rows : AreHeldRows eq_shared eq_thread t next rs

    -- They are those of the state at this place, in a table with these parts.
    abbrev pub HasRowsAt : StateTable G H → StateParts (Held G) H → ℕ → List NextRow → Type 0
    HasRowsAt t parts at rs = (ks : List (Owning (RestingState G H))) (s : Owning (RestingState G H))
        → AreOf t.parts t.states (map held ks) → slice_get ks at ≡ Some s → AreRowsOf parts rs s
