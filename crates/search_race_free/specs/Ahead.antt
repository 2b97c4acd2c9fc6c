-- What comes of the state at a place of a table, and turns that are found before a search comes to their states.
use Rattle.std.specs.Prelude.{ℕ, ◌≡◌, List, Some, Result, IfOk}
use Rattle.std.specs.List.{slice_get}
use Rattle.std.specs.Global.{Vec}
use Rattle.schedule.specs.System.{State}
use Rattle.search_table.specs.declared.parts.StateParts.{StateParts}
use Rattle.search_reach.specs.declared.explores.NextState.{NextState}
use Rattle.search_settled.specs.Threads.{ThreadSystem}
use Rattle.search_settled.specs.declared.flat.RestingState.{RestingState}
use Rattle.search_race_free.specs.declared.owning.Owning.{Owning}
use Rattle.search_race_free.specs.declared.alone.Arrival.{Arrival}
use Rattle.search_race_free.specs.declared.met.Held.{Held}
use Rattle.search_race_free.specs.declared.met.StateTable.{StateTable}
use Rattle.search_race_free.specs.declared.known.FoundTurn.{FoundTurn}
use Rattle.search_race_free.specs.declared.known.TurnOf.{TurnOf}
use Rattle.search_race_free.specs.declared.ahead.KnownTables.{KnownTables}
use Rattle.search_race_free.specs.Reduced.{HasReduced}
use Rattle.search_race_free.specs.Search.{IsCame}
use Rattle.search_race_free.specs.Met.{HasOwning, IsStateAt}
use Rattle.search_race_free.specs.Known.{AreKnownTurns, HasTurn, IsFoundTurn}

module _ {X T E V A G H M : Type 0} (k : ThreadSystem X T E V A G H M) where
  -- It comes of the state at this place: of a copy of it.
  pub record ComesOfPlace (stuck : State X T → Type 0) (t : StateTable G H) (at : ℕ)
      (came : Arrival (Vec (NextState (Owning (RestingState G H))))) : Type 0 where
    pub copy : Owning (RestingState G H)
    pub of : IsStateAt k t at (Some copy)
    pub is : IsCame k stuck copy.flat (λ v. HasReduced k copy v.items) came

  -- Each of these is a turn of a thread of these parts.
  pub record AreTurns (t : StateParts (Held G) H) (turns : List TurnOf) : Type 0 where
    pub each : (i : ℕ) (turn : TurnOf) → slice_get turns i ≡ Some turn → HasTurn k t turn

  -- Each of these is one, and leads where it says.
  abbrev pub AreFound : StateParts (Held G) H → List (FoundTurn G H) → Type 0
  AreFound t turns = (i : ℕ) (turn : FoundTurn G H) → slice_get turns i ≡ Some turn → IsFoundTurn k t turn

  abbrev pub IsFoundIn : StateParts (Held G) H → Vec (FoundTurn G H) → Type 0
  IsFoundIn t turns = AreFound t turns.items

  -- Each of these that there are.
  abbrev pub AreFoundIn : {F : Type 0} → StateParts (Held G) H → List (Result (Vec (FoundTurn G H)) F) → Type 0
  AreFoundIn {F} t pieces =
      (i : ℕ) (piece : Result (Vec (FoundTurn G H)) F) → slice_get pieces i ≡ Some piece → IfOk piece (IsFoundIn t)

  -- The tables have these states, and what is known of turns is so.
  pub record HasKnown (t : KnownTables G H) (ks : List (Owning (RestingState G H))) : Type 0 where
    pub owning : HasOwning t.met ks
    pub known : AreKnownTurns k t.met.parts t.known.items
