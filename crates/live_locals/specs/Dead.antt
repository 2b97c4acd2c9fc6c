-- Configurations that differ in locals alone that tables of marks call dead where the frames stand.
use Rattle.std.specs.Prelude.{◌≡◌, Bool, List, [], ◌∷◌, reverse}
use Rattle.validate_typing.specs.Tabled.{WithTables}
use Rattle.interp_machine.specs.Config.{Frame, Config}
use Rattle.interp_state.specs.declared.state.Caller.{Caller}
use Rattle.interp_state.specs.declared.state.State.{State}
use Rattle.interp_state.specs.Stands.{Stands}
use Rattle.live_locals.specs.Live.{AreSound, row_at}
use Rattle.live_locals.specs.Alike.{AreSameBy, AreAlike}

-- The calling frames are the same but for locals that are dead where each goes on.
abbrev pub AreCallersSameBy : List (List (List Bool)) → List Caller → List Frame → List Frame → Type 0
AreCallersSameBy tables [] [] [] = Unit {0}
AreCallersSameBy tables [] [] (g ∷ gs) = ⊥
AreCallersSameBy tables [] (f ∷ fs) gs = ⊥
AreCallersSameBy tables (caller ∷ callers) [] gs = ⊥
AreCallersSameBy tables (caller ∷ callers) (f ∷ fs) [] = ⊥
AreCallersSameBy tables (caller ∷ callers) (f ∷ fs) (g ∷ gs) =
    AreSameBy (row_at (row_at tables caller.function) caller.pc) f g × AreCallersSameBy tables callers fs gs

-- The configurations of a state are the same but for locals that are dead at the places of its functions.
pub record AreSameButDead (tables : List (List (List Bool))) (s : State) (c d : Config) : Type 0 where
  pub globals : c.globals ≡ d.globals
  pub frame : AreSameBy (row_at (row_at tables s.function) s.pc) c.frame d.frame
  pub callers : AreCallersSameBy tables (reverse s.callers.items) c.callers d.callers
  pub progress : c.progress ≡ d.progress

-- Where the tables are sound for the module, such configurations are alike.
abbrev pub DeadDoNotCount : Type 0
DeadDoNotCount = (w : WithTables) (tables : List (List (List Bool))) → AreSound w tables → (s : State) (c d : Config) →
    Stands w s c → AreSameButDead tables s c d → AreAlike c d
