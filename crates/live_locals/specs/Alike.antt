-- Configurations of a thread that are the same but for locals that are dead where their frames stand.
use Rattle.std.specs.Prelude.{◌≡◌, ℕ, Bool, List, [], ◌∷◌, map}
use Rattle.std.specs.List.{slice_get}
use Rattle.types.specs.declared.value.Value.{Value}
use Rattle.types.specs.Values.{type_of}
use Rattle.interp_machine.specs.Config.{Frame, Config, Next, Stuck, Goes, Traps, Finishes, Asks, Hears}
use Rattle.interp_machine.specs.State.{State, At, Over}
use Rattle.live_locals.specs.Live.{IsLive}
use Rattle.live_locals.specs.Lives.{IsLiveFrame}

-- Locals of the same types that agree where they are live.
pub record Agree (row : List Bool) (xs ys : List Value) : Type 0 where
  pub types : map type_of xs ≡ map type_of ys
  pub same : (local : ℕ) → IsLive row local → slice_get xs local ≡ slice_get ys local

-- Two frames are the same but for locals that aren't live by a row.
pub record AreSameBy (row : List Bool) (f g : Frame) : Type 0 where
  pub locals : Agree row f.locals g.locals
  pub code : f.code ≡ g.code
  pub operands : f.operands ≡ g.operands
  pub labels : f.labels ≡ g.labels
  pub arity : f.arity ≡ g.arity

-- Two frames are the same but for dead locals.
pub record AreFramesAlike (f g : Frame) : Type 0 where
  pub row : List Bool
  pub live : IsLiveFrame row f
  pub same : AreSameBy row f g

abbrev pub AreCallersAlike : List Frame → List Frame → Type 0
AreCallersAlike [] [] = Unit {0}
AreCallersAlike [] (g ∷ gs) = ⊥
AreCallersAlike (f ∷ fs) [] = ⊥
AreCallersAlike (f ∷ fs) (g ∷ gs) = AreFramesAlike f g × AreCallersAlike fs gs

pub record AreAlike (c d : Config) : Type 0 where
  pub globals : c.globals ≡ d.globals
  pub frame : AreFramesAlike c.frame d.frame
  pub callers : AreCallersAlike c.callers d.callers
  pub progress : c.progress ≡ d.progress

-- What comes next is the same: the same trap, the same result, the same event; and with the same reply the
-- configurations behind it are alike.
abbrev pub AreNextAlike : Next → Next → Type 0
AreNextAlike Stuck Stuck = Unit {0}
AreNextAlike (Goes c) (Goes d) = AreAlike c d
AreNextAlike (Traps trap) (Traps other) = trap ≡ other
AreNextAlike (Finishes result) (Finishes other) = result ≡ other
AreNextAlike (Asks event go) (Asks other on) = (event ≡ other) × ((n : ℕ) → AreAlike (go n) (on n))
AreNextAlike (Hears go) (Hears on) = (n : ℕ) → AreAlike (go n) (on n)
AreNextAlike n m = ⊥

-- Two states of a thread: configurations that are alike, or the same outcome.
abbrev pub AreStatesAlike : State → State → Type 0
AreStatesAlike (At c) (At d) = AreAlike c d
AreStatesAlike (Over outcome) (Over other) = outcome ≡ other
AreStatesAlike (At c) (Over outcome) = ⊥
AreStatesAlike (Over outcome) (At c) = ⊥
