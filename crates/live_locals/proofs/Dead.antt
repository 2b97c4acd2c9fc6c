-- Locals that sound tables call dead don't count.
use Rattle.std.proofs.Common.{ℕ, Bool, List, [], ◌∷◌, reverse, sym, subst}
use Rattle.types.specs.declared.value.ValType.{ValType}
use Rattle.types.specs.declared.value.Value.{Value}
use Rattle.validate_typing.specs.Placed.{Flat}
use Rattle.validate_typing.specs.Tabled.{WithTables}
use Rattle.interp_machine.specs.Config.{Frame, Config}
use Rattle.interp_state.specs.declared.state.Caller.{Caller}
use Rattle.interp_state.specs.declared.state.State.{State}
use Rattle.interp_state.specs.Stands.{FrameAt, IsOwn, AreCallers, Stands, due}
use Rattle.live_locals.specs.Live.{IsSound, AreSound, row_at}
use Rattle.live_locals.specs.Alike.{AreSameBy, AreFramesAlike, AreCallersAlike, AreAlike}
use Rattle.live_locals.specs.Dead.{AreCallersSameBy, AreSameButDead, DeadDoNotCount}
use Rattle.live_locals.proofs.Placed.{frame_lives}

module _ (w : WithTables) (tables : List (List (List Bool))) (sound : AreSound w tables) where
  own_sound : (own : ℕ) (b : Flat) → IsOwn w own b → IsSound b.code b.rows (row_at tables own)
  own_sound own b o =
      subst (λ (x : Flat). IsSound x.code x.rows (row_at tables own)) (sym o.flat) (sound own o.body o.rows o.body_is o.rows_are)

  frame_dead : (own : ℕ) (b : Flat) (more : List ValType) (f g : Frame) (pc : ℕ) → IsOwn w own b → FrameAt b more f pc →
      AreSameBy (row_at (row_at tables own) pc) f g → AreFramesAlike f g
  frame_dead own b more f g pc o m same =
      record { row = row_at (row_at tables own) pc; live = frame_lives b (row_at tables own) (own_sound own b o) more f pc m; same = same }

  callers_dead : (results : List ValType) (ks : List Caller) (fs gs : List Frame) (values : List Value) → AreCallers w results ks fs values →
      AreCallersSameBy tables ks fs gs → AreCallersAlike fs gs
  callers_dead results [] [] [] values h same = tt
  callers_dead results [] [] (g ∷ gs) values h same = absurd same
  callers_dead results [] (f ∷ fs) gs values h same = absurd h
  callers_dead results (k ∷ ks) [] gs values h same = absurd h
  callers_dead results (k ∷ ks) (f ∷ fs) [] values h same = absurd same
  callers_dead results (k ∷ ks) (f ∷ fs) (g ∷ gs) values h same =
      (frame_dead k.function h.0 results f g k.pc h.2 h.3 same.0, callers_dead h.0.context.results ks fs gs h.1 h.8 same.1)

  dead_at : (s : State) (c d : Config) → Stands w s c → AreSameButDead tables s c d → AreAlike c d
  dead_at s c d st same = record {
    globals = same.globals;
    frame = frame_dead s.function st.body (due c.progress) c.frame d.frame s.pc st.own st.frame same.frame;
    callers = callers_dead st.body.context.results (reverse s.callers.items) c.callers d.callers st.lower st.callers same.callers;
    progress = same.progress;
  }

pub dead : DeadDoNotCount
dead w tables sound s c d st same = dead_at w tables sound s c d st same
