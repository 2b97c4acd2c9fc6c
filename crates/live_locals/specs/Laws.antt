-- What is so of configurations that are alike, of whatever program.
use Rattle.std.specs.Prelude.{◌≡◌, ℕ}
use Rattle.types.specs.declared.event.Reply.{Reply}
use Rattle.types.specs.declared.event.Answer.{Answer}
use Rattle.interp_machine.specs.Config.{Config}
use Rattle.interp_machine.specs.Program.{Program}
use Rattle.interp_machine.specs.Step.{next}
use Rattle.interp_machine.specs.State.{State, wanted, gone, gone_times, replied, heard}
use Rattle.live_locals.specs.Alike.{AreAlike, AreNextAlike, AreStatesAlike}

-- What comes next of them is alike.
abbrev pub AlikeGoAlike : Type 0
AlikeGoAlike = (p : Program) (c d : Config) → AreAlike c d → AreNextAlike (next p c) (next p d)

-- So threads want the same event, and are alike again after a turn, so many turns, a reply and an answer.
pub record StatesGoAlike (p : Program) (s t : State) : Type 0 where
  pub wants : wanted p s ≡ wanted p t
  pub goes : AreStatesAlike (gone p s) (gone p t)
  pub replies : (reply : Reply) → AreStatesAlike (replied p s reply) (replied p t reply)
  pub turns : (n : ℕ) → AreStatesAlike (gone_times n p s) (gone_times n p t)
  pub hears : (answer : Answer) → AreStatesAlike (heard p s answer) (heard p t answer)

abbrev pub AlikeStatesGoAlike : Type 0
AlikeStatesGoAlike = (p : Program) (s t : State) → AreStatesAlike s t → StatesGoAlike p s t

-- Each configuration is alike to itself, and being alike goes back and on.
pub record AlikeIsEquivalence : Type 0 where
  pub itself : (c : Config) → AreAlike c c
  pub back : (c d : Config) → AreAlike c d → AreAlike d c
  pub in_turn : (c d e : Config) → AreAlike c d → AreAlike d e → AreAlike c e
