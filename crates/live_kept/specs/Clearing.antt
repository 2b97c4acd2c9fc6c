-- What clearing dead locals does to what a thread stands for.
use Rattle.std.specs.Prelude.{◌≡◌, Bool, List}
use Rattle.validate_typing.specs.Tabled.{WithTables}
use Rattle.interp_machine.specs.Config.{Config}
use Rattle.interp.specs.declared.kept.Kept.{Kept}
use Rattle.interp.specs.Kept.{IsKept}
use Rattle.live_locals.specs.Live.{AreSound}
use Rattle.live_locals.specs.Alike.{AreAlike}
use Rattle.live_kept.specs.Cleared.{cleared_words}

-- The one is the other with its words so cleared.
pub record IsClearedOf (tables : List (List (List Bool))) (old new : Kept) : Type 0 where
  pub function : new.function ≡ old.function
  pub pc : new.pc ≡ old.pc
  pub base : new.base ≡ old.base
  pub operands : new.operands ≡ old.operands
  pub results : new.results ≡ old.results
  pub values : new.values.items ≡ cleared_words tables old
  pub globals : new.globals.items ≡ old.globals.items
  pub callers : new.callers.items ≡ old.callers.items
  pub progress : new.progress ≡ old.progress

-- It stands for a configuration that is alike to this one.
abbrev pub IsKeptUpToDead : WithTables → Kept → Config → Type 0
IsKeptUpToDead w k c = (d : Config) × IsKept w k d × AreAlike d c

-- For what the one stands up to dead locals, the other stands, of whichever valid module for which the tables are
-- sound.
abbrev pub StandsForAlike : List (List (List Bool)) → Kept → Kept → Type 0
StandsForAlike tables old new = (w : WithTables) (c : Config) → AreSound w tables → IsKeptUpToDead w old c →
    IsKeptUpToDead w new c
