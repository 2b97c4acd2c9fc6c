-- What threads own: bytes that they have touched by plain accesses since they last made anything else. Beside them stand
-- the atomic accesses of threads that were written over before they were made.
use Rattle.std.specs.Prelude.{ℕ, ◌≡◌, ◌≢◌, true, List, Contains, Some}
use Rattle.schedule.specs.System.{System, State}
use Rattle.search_settled.specs.Accesses.{IsPlain, HasByte, Race}
use Rattle.search_settled.specs.declared.access.NextAccess.{NextAccess}
use Rattle.search_race_free.specs.declared.owning.Touch.{Touch}
use Rattle.search_race_free.specs.Wanted.{next_access}

-- The thread owns the byte, as one that it has written if this is so.
pub record OwnsByte (owned : List Touch) (t byte : ℕ) (written : Type 0) : Type 0 where
  pub touch : Touch
  pub among : Contains owned touch
  pub is : touch.thread ≡ t
  pub plain : IsPlain touch.access
  pub has : HasByte touch.access byte
  pub writes : written → touch.access.writes ≡ true

-- Each byte of the access is one that the thread owns.
abbrev pub Within : List Touch → ℕ → NextAccess → Type 0
Within owned t a = (byte : ℕ) → HasByte a byte → OwnsByte owned t byte (a.writes ≡ true)

-- What is owned at a state is in nobody's way: no touch of one thread races with one of another, nor with its next access,
-- and no two next accesses race.
pub record IsSafe {X T E V A : Type 0} (s : System X T E V A) (accesses : X → T → E → NextAccess) (owned : List Touch)
    (z : State X T) : Type 0 where
  pub apart : (x y : Touch) → Contains owned x → Contains owned y → x.thread ≢ y.thread → Race x.access y.access → ⊥
  pub clear : (t : ℕ) (a : NextAccess) (x : Touch) → next_access s accesses z t ≡ Some a → Contains owned x
      → x.thread ≢ t
      → Race a x.access → ⊥
  pub meet : (t u : ℕ) (a b : NextAccess) → u ≢ t → next_access s accesses z t ≡ Some a
      → next_access s accesses z u ≡ Some b
      → Race a b → ⊥
