-- What a search looks for among the touches of threads and their next accesses.
use Rattle.std.specs.Prelude.{ℕ, zero, suc, ◌≡◌, ◌≢◌, ◌⊎◌, ◌↔◌, List, [], ◌∷◌, Contains, Option, Some, None}
use Rattle.search_settled.specs.Accesses.{IsPlain, Race, WritesOver}
use Rattle.search_settled.specs.declared.access.NextAccess.{NextAccess}
use Rattle.search_race_free.specs.declared.owning.Touch.{Touch}

-- What thread t does next, as a list has it.
abbrev pub access_at : List (Option NextAccess) → ℕ → Option NextAccess
access_at [] t = None
access_at (a ∷ more) zero = a
access_at (a ∷ more) (suc t) = access_at more t

module _ (owned : List Touch) (t : ℕ) where
  -- No touch of another thread races with thread t's access; or one of this thread does.
  abbrev pub StrikesNobody : NextAccess → Type 0
  StrikesNobody a = (x : Touch) → Contains owned x → x.thread ≢ t → Race a x.access → ⊥

  pub record Strikes (a : NextAccess) (one : ℕ) : Type 0 where
    pub touch : Touch
    pub among : Contains owned touch
    pub is : touch.thread ≡ one
    pub other : touch.thread ≢ t
    pub race : Race a touch.access

  -- These are the touches of the other threads.
  abbrev pub AreOfOthers : List Touch → Type 0
  AreOfOthers others = (x : Touch) → Contains others x ↔ Contains owned x × (x.thread ≢ t)

module _ (wanted : List (Option NextAccess)) (t : ℕ) where
  -- No next access of another thread races with thread t's; or that of this thread does.
  abbrev pub MeetsNobody : NextAccess → Type 0
  MeetsNobody a = (u : ℕ) (b : NextAccess) → access_at wanted u ≡ Some b → u ≢ t → Race a b → ⊥

  pub record Meets (a : NextAccess) (u : ℕ) : Type 0 where
    pub access : NextAccess
    pub wants : access_at wanted u ≡ Some access
    pub differ : u ≢ t
    pub race : Race a access

-- It has an access of another thread over which that of thread n writes.
pub record IsOver (wanted : List (Option NextAccess)) (n : ℕ) (a : NextAccess) (x : Touch) : Type 0 where
  pub wants : access_at wanted x.thread ≡ Some x.access
  pub other : x.thread ≢ n
  pub over : WritesOver a x.access

-- Each such touch is put to those, of which it strikes none.
pub record ArePutOver (wanted : List (Option NextAccess)) (n : ℕ) (a : NextAccess) (before after : List Touch) : Type 0 where
  pub kept : (x : Touch) → Contains before x → Contains after x
  pub all : (x : Touch) → IsOver wanted n a x → Contains after x
  pub each : (x : Touch) → Contains after x
      → Contains before x ⊎ IsOver wanted n a x × StrikesNobody before x.thread x.access

-- All touches of the thread are plain.
abbrev pub ArePlainOf : List Touch → ℕ → Type 0
ArePlainOf owned t = (x : Touch) → Contains owned x → x.thread ≡ t → IsPlain x.access

-- This touch is put to those.
abbrev pub IsPut : List Touch → Touch → List Touch → Type 0
IsPut before touch after = (x : Touch) → Contains after x ↔ (Contains before x ⊎ (x ≡ touch))

-- Each next access strikes nobody and meets nobody; or one is in another thread's way.
abbrev pub AreClear : List (Option NextAccess) → List Touch → Type 0
AreClear wanted owned = (t : ℕ) (a : NextAccess) → access_at wanted t ≡ Some a
    → StrikesNobody owned t a × MeetsNobody wanted t a

pub record AreInTheWay (wanted : List (Option NextAccess)) (owned : List Touch) (one other : ℕ) : Type 0 where
  pub access : NextAccess
  pub wants : access_at wanted other ≡ Some access
  pub way : Strikes owned other access one ⊎ Meets wanted other access one
