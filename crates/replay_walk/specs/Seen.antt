-- What a watch sees of a walk: what its methods are told, in order, and of which threads and memory.
use Rattle.std.specs.Prelude.{ℕ, ◌≡◌, ◌+◌, ◌≤◌, ◌⊎◌, Bool, true, false, List, [], ◌∷◌, length, take, Some}
use Rattle.std.specs.List.{slice_get}
use Rattle.types.specs.declared.event.Event.{Event}
use Rattle.types.specs.declared.event.Event.TheVariants.{Ask, Told}
use Rattle.types.specs.declared.event.Question.TheVariants.{Leave}
use Rattle.types.specs.declared.event.Entry.{Entry}
use Rattle.shared_memory.specs.Memory.{Memory}
use Rattle.interp_trait.specs.Turns.{Meaning}
use Rattle.interp_trait.specs.declared.turn.Turn.{Turn}
use Rattle.interp_trait.specs.declared.turn.Turn.TheVariants as turns
use Rattle.replay_walk.specs.declared.walk.Walk.{Walk}
use Rattle.replay_walk.specs.Standing.{SettlesThread, HasGoneIfFree}
use Rattle.replay_walk.specs.Walked.{Run, WalkCame}

-- A watch is told that the walk came along so many entries; that by turns of its own a thread comes to this; or that
-- this thread wants the event of an entry, over this memory.
pub data Sight (S : Type 0) : Type 0 where
  Came : ℕ → Walk S → Sight S
  Settled : ℕ → Turn → Sight S
  Wanted : Entry → S → Memory → Sight S

module _ {S : Type 0} (meaning : S → Meaning) where
  -- From where each run with this limit begins, the walk came along so many of its entries.
  abbrev pub CameAlong : Walk S → ℕ → List Entry → ℕ → Walk S → Type 0
  CameAlong first limit log count w = (r : Run) → WalkCame meaning r [] first → r.limit ≡ limit
      → WalkCame meaning r (take count log) w

module _ {S W : Type 0} (meaning : S → Meaning) (sees : W → Sight S → W → Type 0) where
  -- A walk's thread makes its turns of its own, and the watch is told what it comes to;
  pub record IsToldOf (w : Walk S) (n : ℕ) (turn : Turn) (old new : W) : Type 0 where
    pub settled : List S
    pub settles : SettlesThread meaning w.threads.items n turn settled
    pub tells : sees old (Settled n turn) new

  -- that is the event of this entry, and the watch is shown the thread and the memory before it.
  pub record IsShown (w : Walk S) (e : Entry) (old new : W) : Type 0 where
    pub between : W
    pub told : IsToldOf w e.thread (turns.Wants e.event) old between
    pub thread : S
    pub at : slice_get told.settled e.thread ≡ Some thread
    pub shows : sees between (Wanted e thread w.memory) new

  -- It is told of some turn.
  abbrev pub IsToldSome : Walk S → ℕ → W → W → Type 0
  IsToldSome w n old new = (turn : Turn) × IsToldOf w n turn old new

  -- It is told of another turn than the one that wants this event.
  abbrev pub IsToldOther : Walk S → Entry → W → W → Type 0
  IsToldOther w e old new = (turn : Turn) × IsToldOf w e.thread turn old new × (turn ≡ turns.Wants e.event → ⊥)

  -- What is seen of a leave, and of another event behind so many entries, by whether it is taken. Nothing is seen where
  -- the thread isn't asked: it has left, or the log is full.
  abbrev pub SeesLeave : Walk S → Entry → Bool → W → W → Type 0
  SeesLeave w e true old new = IsToldSome w e.thread old new
  SeesLeave w e false old new = (HasGoneIfFree meaning w.stage e.thread × (new ≡ old)) ⊎ IsToldSome w e.thread old new

  abbrev pub SeesEvent : ℕ → ℕ → Walk S → Entry → Bool → W → W → Type 0
  SeesEvent limit count w e true old new = IsShown w e old new
  SeesEvent limit count w e false old new =
      (((limit ≤ count) ⊎ HasGoneIfFree meaning w.stage e.thread) × (new ≡ old))
      ⊎ (IsToldOther w e old new ⊎ IsShown w e old new)

  -- What is seen of an entry behind so many others: nothing of an answer that is heard.
  abbrev pub SeesBy : Event → ℕ → ℕ → Walk S → Entry → Bool → W → W → Type 0
  SeesBy (Told answer) limit count w e taken old new = new ≡ old
  SeesBy (Ask Leave) limit count w e taken old new = SeesLeave w e taken old new
  SeesBy event limit count w e taken old new = SeesEvent limit count w e taken old new

  abbrev pub SeesEntry : ℕ → ℕ → Walk S → Entry → Bool → W → W → Type 0
  SeesEntry limit count w e taken old new = SeesBy e.event limit count w e taken old new

  -- Behind so many entries the watch is told so, with a walk that stands there, and sees of the next one whether it is
  -- taken.
  pub record SeesNext (Stands : ℕ → Walk S → Type 0) (limit count : ℕ) (e : Entry) (taken : Bool) (old new : W)
      : Type 0 where
    pub walk : Walk S
    pub stands : Stands count walk
    pub between : W
    pub came : sees old (Came count walk) between
    pub entry : SeesEntry limit count walk e taken between new

  -- So it sees each of these entries, which are all taken, in turn.
  abbrev pub SeesLog : (ℕ → Walk S → Type 0) → ℕ → ℕ → List Entry → W → W → Type 0
  SeesLog Stands limit count [] old new = new ≡ old
  SeesLog Stands limit count (e ∷ log) old new =
      (between : W) × SeesNext Stands limit count e true old between × SeesLog Stands limit (count + 1) log between new

  -- A watch sees all of a log, and then the walk behind it.
  abbrev pub SeesWhole : Walk S → ℕ → List Entry → Walk S → W → W → Type 0
  SeesWhole first limit log last old new =
      (between : W) × SeesLog (CameAlong meaning first limit log) limit 0 log old between
      × sees between (Came (length log) last) new

  -- It sees a log up to the entry at k, which isn't taken.
  abbrev pub SeesUpTo : Walk S → ℕ → List Entry → ℕ → W → W → Type 0
  SeesUpTo first limit log k old new = (e : Entry) × (slice_get log k ≡ Some e) × (between : W)
      × SeesLog (CameAlong meaning first limit log) limit 0 (take k log) old between
      × SeesNext (CameAlong meaning first limit log) limit k e false between new
