-- What is heard of a run while it is made: where the thread of each entry stands.
use Rattle.std.specs.Prelude.{◌≡◌, ◌⊎◌, ℕ, true, List, [], ◌∷◌, ◌++◌, Some}
use Rattle.std.specs.List.{slice_get}
use Rattle.types.specs.declared.event.Entry.{Entry}
use Rattle.types.specs.declared.event.Event.{Event}
use Rattle.types.specs.declared.event.Event.TheVariants.{Ask, Told}
use Rattle.types.specs.declared.event.Question.TheVariants.{Leave}
use Rattle.interp.specs.Threads.{meaning_in}
use Rattle.interp.specs.declared.place.CodePlace.{CodePlace}
use Rattle.interp.specs.declared.thread.Thread.{Thread}
use Rattle.interp_trait.specs.Turns.{Meaning}
use Rattle.interp_trait.specs.declared.turn.Turn.{Turn}
use Rattle.interp_trait.specs.declared.turn.Turn.TheVariants as turns
use Rattle.spawn_host.specs.Requests.{Requested}
use Rattle.replay_text.specs.declared.parts.RecordParts.{RecordParts}
use Rattle.replay_walk.specs.Standing.{SettlesThread}
use Rattle.replay_walk.specs.declared.walk.Walk.{Walk}
use Rattle.search_scheduled.specs.declared.course.Course.{Course}
use Rattle.search_scheduled.specs.declared.ear.Places.{Places}
use Rattle.search_scheduled.specs.Courses.{IsAnswerBy, StaysOnItsRuns}
use Rattle.search_scheduled.specs.SpareThreads.{HasBegunFor}

-- A thread that has settled with a turn made an event: it has left, and all threads are as they were; or it wanted this
-- very one. An answer isn't made so.
abbrev pub IsMadeBy : {S : Type 0} → Event → Turn → List S → List S → Type 0
IsMadeBy (Told answer) turn settled after = ⊥
IsMadeBy (Ask Leave) turn settled after = after ≡ settled
IsMadeBy event turn settled after = turn ≡ turns.Wants event

module _ {S W : Type 0} (meaning : S → Meaning) (hears : W → S → W → Type 0) where
  -- A thread takes an answer, and is heard as it stood before.
  pub record HearsAnswer (w : Walk S) (e : Entry) (old new : W) : Type 0 where
    pub answer : IsAnswerBy e.thread e
    pub thread : S
    pub at : slice_get w.threads.items e.thread ≡ Some thread
    pub heard : hears old thread new

  -- A thread makes its turns of its own, is heard as it stands then, and makes its entry.
  pub record HearsSettled (w : Walk S) (e : Entry) (after : Walk S) (old new : W) : Type 0 where
    pub turn : Turn
    pub settled : List S
    pub settles : SettlesThread meaning w.threads.items e.thread turn settled
    pub thread : S
    pub at : slice_get settled e.thread ≡ Some thread
    pub heard : hears old thread new
    pub made : IsMadeBy e.event turn settled after.threads.items

  -- A course goes on by one entry, on each run that it is on, and its thread is heard.
  pub record IsHeardOn (c : Course S) (p : W) (d : Course S) (q : W) : Type 0 where
    pub runs : StaysOnItsRuns meaning c d
    pub entry : Entry
    pub log : d.log.items ≡ c.log.items ++ entry ∷ []
    pub heard : HearsAnswer c.walk entry p q ⊎ HearsSettled c.walk entry d.walk p q

  -- So it went on, entry by entry.
  pub data IsHeard (first : Course S) (v : W) : Course S → W → Type 0 where
    here : IsHeard first v first v
    on : (c : Course S) (p : W) (d : Course S) (q : W) → IsHeard first v c p → IsHeardOn c p d q → IsHeard first v d q

  -- What was heard from some course on goes on to be.
  abbrev pub StaysHeard : Course S → W → Course S → W → Type 0
  StaysHeard c p d q = (first : Course S) (v : W) → IsHeard first v c p → IsHeard first v d q

-- The thread of this number is heard, if there is one.
abbrev pub IsHeardAt : {S W : Type 0} → (W → S → W → Type 0) → List S → ℕ → W → W → Type 0
IsHeardAt {S} hears threads n old new = (x : S) → slice_get threads n ≡ Some x → hears old x new

-- Where a thread stands: its function, and the number of the instruction that comes next.
abbrev pub place_in : Thread → CodePlace
place_in t = record { function = t.state.function; instr = t.state.pc }

-- Where a thread stands is noted behind the others, where that is to be heard.
pub record HearsPlace (old : Places) (thread : Thread) (new : Places) : Type 0 where
  pub same : new.hears ≡ old.hears
  pub noted : old.hears ≡ true → new.places.items ≡ old.places.items ++ place_in thread ∷ []

-- From the beginning of what is requested it was heard of each entry of the record's log where its thread stood.
pub record IsHeardRun (q : Requested) (limit : ℕ) (made : RecordParts) (heard : Places) : Type 0 where
  pub first : Course Thread
  pub begun : HasBegunFor meaning_in q limit first
  pub none : Places
  pub empty : none.places.items ≡ []
  pub last : Course Thread
  pub is_heard : IsHeard meaning_in HearsPlace first none last heard
  pub log : made.log ≡ last.log.items
