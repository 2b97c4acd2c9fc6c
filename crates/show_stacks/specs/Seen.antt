-- From where the threads came to entries of a record's run.
use Rattle.std.specs.Prelude.{ℕ, ◌≡◌, Bool, true, false, List, [], length, replicate, Option, Some, None, Ok}
use Rattle.std.specs.List.{slice_get}
use Rattle.types.specs.declared.event.Event.{Event}
use Rattle.types.specs.declared.event.Event.TheVariants.{Ask, Told}
use Rattle.types.specs.declared.event.Question.TheVariants.{Leave}
use Rattle.types.specs.declared.event.Entry.{Entry}
use Rattle.types.specs.declared.parts.Parts.{Parts}
use Rattle.interp.specs.declared.place.CodePlace.{CodePlace}
use Rattle.interp.specs.declared.thread.Thread.{Thread}
use Rattle.interp.specs.Threads.{meaning_in}
use Rattle.interp_trait.specs.declared.turn.Turn.TheVariants as turns
use Rattle.replay_text.specs.declared.parts.RecordParts.{RecordParts}
use Rattle.replay_walk.specs.declared.walk.Walk.{Walk}
use Rattle.replay_walk.specs.Seen.{CameAlong}
use Rattle.replay_walk.specs.Standing.{SettlesThread}
use Rattle.spawn_host.specs.declared.end.EndState.{EndState}
use Rattle.replay.specs.Watching.{SeesReplay, StandsFirst}
use Rattle.show_stacks.specs.declared.stacks.EntryStacks.{EntryStacks}
use Rattle.show_stacks.specs.declared.stacks.StackWatch.{StackWatch}
use Rattle.show_stacks.specs.Stacks.{HasCalls, StacksSee, calls_at, lists, seat_of}

-- The stacks of the entries at these places, as a replay of the record fills them: none before it, then those of the
-- thread that wants each. Memory was refused to none of them.
pub record AreStacksOf (m : Parts) (r : RecordParts) (end : EndState) (places : List ℕ) (stacks : EntryStacks)
    : Type 0 where
  pub first : StackWatch
  pub last : StackWatch
  pub named : first.stacks.places.items ≡ places
  pub empty : lists first.stacks.calls.items ≡ replicate (length places) []
  pub sees : SeesReplay StacksSee m r (Ok end) first last
  pub whole : last.is_short ≡ false
  pub filled : stacks ≡ last.stacks

-- A thread wants the event of an entry, unless it is an answer, which is heard, or a leave.
abbrev pub is_wanted : Event → Bool
is_wanted (Told answer) = false
is_wanted (Ask Leave) = false
is_wanted event = true

-- From such a walk the thread of the entry comes by turns of its own to one that wants its event, and these are the
-- calls of the functions that are open there.
pub record AreCallsOf (Stands : Walk Thread → Type 0) (e : Entry) (calls : List CodePlace) : Type 0 where
  pub walk : Walk Thread
  pub stands : Stands walk
  pub settled : List Thread
  pub settles : SettlesThread meaning_in walk.threads.items e.thread (turns.Wants e.event) settled
  pub thread : Thread
  pub there : slice_get settled e.thread ≡ Some thread
  pub has : HasCalls thread calls

-- So it is of an entry that is wanted, and another one has none.
pub record IsStackOf (Stands : Walk Thread → Type 0) (e : Entry) (calls : List CodePlace) : Type 0 where
  pub wanted : is_wanted e.event ≡ true → AreCallsOf Stands e calls
  pub other : is_wanted e.event ≡ false → calls ≡ []

abbrev pub IsStackAt : (Walk Thread → Type 0) → Option Entry → List CodePlace → Type 0
IsStackAt Stands None calls = calls ≡ []
IsStackAt Stands (Some e) calls = IsStackOf Stands e calls

-- Of each place that is named these are the calls of the entry there, behind the entries before it in a run of the
-- record.
pub record HasEach (m : Parts) (r : RecordParts) (places : List ℕ) (stacks : EntryStacks) : Type 0 where
  pub first : Walk Thread
  pub begins : StandsFirst m r first
  pub each : (at seat : ℕ) → seat_of places at ≡ Some seat
      → IsStackAt (CameAlong meaning_in first r.limit r.log at) (slice_get r.log at) (calls_at stacks at)
