-- What a moment keeps of a walk.
use Rattle.std.specs.Prelude.{◌≡◌, ◌≢◌, ◌≤◌, ◌<◌, ◌+◌, ℕ, true, false, List, take, drop, Option, Some, None}
use Rattle.std.specs.Prelude.{slice_set, option_and_then}
use Rattle.std.specs.List.{slice_get, AllZip}
use Rattle.types.specs.declared.event.Event.{Event}
use Rattle.types.specs.declared.event.Event.TheVariants.{Ask, Told}
use Rattle.types.specs.declared.event.Question.TheVariants.{Leave}
use Rattle.types.specs.declared.event.Entry.{Entry}
use Rattle.waiters.specs.declared.kept.KeptQueue.{KeptQueue}
use Rattle.waiters.specs.Kept.{queue_of, without_answers}
use Rattle.schedule.specs.Machine.{Thread.Runs}
use Rattle.interp_machine.specs.Config.{Config}
use Rattle.interp_machine.specs.State.{At}
use Rattle.interp.specs.declared.thread.Thread.{Thread}
use Rattle.interp.specs.Threads.{StandsFor}
use Rattle.interp.specs.Places.{IsAtPlace, HasCallers}
use Rattle.interp.specs.Kept.{IsKeptOf}
use Rattle.replay_walk.specs.declared.walk.Walk.{Walk}
use Rattle.replay_walk.specs.Seen.{Sight, Sight.Came, Sight.Settled, Sight.Wanted}
use Rattle.show_moments.specs.declared.standing.ThreadSnapshot.{ThreadSnapshot}
use Rattle.show_moments.specs.declared.moment.Bytes.{Bytes}
use Rattle.show_moments.specs.declared.moment.Moment.{Moment}

-- The next instruction of each configuration that the thread stands for stands at the place, these functions called the
-- one that runs, and what is kept is what it has: locals, operands and globals.
pub record StandsAs (thread : Thread) (s : ThreadSnapshot) : Type 0 where
  pub place : (c : Config) (left : ℕ) → StandsFor thread (Runs (At c) left)
      → IsAtPlace thread.parts.now s.place.function s.place.instr c
  pub callers : (c : Config) (left : ℕ) → StandsFor thread (Runs (At c) left)
      → HasCallers thread.parts.now s.callers.items c
  pub kept : IsKeptOf thread s.kept

-- Those of the bytes that lie in memory.
abbrev pub bytes_of : List ℕ → Bytes → List ℕ
bytes_of memory wanted = take wanted.count (drop wanted.addr memory)

abbrev pub StandsIn : Thread → Option ThreadSnapshot → Type 0
StandsIn thread None = ⊥
StandsIn thread (Some s) = StandsAs thread s

-- The queue is that of this walk, the bytes are those of its memory, that is kept too, and each of its threads stands
-- where it does there.
pub record IsRound (m : Moment) (walk : Walk Thread) : Type 0 where
  pub queue : KeptQueue
  pub kept : m.queue ≡ Some queue
  pub same : queue_of queue ≡ without_answers walk.stage.queue
  pub bytes : m.bytes.items ≡ bytes_of walk.memory.bytes m.wanted
  pub memory : m.memory.items ≡ walk.memory.bytes
  pub here : AllZip StandsIn walk.threads.items m.here.items

-- What the thread with this number comes to first is kept, and nothing is kept where something is already.
pub record Sees (thread : Thread) (n : ℕ) (old new : List (Option ThreadSnapshot)) : Type 0 where
  pub first : slice_get old n ≡ Some None → (s : ThreadSnapshot) × StandsAs thread s × (new ≡ slice_set old n (Some s))
  pub later : slice_get old n ≢ Some None → new ≡ old

-- What the thread with this number comes to, if there is one.
abbrev pub SeesOf : Option Thread → ℕ → List (Option ThreadSnapshot) → List (Option ThreadSnapshot) → Type 0
SeesOf None n old new = new ≡ old
SeesOf (Some thread) n old new = Sees thread n old new

-- The thread with this number, if the event is its leave.
abbrev pub leaving : List Thread → ℕ → Event → Option Thread
leaving threads n (Ask Leave) = slice_get threads n
leaving threads n event = None

-- Of an entry that is a leave: where its thread has ended.
abbrev pub SeesLeave : List Thread → ℕ → Event → List (Option ThreadSnapshot) → List (Option ThreadSnapshot) → Type 0
SeesLeave threads n event old new = SeesOf (leaving threads n event) n old new

-- It is of the same log, before the same entry, with the same bytes wanted.
pub record IsOfSame (old new : Moment) : Type 0 where
  pub log : new.log ≡ old.log
  pub at : new.at ≡ old.at
  pub wanted : new.wanted ≡ old.wanted
  pub short : old.is_short ≡ true → new.is_short ≡ true

-- The queue, the bytes and where threads stand are as before.
pub record KeepsRound (old new : Moment) : Type 0 where
  pub queue : new.queue ≡ old.queue
  pub bytes : new.bytes ≡ old.bytes
  pub memory : new.memory ≡ old.memory
  pub here : new.here ≡ old.here

-- From the moment on a thread is seen that left by the last of so many entries.
abbrev pub SeesLeft : Moment → ℕ → List Thread → Moment → Type 0
SeesLeft old entries threads new = (last : ℕ) (made : Entry) → entries ≡ last + 1 → old.at ≤ last
    → slice_get old.log.now last ≡ Some made → new.is_short ≡ false
    → SeesLeave threads made.thread made.event old.next.items new.next.items

-- Behind so many entries, the walk that stands there is looked at where the moment is, and nowhere else; from there on
-- a thread is seen that left by the last one.
pub record SeesCame (old : Moment) (entries : ℕ) (walk : Walk Thread) (new : Moment) : Type 0 where
  pub same : IsOfSame old new
  pub came : new.came ≡ entries
  pub there : entries ≡ old.at → new.is_short ≡ false → IsRound new walk
  pub elsewhere : entries ≢ old.at → KeepsRound old new
  pub before : entries ≤ old.at → new.next ≡ old.next
  pub left : SeesLeft old entries walk.threads.items new

-- What a thread wants first from this moment on, it wants where it stands; before that nothing is seen of it.
pub record SeesWanted (old : Moment) (n : ℕ) (thread : Thread) (new : Moment) : Type 0 where
  pub same : IsOfSame old new
  pub came : new.came ≡ old.came
  pub round : KeepsRound old new
  pub before : old.came < old.at → new ≡ old
  pub first : old.at ≤ old.came → new.is_short ≡ false → Sees thread n old.next.items new.next.items

-- Where a thread stands that comes to this entry from the moment on: where it is as long as that is an answer, which is to
-- come, else where it comes to its very next one.
abbrev pub seats_for : Moment → Event → List (Option ThreadSnapshot)
seats_for m (Told answer) = m.here.items
seats_for m event = m.next.items

abbrev pub standing_at : Moment → Entry → Option ThreadSnapshot
standing_at m first = option_and_then (λ s. s) (slice_get (seats_for m first.event) first.thread)

-- What a moment makes of what it sees of a walk.
abbrev pub MomentSees : Moment → Sight Thread → Moment → Type 0
MomentSees old (Came entries walk) new = SeesCame old entries walk new
MomentSees old (Settled n turn) new = new ≡ old
MomentSees old (Wanted entry thread memory) new = SeesWanted old entry.thread thread new
