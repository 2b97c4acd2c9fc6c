-- What an object has of a moment, and of a last write.
use Rattle.std.specs.Prelude.{ℕ, ◌≡◌, ◌<◌, ◌≤◌, List, [], length, Option, Some, None}
use Rattle.std.specs.List.{AllZip}
use Rattle.std.specs.Io.KnownBytes.{Appends}
use Rattle.race_history.specs.declared.race.Race.{Race}
use Rattle.selection.specs.declared.choice.NumberSpan.{NumberSpan}
use Rattle.shared_memory.specs.declared.sleeper.Sleeper.{Sleeper}
use Rattle.waiters.specs.declared.kept.KeptQueue.{KeptQueue}
use Rattle.show_json.specs.Json.{json_line}
use Rattle.show_json.specs.Moments.{moment_json, wrote_json}
use Rattle.show_json.specs.declared.moments.LastRow.{LastRow}
use Rattle.show_json.specs.declared.moments.MemoryBytes.{MemoryBytes}
use Rattle.show_json.specs.declared.moments.MomentShown.{MomentShown}
use Rattle.show_json.specs.declared.moments.MomentThread.{MomentThread}
use Rattle.show_json.specs.declared.moments.ThreadState.{ThreadState}
use Rattle.show_json.specs.declared.moments.ThreadState.TheVariants as states
use Rattle.show_json.specs.declared.rows.NamedRow.{NamedRow}
use Rattle.show_moments.specs.Scenes.{IsTold, Seen, seen_by}
use Rattle.show_moments.specs.declared.moment.Moment.{Moment}
use Rattle.show_moments.specs.declared.scene.MomentView.{MomentView}
use Rattle.show_moments.specs.declared.told.Stance.{Stance}
use Rattle.show_moments.specs.declared.told.Stance.TheVariants as stances
use Rattle.show_moments.specs.declared.told.ToldMoment.{ToldMoment}
use Rattle.show_moments.specs.declared.told.ToldNext.{ToldNext}
use Rattle.show_moments.specs.declared.told.ToldThread.{ToldThread}
use Rattle.show_named.specs.Lasts.{IsLastIfAny}
use Rattle.show_named.specs.declared.data_map.DataMap.{DataMap}
use Rattle.show_named.specs.declared.lasts.Act.TheVariants as acts
use Rattle.show_named.specs.declared.lasts.SoughtWrite.{SoughtWrite}
use Rattle.show_rows.specs.Listing.{IsStoryOf, line_at}
use Rattle.show_rows.specs.declared.listing.Shown.{Shown}
use Rattle.show_rows.specs.declared.listing.Story.{Story}
use Rattle.report_objects.specs.RaceObjects.{IsNamedRowAt}

-- The entry at a place of the log, if there is one.
abbrev pub IsRowIfAny : Shown → DataMap → Story → Option ℕ → Option NamedRow → Type 0
IsRowIfAny shown map story None row = row ≡ None
IsRowIfAny shown map story (Some at) None = at < length shown.record.now.log → ⊥
IsRowIfAny shown map story (Some at) (Some row) = IsNamedRowAt shown map story at row

abbrev pub IsLastRow : Shown → DataMap → Story → Option ℕ → LastRow → Type 0
IsLastRow shown map story place last = IsRowIfAny shown map story place last.0

abbrev pub IsRow : Seen → Option ℕ → Option NamedRow → Type 0
IsRow s place row = IsRowIfAny s.shown s.map s.story place row

-- How a thread stands to its first entry.
abbrev pub state_of : Stance → ThreadState
state_of stances.Wants = states.Wants
state_of stances.Ends = states.Ends
state_of stances.Owed = states.Owed
state_of (stances.Asleep asked) = states.Asleep

-- The question on which it sleeps, if it does.
abbrev pub IsAskedRow : Seen → Stance → Option NamedRow → Type 0
IsAskedRow s (stances.Asleep asked) row = IsRow s (Some asked) row
IsAskedRow s stance row = row ≡ None

-- The last write of the bytes to which a thread comes, if it comes to some.
abbrev pub IsTouchedRow : Seen → Option NumberSpan → Option ℕ → Option LastRow → Type 0
IsTouchedRow s None last row = row ≡ None
IsTouchedRow s (Some addrs) last None = ⊥
IsTouchedRow s (Some addrs) last (Some row) = IsRow s last row.0

-- A thread that comes to something: its first entry, how it stands to that, on what it sleeps, who wrote last, and its open
-- functions.
pub record IsNextObject (s : Seen) (thread : ℕ) (next : ToldNext) (t : MomentThread) : Type 0 where
  pub thread_is : t.thread ≡ thread
  pub state : t.state ≡ state_of next.stance
  pub entry : IsRow s (Some next.at) t.entry
  pub asked : IsAskedRow s next.stance t.asked
  pub last_write : IsTouchedRow s next.touched next.last t.last_write
  pub functions : t.functions.now ≡ next.functions.items

-- One that is gone.
pub record IsGone (thread : ℕ) (t : MomentThread) : Type 0 where
  pub thread_is : t.thread ≡ thread
  pub state : t.state ≡ states.Gone
  pub entry : t.entry ≡ None
  pub asked : t.asked ≡ None
  pub last_write : t.last_write ≡ None
  pub functions : t.functions.now ≡ []

abbrev pub IsThreadBy : Seen → ℕ → Option ToldNext → MomentThread → Type 0
IsThreadBy s thread None t = IsGone thread t
IsThreadBy s thread (Some next) t = IsNextObject s thread next t

abbrev pub IsThreadObject : Seen → ToldThread → MomentThread → Type 0
IsThreadObject s told t = IsThreadBy s told.thread told.next t

-- The entries at these places.
abbrev pub AreRows : Seen → List ℕ → List NamedRow → Type 0
AreRows s places rows = AllZip (IsNamedRowAt s.shown s.map s.story) places rows

abbrev pub asleep_in : Option KeptQueue → List Sleeper
asleep_in None = []
asleep_in (Some queue) = queue.sleepers.items

-- The bytes that are wanted, if some are.
abbrev pub IsMemoryOf : Moment → Option MemoryBytes → Type 0
IsMemoryOf moment None = moment.wanted.count ≡ 0
IsMemoryOf moment (Some memory) = (1 ≤ moment.wanted.count) × (memory.addr ≡ moment.wanted.addr)
    × (memory.bytes.now ≡ moment.bytes.items)

-- The object has what is told of the moment.
pub record IsObjectOf (s : Seen) (told : ToldMoment) (m : MomentShown) : Type 0 where
  pub line : m.line ≡ line_at s.shown s.moment.at
  pub threads : AllZip (IsThreadObject s) told.threads.items m.threads.now
  pub races : AreRows s told.races.items m.races.now
  pub asleep : m.asleep.now ≡ asleep_in s.moment.queue
  pub memory : IsMemoryOf s.moment m.memory

-- What was written is the object of these threads and rows, beside what is seen of the moment.
pub record WritesSceneOf (s : Seen) (threads : List MomentThread) (races : List NamedRow) (old new : Option (List ℕ)) : Type 0 where
  pub moment_is : MomentShown
  pub line : moment_is.line ≡ line_at s.shown s.moment.at
  pub threads_are : moment_is.threads.now ≡ threads
  pub races_are : moment_is.races.now ≡ races
  pub asleep : moment_is.asleep.now ≡ asleep_in s.moment.queue
  pub memory : IsMemoryOf s.moment moment_is.memory
  pub writes : Appends old new (json_line (moment_json moment_is))

-- What was written is the object of what is told.
pub record WritesSeen (s : Seen) (races : List Race) (old new : Option (List ℕ)) : Type 0 where
  pub told : ToldMoment
  pub is_told : IsTold s races told
  pub moment_is : MomentShown
  pub object : IsObjectOf s told moment_is
  pub writes : Appends old new (json_line (moment_json moment_is))

-- What was written is the object of the moment, by what its log tells.
pub record WritesScene (view : MomentView) (moment : Moment) (races : List Race) (old new : Option (List ℕ)) : Type 0 where
  pub story : Story
  pub of_log : IsStoryOf view.shown.record.now.log story
  pub told : WritesSeen (seen_by view story moment) races old new

-- What was written is the object of the last entry before a place that writes a byte at these addresses, or that none does.
pub record WritesLastObject (shown : Shown) (map : DataMap) (story : Story) (sought : SoughtWrite)
    (old new : Option (List ℕ)) : Type 0 where
  pub place : Option ℕ
  pub is_last : IsLastIfAny (acts.Write sought.addrs) shown.record.now.log sought.before place
  pub last : LastRow
  pub row : IsLastRow shown map story place last
  pub writes : Appends old new (json_line (wrote_json last))
