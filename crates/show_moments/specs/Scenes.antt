-- What is told of a moment.
use Rattle.std.specs.Prelude.{ℕ, ◌≡◌, ◌≤◌, ◌<◌, ◌+◌, ◌-◌, ◌^◌, ◌==◌, ◌||◌, not, min, zero, suc, nat_le, nat_lt, Bool, true, false}
use Rattle.std.specs.Prelude.{if◌then◌else◌, cond, List, [], ◌∷◌, ◌++◌, map, filter_map, flat_map, find, length, option_to_list}
use Rattle.std.specs.Prelude.{Option, Some, None, IsSome, String, option_and_then, option_map, string_bytes}
use Rattle.std.specs.Borrow.{Bor}
use Rattle.std.specs.Global.{Global, Vec}
use Rattle.std.specs.List.{AllZip, enumerate_from, slice_get, list_any}
use Rattle.types.specs.declared.event.Event.{Event}
use Rattle.types.specs.declared.event.Event.TheVariants.{Ask, Told}
use Rattle.types.specs.declared.event.Question.TheVariants.{Leave}
use Rattle.types.specs.declared.event.Entry.{Entry}
use Rattle.types.specs.declared.limits.TheConstants.{MOST_THREADS}
use Rattle.types.specs.declared.parts.Parts.{Parts}
use Rattle.types.specs.declared.value.ValType.{ValType}
use Rattle.waiters.specs.declared.kept.KeptQueue.{KeptQueue}
use Rattle.race_history.specs.declared.race.Race.{Race}
use Rattle.selection.specs.declared.choice.NumberSpan.{NumberSpan}
use Rattle.selection.specs.declared.spans.Spans.{Spans}
use Rattle.selection.specs.Choices.{is_left_out, touched}
use Rattle.validate.specs.Operands.{OwnOperandsAt}
use Rattle.validate_module.specs.Own.{FindsLocals}
use Rattle.show_text.specs.declared.context.Context.{Context}
use Rattle.show_text.specs.declared.context.Context.TheVariants.{Asked}
use Rattle.show_rows.specs.declared.listing.Shown.{Shown}
use Rattle.show_rows.specs.declared.listing.Story.{Story}
use Rattle.show_rows.specs.Listing.{context_at, made_at}
use Rattle.show_rows.specs.Spots.{IsSpotOf, named_offset, range_at}
use Rattle.show_rows.specs.Around.{lines_around}
use Rattle.show_spots.specs.declared.around.Around.{Around}
use Rattle.show_rows.specs.declared.code.CodeMap.{CodeMap}
use Rattle.interp.specs.declared.place.CodePlace.{CodePlace}
use Rattle.dwarf_units.specs.Spans.{holds}
use Rattle.dwarf_frames.specs.declared.frames.CallFrame.{CallFrame}
use Rattle.dwarf_frames.specs.declared.kinds.ValueKind.{ValueKind}
use Rattle.dwarf_frames.specs.declared.values.FrameValue.{FrameValue}
use Rattle.show_named.specs.declared.data_map.DataMap.{DataMap}
use Rattle.show_named.specs.Lasts.{IsLastIfAny}
use Rattle.show_named.specs.declared.lasts.Act.TheVariants as acts
use Rattle.show_told.specs.declared.functions.ToldFunction.{ToldFunction}
use Rattle.show_told.specs.declared.values.ToldNumber.{ToldNumber}
use Rattle.show_told.specs.declared.values.ToldValue.{ToldValue}
use Rattle.show_told.specs.declared.values.TypedWord.{TypedWord}
use Rattle.show_moments.specs.declared.moment.Moment.{Moment}
use Rattle.show_moments.specs.declared.scene.MomentView.{MomentView}
use Rattle.show_moments.specs.declared.scene.Scene.{Scene}
use Rattle.show_moments.specs.declared.standing.ThreadSnapshot.{ThreadSnapshot}
use Rattle.show_moments.specs.declared.standing.OpenFunction.{OpenFunction}
use Rattle.show_moments.specs.declared.told.Stance.{Stance}
use Rattle.show_moments.specs.declared.told.Stance.TheVariants as stances
use Rattle.show_moments.specs.declared.told.ToldMoment.{ToldMoment}
use Rattle.show_moments.specs.declared.told.ToldNext.{ToldNext}
use Rattle.show_moments.specs.declared.told.ToldThread.{ToldThread}
use Rattle.show_moments.specs.Moments.{standing_at}
use Rattle.show_moments.specs.Opened.{IsOpenFunction}
use Rattle.show_moments.specs.Values.{has_parts, is_pointer, is_signed, number_of}

-- A moment of a run of a module, with what is shown of its record, what the log says, what a debug section says, whether all
-- locals and operands are listed, and which memory is left out.
pub record Seen : Type 0 where
  pub m : Parts
  pub shown : Shown
  pub map : DataMap
  pub raw : Bool
  pub left_out : Option Spans
  pub story : Story
  pub moment : Moment

abbrev pub seen_by : MomentView → Story → Moment → Seen
seen_by v story moment = record {
  m = v.valid.now.parts;
  shown = v.shown;
  map = v.map.now;
  raw = v.is_raw;
  left_out = v.left_out.now;
  story = story;
  moment = moment;
}

abbrev pub seen : Scene → Seen
seen s = seen_by s.view s.story.now s.moment.now

abbrev pub log_of : Seen → List Entry
log_of s = s.shown.record.now.log

-- Thread 0 is there from the start, and the others stand in the queue with their arguments.
abbrev pub is_spawned : Option KeptQueue → ℕ → Bool
is_spawned None thread = false
is_spawned (Some queue) thread = nat_le thread (length queue.args.items)

abbrev pub is_asleep : Option KeptQueue → ℕ → Bool
is_asleep None thread = false
is_asleep (Some queue) thread = list_any (λ s. s.thread == thread) queue.sleepers.items

abbrev pub thread_at : List Entry → ℕ → Option ℕ
thread_at log at = option_map (λ made. made.thread) (slice_get log at)

-- Where the entry at a place was asked for: of an answer that is the place of its question, of another one its own.
abbrev pub asked_at : Seen → ℕ → ℕ
asked_at s at = made_at (context_at s.story at) at

abbrev pub touches_left_out : Option Spans → Option Entry → Bool
touches_left_out out None = false
touches_left_out out (Some made) = is_left_out out made.event

-- An entry from the moment on isn't left out where it touches no memory that is; an answer, where its question touches none,
-- or was asked before the moment: then its thread sleeps or is owed the answer there, and that is told.
abbrev pub is_beside : Seen → ℕ → Bool
is_beside s at = nat_lt (asked_at s at) s.moment.at || not (touches_left_out s.left_out (slice_get (log_of s) (asked_at s at)))

-- The entry of this place is one of the thread's that isn't left out.
pub record IsBesideAt (s : Seen) (thread at : ℕ) : Type 0 where
  pub own : thread_at (log_of s) at ≡ Some thread
  pub beside : is_beside s at ≡ true

-- The thread's first entry from the moment on that isn't left out, if it has one. One that isn't gone has: it leaves at last,
-- and that touches no bytes.
abbrev pub IsNextOf : Seen → ℕ → Option ℕ → Type 0
IsNextOf s thread None = (at : ℕ) → s.moment.at ≤ at → IsBesideAt s thread at → ⊥
IsNextOf s thread (Some at) = (s.moment.at ≤ at) × IsBesideAt s thread at
    × ((k : ℕ) → s.moment.at ≤ k → k < at → IsBesideAt s thread k → ⊥)

-- Of a thread whose answer comes next: on what it sleeps, by its context; else it is owed that.
abbrev pub owed : Bool → Option Context → Stance
owed true (Some (Asked question asked)) = stances.Asleep asked
owed sleeps context = stances.Owed

-- How a thread stands to that entry. An answer is due, since its question was asked before the moment, else that would be told;
-- and a thread that wants something, or is at its end, may first do more that is left out.
abbrev pub stance_at : Seen → ℕ → ℕ → Event → Stance
stance_at s at thread (Told answer) =
    owed (is_asleep s.moment.queue thread) (slice_get s.story.contexts.items at)
stance_at s at thread (Ask Leave) = stances.Ends
stance_at s at thread event = stances.Wants

abbrev pub types_of : Option (Vec ValType) → List ValType
types_of None = []
types_of (Some types) = types.items

-- Words with the types at their places.
abbrev pub typed_word : List ValType → ℕ × ℕ → TypedWord
typed_word types (place, word) = record { of = slice_get types place; word = word }

abbrev pub typed_words : List ℕ → List ValType → List TypedWord
typed_words words types = map (typed_word types) (enumerate_from 0 words)

-- They are listed where that is asked for, or no functions are known.
abbrev pub listed : Seen → CallFrame → List ℕ → List ValType → List TypedWord
listed s frame words types = cond (s.raw || not frame.is_known) (typed_words words types) []

-- The lines of source around a place.
abbrev pub around_of : CodeMap → CodePlace → Around
around_of code place = lines_around code.sources.files.items (range_at code place)

-- The name of the static data to which a pointer points, if it does.
pub record Points (map : DataMap) (kind : ValueKind) (number : ℕ) : Type 0 where
  pub points : is_pointer kind ≡ true
  pub within : IsSome (find (holds number) map.spans.items.items)

abbrev pub IsTarget : Seen → ValueKind → ℕ → Option (String Global) → Type 0
IsTarget s kind number None = Unit {0}
IsTarget s kind number (Some name) = Points s.map kind number

-- What is told of a value: its type and name, its number, and to what it points.
abbrev pub told_number : FrameValue → ℕ → ToldNumber
told_number v number = record { is_signed = is_signed v.kind; bits = v.bits; number = number }

pub record IsToldOf (v : FrameValue) (number : Option ToldNumber) (target : Option (String Global)) (told : ToldValue) : Type 0 where
  pub label : string_bytes told.label ≡ string_bytes v.label
  pub number_is : told.number ≡ number
  pub target_is : told.target ≡ target

-- It is told if it is a number in its frame.
abbrev pub IsNumber : Seen → FrameValue → Option ℕ → Option ToldValue → Type 0
IsNumber s v (Some number) (Some told) =
    (target : Option (String Global)) × IsTarget s v.kind number target × IsToldOf v (Some (told_number v number)) target told
IsNumber s v None None = Unit {0}
IsNumber s v number told = ⊥

-- One with parts stands for those that aren't told. The number is that in this frame, and in the memory of the moment.
abbrev pub IsValueBy : Seen → OpenFunction → FrameValue → Bool → Option ToldValue → Type 0
IsValueBy s o v true (Some told) = IsToldOf v None None told
IsValueBy s o v true None = ⊥
IsValueBy s o v false told = IsNumber s v (number_of o s.moment.memory.items v) told

abbrev pub IsValue : Seen → OpenFunction → FrameValue → Option ToldValue → Type 0
IsValue s o v = IsValueBy s o v (has_parts v.kind)

-- Those of these values that are told, in order.
abbrev pub AreValues : Seen → OpenFunction → List FrameValue → List ToldValue → Type 0
AreValues s o values told = (all : List (Option ToldValue)) × AllZip (IsValue s o) values all × (told ≡ filter_map (λ v. v) all)

-- An open function: where it is, its locals and operands, each with its type, the lines of source around it, and the values
-- that the debug section has of that place.
pub record IsFunction (s : Seen) (o : OpenFunction) (told : ToldFunction) : Type 0 where
  pub frame : CallFrame
  pub there : frame.offset ≡ named_offset s.shown.code.now o.place
  pub spot : IsSpotOf s.shown.code.now o.place told.spot
  pub chain : told.chain ≡ frame.chain
  pub locals : Option (Vec ValType)
  pub locals_are : FindsLocals s.m o.place.function locals
  pub operands : Option (Vec ValType)
  pub operands_are : OwnOperandsAt s.m o.place.function o.place.instr operands
  pub has_locals : told.locals.items ≡ listed s frame o.locals.now (types_of locals)
  pub has_operands : told.operands.items ≡ listed s frame o.operands.now (types_of operands)
  pub around : told.around ≡ around_of s.shown.code.now o.place
  pub values : AreValues s o frame.values.items told.values.items

-- That of the one with a number,
abbrev pub IsFunctionOf : Seen → ThreadSnapshot → ℕ → ToldFunction → Type 0
IsFunctionOf s standing number told = (o : OpenFunction) × IsOpenFunction standing number o × IsFunction s o told

-- and of all below a number, the one with the highest first.
abbrev pub AreFunctions : Seen → ThreadSnapshot → ℕ → List ToldFunction → Type 0
AreFunctions s standing zero told = told ≡ []
AreFunctions s standing (suc number) told = (first : ToldFunction) × (others : List ToldFunction) × (told ≡ first ∷ others)
    × IsFunctionOf s standing number first × AreFunctions s standing number others

abbrev pub depth : ThreadSnapshot → ℕ
depth standing = min (length standing.callers.items + 1) (2 ^ 64 - 1)

-- Those of a thread that stands somewhere.
abbrev pub IsStanding : Seen → Option ThreadSnapshot → List ToldFunction → Type 0
IsStanding s None told = told ≡ []
IsStanding s (Some standing) told = AreFunctions s standing (depth standing) told

abbrev pub standing_of : Option (Bor ThreadSnapshot) → Option ThreadSnapshot
standing_of standing = option_map (λ s. s.now) standing

-- Of an answer it is the question that comes to bytes.
abbrev pub touched_at : Seen → ℕ → Option NumberSpan
touched_at s at = option_and_then (λ made. touched made.event) (slice_get (log_of s) (asked_at s at))

-- The last entry before the moment that wrote one of these bytes, if there are some.
abbrev pub IsLastThere : Seen → Option NumberSpan → Option ℕ → Type 0
IsLastThere s None last = last ≡ None
IsLastThere s (Some addrs) last = IsLastIfAny (acts.Write addrs) (log_of s) s.moment.at last

-- What a thread comes to: its first entry from the moment on that isn't left out, how it stands to that, who wrote last the
-- bytes to which it comes, and its open functions where it stands, which is where it comes to its very next entry.
pub record IsNext (s : Seen) (at : ℕ) (next : ToldNext) : Type 0 where
  pub made : Entry
  pub stands : slice_get (log_of s) at ≡ Some made
  pub at_is : next.at ≡ at
  pub stance : next.stance ≡ stance_at s at made.thread made.event
  pub touches : next.touched ≡ touched_at s at
  pub last : IsLastThere s (touched_at s at) next.last
  pub functions : IsStanding s (standing_at s.moment made) next.functions.items

abbrev pub IsNextBy : Seen → Option ℕ → Option ToldNext → Type 0
IsNextBy s (Some at) (Some next) = IsNext s at next
IsNextBy s None None = Unit {0}
IsNextBy s at next = ⊥

-- That of a thread; nothing where it is gone.
abbrev pub IsNextIfAny : Seen → ℕ → Option ToldNext → Type 0
IsNextIfAny s thread next = (at : Option ℕ) × IsNextOf s thread at × IsNextBy s at next

-- Of a thread that wasn't spawned nothing is told.
abbrev pub IsThreadBy : Seen → ℕ → Bool → Option ToldThread → Type 0
IsThreadBy s thread false None = Unit {0}
IsThreadBy s thread true (Some told) = (told.thread ≡ thread) × IsNextIfAny s thread told.next
IsThreadBy s thread spawned told = ⊥

abbrev pub IsThread : Seen → ℕ → Option ToldThread → Type 0
IsThread s thread = IsThreadBy s thread (is_spawned s.moment.queue thread)

-- The threads below a number, in order.
unfoldable pub AreThreads : Seen → ℕ → List ToldThread → Type 0
AreThreads s zero told = told ≡ []
AreThreads s (suc thread) told = (front : List ToldThread) × (last : Option ToldThread) × (told ≡ front ++ option_to_list last)
    × AreThreads s thread front × IsThread s thread last

-- The other entry of a race, if this one is one of the two.
abbrev pub other_of : ℕ → Race → Option ℕ
other_of at race = if race.first == at then Some race.second else if race.second == at then Some race.first else None

abbrev pub others_of : ℕ → Race → List ℕ
others_of at race = option_to_list (other_of at race)

-- What is told of a moment: what each thread comes to, and with which entries that of the moment races, of these races.
pub record IsTold (s : Seen) (races : List Race) (told : ToldMoment) : Type 0 where
  pub threads : AreThreads s MOST_THREADS told.threads.items
  pub others : told.races.items ≡ flat_map (others_of s.moment.at) races
