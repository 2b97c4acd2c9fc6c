-- Moments of a run, and a last write.
use Rattle.std.specs.Prelude.{ℕ, ℤ, pos, negsuc, List, [], ◌∷◌, codes, Option, Some, None}
use Rattle.std.specs.Global.{Vec}
use Rattle.hex.specs.Hex.{encode_lower}
use Rattle.shared_memory.specs.declared.sleeper.Sleeper.{Sleeper}
use Rattle.show_json.specs.declared.moments.EndShown.{EndShown}
use Rattle.show_json.specs.declared.moments.EndedThread.{EndedThread}
use Rattle.show_json.specs.declared.moments.LastRow.{LastRow}
use Rattle.show_json.specs.declared.moments.MemoryBytes.{MemoryBytes}
use Rattle.show_json.specs.declared.moments.MomentShown.{MomentShown}
use Rattle.show_json.specs.declared.moments.MomentThread.{MomentThread}
use Rattle.show_json.specs.declared.moments.ThreadState.{ThreadState}
use Rattle.show_json.specs.declared.moments.ThreadState.TheVariants.{Wants, Ends, Owed, Asleep, Gone}
use Rattle.show_json.specs.declared.moments.WaitsFor.{WaitsFor}
use Rattle.show_json.specs.declared.rows.NamedRow.{NamedRow}
use Rattle.show_json.specs.Outcomes.{outcome_json}
use Rattle.show_json.specs.Functions.{function_json}
use Rattle.show_json.specs.Json.{Json, Field, null, number, text, is, is_given, are_some, list_of, object_of}
use Rattle.show_json.specs.Rows.{row_json}

-- How a thread stands to its first entry.
abbrev pub state_words : ThreadState → List ℕ
state_words Wants = codes "wants"
state_words Ends = codes "ends"
state_words Owed = codes "owed"
state_words Asleep = codes "asleep"
state_words Gone = codes "gone"

abbrev pub state_json : ThreadState → Json
state_json state = text (state_words state)

-- The last entry that did something: null where none did.
abbrev pub made_json : Option NamedRow → Json
made_json None = null
made_json (Some row) = row_json row

abbrev pub last_json : LastRow → Json
last_json last = made_json last.0

-- A thread at a moment: how it stands to its first entry from there on, and that; the question on which it sleeps; the last
-- write of the bytes to which it comes; and its open functions.
abbrev pub thread_fields : MomentThread → List Field
thread_fields t =
    is (codes "thread") (number t.thread)
    ∷ is (codes "state") (state_json t.state)
    ∷ is_given (codes "entry") row_json t.entry
    ∷ is_given (codes "asked") row_json t.asked
    ∷ is_given (codes "last_write") last_json t.last_write
    ∷ are_some (codes "functions") function_json t.functions.now
    ∷ []

abbrev pub thread_json : MomentThread → Json
thread_json t = object_of (thread_fields t)

-- A thread that sleeps, at which address, and for how many nanoseconds at most.
abbrev pub timeout_of : ℤ → Option ℕ
timeout_of (pos n) = Some n
timeout_of (negsuc n) = None

abbrev pub sleeper_fields : Sleeper → List Field
sleeper_fields s =
    is (codes "thread") (number s.thread)
    ∷ is (codes "address") (number s.addr)
    ∷ is_given (codes "timeout") number (timeout_of s.timeout)
    ∷ []

abbrev pub sleeper_json : Sleeper → Json
sleeper_json s = object_of (sleeper_fields s)

-- Bytes of the memory: the first one's address, and two digits of base 16 for each.
abbrev pub memory_json : MemoryBytes → Json
memory_json m = object_of (is (codes "address") (number m.addr)
    ∷ is (codes "bytes") (text (encode_lower m.bytes.now)) ∷ [])

-- What threads and memory are like before an entry: its line, the threads, the entries with which it races, who sleeps, and
-- the bytes that are wanted.
abbrev pub moment_fields : MomentShown → List Field
moment_fields m =
    is (codes "status") (number 0)
    ∷ is (codes "line") (number m.line)
    ∷ is (codes "threads") (list_of thread_json m.threads.now)
    ∷ are_some (codes "races") row_json m.races.now
    ∷ are_some (codes "asleep") sleeper_json m.asleep.now
    ∷ is_given (codes "memory") memory_json m.memory
    ∷ []

abbrev pub moment_json : MomentShown → Json
moment_json m = object_of (moment_fields m)

-- Where a thread stood that was stopped: its last entry that touches bytes, the line since which it touches no others, how
-- often it touched them, and who wrote them and notified them last.
abbrev pub waits_fields : WaitsFor → List Field
waits_fields w =
    is (codes "entry") (row_json w.entry)
    ∷ is (codes "since") (number w.since)
    ∷ is (codes "times") (number w.times)
    ∷ is (codes "last_write") (last_json w.last_write)
    ∷ is_given (codes "other_write") last_json w.other_write
    ∷ is (codes "last_notify") (last_json w.last_notify)
    ∷ []

abbrev pub waits_json : WaitsFor → Json
waits_json w = object_of (waits_fields w)

-- How a thread ended; of one that trapped or was stopped its open functions, and what one waits for that was stopped.
abbrev pub ended_fields : EndedThread → List Field
ended_fields t =
    is (codes "thread") (number t.thread)
    ∷ is (codes "outcome") (outcome_json t.outcome)
    ∷ are_some (codes "functions") function_json t.functions.now
    ∷ is_given (codes "waits") waits_json t.waits
    ∷ []

abbrev pub ended_json : EndedThread → Json
ended_json t = object_of (ended_fields t)

abbrev pub cycle_json : Vec ℕ → Json
cycle_json cycle = list_of number cycle.items

-- How the threads of a run ended, which of them wait for one another, and the bytes that are wanted.
abbrev pub end_fields : EndShown → List Field
end_fields e =
    is (codes "status") (number 0)
    ∷ is (codes "threads") (list_of ended_json e.threads.now)
    ∷ are_some (codes "cycles") cycle_json e.cycles.now
    ∷ is_given (codes "memory") memory_json e.memory
    ∷ []

abbrev pub end_json : EndShown → Json
end_json e = object_of (end_fields e)

-- A last write.
abbrev pub wrote_json : LastRow → Json
wrote_json last = object_of (is (codes "status") (number 0) ∷ is (codes "last_write") (last_json last) ∷ [])
