-- How the threads of a run ended, in lines or as an object.
use Rattle.std.specs.Prelude.{ℕ, ◌≡◌, Bool, true, false, List, ◌++◌, codes, flat_map}
use Rattle.std.specs.Prelude.{Option, Some, None, option_and_then}
use Rattle.std.specs.Fmt.{decimal}
use Rattle.std.specs.Global.{Vec}
use Rattle.std.specs.List.{AllZip, enumerate_from, slice_get}
use Rattle.std.specs.Io.KnownBytes.{Appends}
use Rattle.types.specs.declared.outcome.Outcome.{Outcome}
use Rattle.types.specs.declared.outcome.Outcome.TheVariants as outcomes
use Rattle.types.specs.declared.outcome.ThreadReport.{ThreadReport}
use Rattle.types.specs.Outcomes.{outcome_text}
use Rattle.report_command.specs.declared.form.Form.{Form}
use Rattle.report_command.specs.declared.form.Form.TheVariants.{Lines, Json}
use Rattle.show_json.specs.Json.{json_line}
use Rattle.show_json.specs.Moments.{end_json}
use Rattle.show_json.specs.declared.moments.EndShown.{EndShown}
use Rattle.show_json.specs.declared.moments.EndedThread.{EndedThread}
use Rattle.show_json.specs.declared.moments.LastRow.{LastRow}
use Rattle.show_json.specs.declared.moments.WaitsFor.{WaitsFor}
use Rattle.show_moments.specs.Scenes.{IsStanding, Seen, seen_by}
use Rattle.show_moments.specs.Texts.{dump_text}
use Rattle.show_moments.specs.declared.moment.Moment.{Moment}
use Rattle.show_moments.specs.declared.scene.MomentView.{MomentView}
use Rattle.show_moments.specs.declared.standing.ThreadSnapshot.{ThreadSnapshot}
use Rattle.show_rows.specs.Listing.{IsStoryOf, line_at}
use Rattle.show_rows.specs.declared.listing.Story.{Story}
use Rattle.show_told.specs.Functions.{function_text}
use Rattle.show_waits.specs.Cycles.{AreToldCycles}
use Rattle.show_waits.specs.Stands.{TouchesNothing}
use Rattle.show_waits.specs.Waits.{IsToldWait, WritesWaits}
use Rattle.show_waits.specs.declared.waits.ToldWait.{ToldWait}
use Rattle.report_objects.specs.RaceObjects.{IsNamedRowAt}
use Rattle.report_objects.specs.Scenes.{IsLastRow, IsMemoryOf}
use Rattle.report_objects.specs.declared.ends.ToldEnd.{ToldEnd}

-- Where a thread stands at a moment, and at the end: only one that trapped or was stopped stands somewhere.
abbrev pub standing_in : Moment → ℕ → Option ThreadSnapshot
standing_in moment thread = option_and_then (λ s. s) (slice_get moment.here.items thread)

abbrev pub standing_by : Outcome → Option ThreadSnapshot → Option ThreadSnapshot
standing_by (outcomes.Done value) standing = None
standing_by outcome standing = standing

-- How a thread ended: its open functions where it stood.
pub record IsEnd (s : Seen) (report : ℕ × ThreadReport) (told : ToldEnd) : Type 0 where
  pub thread : told.thread ≡ report.0
  pub outcome : told.outcome ≡ report.1.outcome
  pub functions : IsStanding s (standing_by report.1.outcome (standing_in s.moment report.0)) told.functions.items

-- How these threads ended, from thread 0 on.
abbrev pub AreEnds : Seen → List ThreadReport → List ToldEnd → Type 0
AreEnds s reports ends = AllZip (IsEnd s) (enumerate_from 0 reports) ends

-- A thread in lines.
abbrev pub end_text : ToldEnd → List ℕ
end_text told = codes "t" ++ (decimal told.thread ++ (codes " is gone: " ++ (outcome_text told.outcome
    ++ (codes "\n" ++ flat_map function_text told.functions.items))))

abbrev pub WritesEnds : List ToldEnd → Option (List ℕ) → Option (List ℕ) → Type 0
WritesEnds ends old new = Appends old new (flat_map end_text ends)

-- All of them, what those wait for that were stopped, and the bytes.
pub record WritesEndLines (s : Seen) (ends : List ToldEnd) (old new : Option (List ℕ)) : Type 0 where
  pub said : Option (List ℕ)
  pub says : WritesEnds ends old said
  pub waited : Option (List ℕ)
  pub waits : WritesWaits s.shown s.map s.story s.left_out said waited
  pub bytes : Appends waited new (dump_text s.moment.wanted.addr s.moment.bytes.items)

-- Where the last write there is the thread's own, that of another thread.
abbrev pub IsOtherBy : Seen → Bool → Option ℕ → Option LastRow → Type 0
IsOtherBy s false other row = row ≡ None
IsOtherBy s true other None = ⊥
IsOtherBy s true other (Some row) = IsLastRow s.shown s.map s.story other row

abbrev pub IsOtherRow : Seen → ToldWait → Option LastRow → Type 0
IsOtherRow s wait row = IsOtherBy s wait.is_own wait.other row

-- What a thread waits for.
pub record IsWaitObject (s : Seen) (wait : ToldWait) (w : WaitsFor) : Type 0 where
  pub entry : IsNamedRowAt s.shown s.map s.story wait.stand.last w.entry
  pub since : w.since ≡ line_at s.shown wait.stand.since
  pub times : w.times ≡ wait.stand.times
  pub last_write : IsLastRow s.shown s.map s.story wait.written w.last_write
  pub other_write : IsOtherRow s wait w.other_write
  pub last_notify : IsLastRow s.shown s.map s.story wait.notified w.last_notify

-- That of one that was stopped and touched bytes, beside those that are left out.
abbrev pub IsWaitsFor : Seen → ℕ → Outcome → Option WaitsFor → Type 0
IsWaitsFor s thread (outcomes.Stop stop) (Some w) =
    (wait : ToldWait) × IsToldWait thread s.shown.record.now.log s.left_out wait × IsWaitObject s wait w
IsWaitsFor s thread (outcomes.Stop stop) None = TouchesNothing thread s.shown.record.now.log s.left_out
IsWaitsFor s thread outcome w = w ≡ None

-- A thread in the object.
pub record IsEndedThread (s : Seen) (told : ToldEnd) (t : EndedThread) : Type 0 where
  pub thread : t.thread ≡ told.thread
  pub outcome : t.outcome ≡ told.outcome
  pub functions : t.functions.now ≡ told.functions.items
  pub waits : IsWaitsFor s told.thread told.outcome t.waits

abbrev pub AreEndedThreads : Seen → List ToldEnd → List EndedThread → Type 0
AreEndedThreads s ends threads = AllZip (IsEndedThread s) ends threads

-- What was written is the object of these threads, of the cycles in which threads wait for one another, and of the bytes
-- that are wanted.
pub record WritesEndOf (s : Seen) (threads : List EndedThread) (cycles : List (Vec ℕ)) (old new : Option (List ℕ)) : Type 0 where
  pub end : EndShown
  pub threads_are : end.threads.now ≡ threads
  pub cycles_are : end.cycles.now ≡ cycles
  pub memory : IsMemoryOf s.moment end.memory
  pub object : Appends old new (json_line (end_json end))

-- The object: all of them, the cycles in which threads wait for one another, and the bytes that are wanted.
pub record WritesEndObject (s : Seen) (ends : List ToldEnd) (old new : Option (List ℕ)) : Type 0 where
  pub end : EndShown
  pub threads : AreEndedThreads s ends end.threads.now
  pub cycles : AreToldCycles s.shown.record.now.log s.shown.record.now.ends s.left_out end.cycles.now
  pub memory : IsMemoryOf s.moment end.memory
  pub object : Appends old new (json_line (end_json end))

abbrev pub WritesEndIn : Form → Seen → List ToldEnd → Option (List ℕ) → Option (List ℕ) → Type 0
WritesEndIn Lines s ends old new = WritesEndLines s ends old new
WritesEndIn Json s ends old new = WritesEndObject s ends old new

-- How the threads of a record's run ended is written.
pub record WritesEnd (form : Form) (view : MomentView) (moment : Moment) (old new : Option (List ℕ)) : Type 0 where
  pub story : Story
  pub of_log : IsStoryOf view.shown.record.now.log story
  pub ends : List ToldEnd
  pub are_ends : AreEnds (seen_by view story moment) view.shown.record.now.ends ends
  pub writes : WritesEndIn form (seen_by view story moment) ends old new
