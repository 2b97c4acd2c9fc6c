-- What is printed and kept of a run.
use Rattle.std.specs.Prelude.{ℕ, ◌≡◌, ◌+◌, Bool, true, false, List, [], ◌++◌, codes, Option, is_some}
use Rattle.std.specs.Fmt.{decimal}
use Rattle.std.specs.Bool.{MatchBool}
use Rattle.std.specs.List.{flat_map}
use Rattle.std.specs.Io.KnownBytes.{Appends}
use Rattle.types.specs.declared.value.Value.{Value}
use Rattle.types.specs.declared.outcome.ThreadReport.{ThreadReport}
use Rattle.types.specs.Outcomes.{outcome_text}
use Rattle.types.specs.declared.parts.Parts.{Parts}
use Rattle.spawn_host.specs.Entries.{Takes}
use Rattle.replay_text.specs.declared.parts.RecordParts.{RecordParts}
use Rattle.replay_text.specs.Text.{record_text}
use Rattle.replay_text.specs.Versions.{header_count}
use Rattle.spawn_host.specs.declared.end.EndState.{EndState}
use Rattle.replay.specs.Runs.{IsRunOf}
use Rattle.show_said.specs.Ports.{IsPorts}
use Rattle.show_said.specs.Said.{said}
use Rattle.show_said.specs.declared.said.Said.{Said}
use Rattle.report_lines.specs.Lines.{numbered, thread_lines, pages_line, bytes_line, functions_line, end_lines}
use Rattle.search_endings.specs.Ends.{status_of}
use Rattle.show_json.specs.Json.{json_line}
use Rattle.report_json.specs.Refusals.{accepted_json}
use Rattle.report_json.specs.Ends.{run_json}
use Rattle.report_json.specs.declared.ends.RunEndObject.{RunEndObject}
use Rattle.report_command.specs.declared.form.Form.{Form}
use Rattle.report_command.specs.declared.form.Form.TheVariants.{Lines, Json}
use Rattle.report_command.specs.declared.form.EndLook.{EndLook}
use Rattle.report_command.specs.declared.command_line.RunJob.{RunJob}
use Rattle.replay.specs.Recorded.{RecordsRun}
use Rattle.spawn_host.specs.RunEnds.{EndsRunOnWords}
use Rattle.report_jobs.specs.Arguments.{AreSpelled, texts_in}
use Rattle.report_jobs.specs.Trapped.{TellsTrapsIf}
use Rattle.report_jobs.specs.declared.streams.Streams.{Streams}

-- What a writer has before and after.
pub record WriterChange : Type 0 where
  pub old : Option (List ℕ)
  pub new : Option (List ℕ)

abbrev pub change : Option (List ℕ) → Option (List ℕ) → WriterChange
change old new = record { old = old; new = new }

abbrev pub changed : {W : Type 0} → (W → Option (List ℕ)) → W → W → WriterChange
changed contents old new = change (contents old) (contents new)

-- What each stream of a job has before and after.
pub record Written : Type 0 where
  pub out : WriterChange
  pub err : WriterChange
  pub save : WriterChange
  pub memory : WriterChange

abbrev pub written : {W E S : Type 0} → (W → Option (List ℕ)) → (E → Option (List ℕ)) → (S → Option (List ℕ))
    → Streams W E S → Streams W E S → Written
written out err save old new = record {
  out = changed out old.out new.out;
  err = changed err old.err new.err;
  save = changed save old.save new.save;
  memory = changed save old.memory new.memory;
}

-- What was written are the lines of an end of a run, and the status is its.
pub record Prints (end : EndState) (dump : ℕ) (out : WriterChange) (status : ℕ) : Type 0 where
  pub lines : Appends out.old out.new (end_lines end.threads.items end.pages dump end.bytes.items)
  pub status_is : status ≡ status_of end.threads.items

-- What is written of an accepted module, with so many functions of its own.
abbrev pub accepted_text : Form → ℕ → List ℕ
accepted_text Lines count = functions_line count
accepted_text Json count = json_line (accepted_json count)

-- The line of a thread, with the units that it spent.
abbrev pub units_line : ℕ → ThreadReport → List ℕ
units_line thread report =
    codes "thread " ++ decimal thread ++ codes ": " ++ outcome_text report.outcome
    ++ codes ", units " ++ decimal report.spent ++ codes "\n"

-- The lines of threads, without units or with them.
abbrev pub threads_lines : Bool → List ThreadReport → List ℕ
threads_lines false reports = thread_lines 0 reports
threads_lines true reports = numbered units_line 0 reports

-- The lines of a run: one a thread, the page count, the first bytes.
abbrev pub end_text : Bool → EndState → ℕ → List ℕ
end_text units end dump =
    threads_lines units end.threads.items ++ pages_line end.pages ++ bytes_line dump end.bytes.items

-- What the threads of a run say where that is wanted, by the bytes of its module and its record; else nothing.
abbrev pub IsSaid : List ℕ → RecordParts → Bool → List Said → Type 0
IsSaid bytes r true all =
    (ports : List ℕ) × IsPorts bytes ports × (all ≡ said ports (header_count r.version + 1) r.log)
IsSaid bytes r false all = all ≡ []

-- The line of what a thread says.
abbrev pub said_line : Said → List ℕ
said_line s = codes "t" ++ decimal s.thread ++ codes " says: " ++ s.text ++ codes "\n"

abbrev pub said_lines : List Said → List ℕ
said_lines all = flat_map said_line all

-- An object that has of a run what its threads say, how they ended and what they spent, the page count and the first
-- bytes, so many or all if there are fewer. Its places and hints are any.
pub record IsObjectOf (end : EndState) (dump : ℕ) (all : List Said) (run : RunEndObject) : Type 0 where
  pub threads_are : run.threads.now ≡ end.threads.items
  pub pages_are : run.pages ≡ end.pages
  pub dump_is : run.dump ≡ dump
  pub bytes_are : run.bytes.now ≡ end.bytes.items
  pub said_are : run.said.now ≡ all

-- Such an object was written.
pub record WritesObject (end : EndState) (dump : ℕ) (all : List Said) (out : WriterChange) : Type 0 where
  pub run : RunEndObject
  pub is : IsObjectOf end dump all run
  pub object : Appends out.old out.new (json_line (run_json run))

-- The end of a run was written in the form, and in front of it what its threads say.
abbrev pub WritesEnd : Form → Bool → ℕ → List Said → EndState → WriterChange → Type 0
WritesEnd Lines units dump all end out = Appends out.old out.new (said_lines all ++ end_text units end dump)
WritesEnd Json units dump all end out = WritesObject end dump all out

-- It was printed as is asked for, the threads that trapped were told where that is asked for, and the status is its.
pub record PrintsEnd (end : EndState) (look : EndLook) (all : List Said) (out err : WriterChange) (status : ℕ)
    : Type 0 where
  pub written : WritesEnd look.form look.units look.dump all end out
  pub traps : TellsTrapsIf look.traps end.threads.items err.old err.new
  pub status_is : status ≡ status_of end.threads.items

-- So it was printed of a run that was recorded, with what its threads say, where that is wanted: by its record, and by
-- the bytes of its module.
pub record PrintsSaid (bytes : List ℕ) (r : RecordParts) (end : EndState) (look : EndLook) (out err : WriterChange)
    (status : ℕ) : Type 0 where
  pub all : List Said
  pub said_is : IsSaid bytes r look.text all
  pub printed : PrintsEnd end look all out err status

-- What was written is the text of a record, where that is wanted.
abbrev pub KeepsRecord : Bool → WriterChange → RecordParts → Type 0
KeepsRecord is_wanted save r = is_wanted ≡ true → Appends save.old save.new (record_text r)

-- What was written are these bytes, where they are wanted.
abbrev pub KeepsBytes : Bool → WriterChange → List ℕ → Type 0
KeepsBytes is_wanted memory bytes = is_wanted ≡ true → Appends memory.old memory.new bytes

-- The end of a run was printed, and the bytes of its memory were kept.
pub record PrintsAll (job : RunJob) (end : EndState) (all : List Said) (out err memory : WriterChange) (status : ℕ)
    : Type 0 where
  pub printed : PrintsEnd end job.look all out err status
  pub kept : KeepsBytes (is_some job.memory_out) memory end.bytes.items

-- The same of what all streams have before and after.
abbrev pub PrintsAllIn : RunJob → EndState → List Said → Written → ℕ → Type 0
PrintsAllIn job end all w status = PrintsAll job end all w.out w.err w.memory status

-- So were they, and its record; what its threads say is by that, and by the bytes of its module.
abbrev pub PrintsAndKeeps : List ℕ → RunJob → RecordParts → EndState → Written → ℕ → Type 0
PrintsAndKeeps bytes job r end w status = (all : List Said) × IsSaid bytes r job.look.text all
    × PrintsAll job end all w.out w.err w.memory status × KeepsRecord (is_some job.save) w.save r

-- A record of the run that ended so, and in which its threads say so much. Where it is wanted, what was written to its
-- writer is its text.
pub record IsRecorded (m : Parts) (bytes : List ℕ) (job : RunJob) (args : List Value) (save : WriterChange)
    (end : EndState) (all : List Said) : Type 0 where
  pub record_is : RecordParts
  pub records : RecordsRun m job.call.invoke.now args job.call.fuel job.limit record_is end
  pub run : IsRunOf m record_is end
  pub kept : KeepsRecord (is_some job.save) save record_is
  pub said_is : IsSaid bytes record_is job.look.text all

-- The end is that of a run over words, of which nobody knows what its threads say.
abbrev pub IsOnWords : Parts → RunJob → List Value → EndState → List Said → Type 0
IsOnWords m job args end all = EndsRunOnWords m job.call.invoke.now args job.call.fuel end × (all ≡ [])

-- The end is that of a run by these arguments over the memory that was asked for, and its threads say so much.
abbrev pub EndsAsAsked : Parts → List ℕ → RunJob → List Value → WriterChange → EndState → List Said → Type 0
EndsAsAsked m bytes job args save end all =
    MatchBool job.on_words (IsOnWords m job args end all) (IsRecorded m bytes job args save end all)

-- A run was made by values that the texts spell, its end was printed, and its record and its memory were kept. The
-- bytes are those of its module, which say where its threads put what they say.
pub record PrintsRun (m : Parts) (bytes : List ℕ) (job : RunJob) (w : Written) (status : ℕ) : Type 0 where
  pub args : List Value
  pub spelled : AreSpelled (texts_in job.call.args.items) args
  pub takes : Takes m job.call.invoke.now args
  pub end : EndState
  pub all : List Said
  pub run : EndsAsAsked m bytes job args w.save end all
  pub prints : PrintsAll job end all w.out w.err w.memory status
