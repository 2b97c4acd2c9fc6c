-- What checks, runs and replays say of the bytes that they were given.
use Rattle.std.specs.Prelude.{ℕ, ◌≡◌, ◌≤◌, ◌⊎◌, List, length, Option, None, Some}
use Rattle.std.specs.Io.KnownBytes.{Appends}
use Rattle.types.specs.declared.parts.Parts.{Parts}
use Rattle.binary_wire.specs.declared.fault.ReadFault.TheVariants.{OutOfMemory as ReadOutOfMemory, Malformed}
use Rattle.validate_typing.specs.Validity.{IsValid}
use Rattle.validate_typing.specs.Tabled.{WithTables, IsValidated}
use Rattle.binary.specs.Grammar.{IsModuleText}
use Rattle.replay_text.specs.declared.parts.RecordParts.{RecordParts}
use Rattle.replay_text.specs.Text.{record_text, IsRecord}
use Rattle.replay_text.specs.Breaks.{IsFaultOf}
use Rattle.replay_text.specs.declared.fault.RecordFault.{RecordFault}
use Rattle.spawn_host.specs.declared.end.EndState.{EndState}
use Rattle.replay.specs.declared.fault.ReplayFault.{ReplayFault}
use Rattle.replay.specs.declared.fault.ReplayFault.TheVariants as replays
use Rattle.replay.specs.Runs.{IsRunOf, IsReplayFault, ShowsNoRun}
use Rattle.show_text.specs.declared.sheet.Unwritten.{Unwritten}
use Rattle.show_text.specs.declared.sheet.Unwritten.TheVariants as unwritten
use Rattle.report_command.specs.declared.call.CallWords.{CallWords}
use Rattle.report_command.specs.declared.form.Form.{Form}
use Rattle.report_command.specs.declared.form.EndLook.{EndLook}
use Rattle.report_command.specs.declared.command_line.RunJob.{RunJob}
use Rattle.report_command.specs.declared.memory.MemoryFile.{MemoryFile}
use Rattle.report_memory.specs.Laid.{laid, unlaid}
use Rattle.report_memory.specs.declared.laying.Unlaid.{Unlaid}
use Rattle.report_jobs.specs.Arguments.{CannotCall, texts_in}
use Rattle.show_said.specs.declared.said.Said.{Said}
use Rattle.report_jobs.specs.Prints.{WriterChange, Written, accepted_text, IsSaid, PrintsEnd, PrintsRun}
use Rattle.report_jobs.specs.declared.replaying.Unfit.{Unfit}
use Rattle.report_jobs.specs.declared.replaying.Unfit.TheVariants.{Unread, Misfit, NoMemory, Output}
use Rattle.validate_typing.specs.declared.fault.ValidFault.TheVariants.{OutOfMemory as ValidityOutOfMemory, Outside}
use Rattle.validate_typing.specs.declared.fault.ValidFault.TheVariants.{InBody}
use Rattle.report_jobs.specs.declared.loading.ModuleRefusal.{ModuleRefusal}
use Rattle.report_jobs.specs.declared.loading.Unready.{Unready}
use Rattle.report_jobs.specs.declared.loading.Unready.TheVariants as unready
use Rattle.report_jobs.specs.declared.loading.ModuleRefusal.TheVariants.{Read, Validity}

-- The bytes are a valid module's text, and what was written says how many functions of its own it has.
pub record IsAccepted (form : Form) (bytes : List ℕ) (old new : Option (List ℕ)) : Type 0 where
  pub parts : Parts
  pub text : IsModuleText bytes parts
  pub valid : IsValid parts
  pub line : Appends old new (accepted_text form (length parts.functions))

-- They are one with so many functions of its own.
abbrev pub IsAcceptedAs : List ℕ → ℕ → Type 0
IsAcceptedAs bytes count = (form : Form) (old new : Option (List ℕ)) → Appends old new (accepted_text form count)
    → IsAccepted form bytes old new

-- The bytes are no module's text.
abbrev pub IsNoModule : List ℕ → Type 0
IsNoModule bytes = (parts : Parts) → IsModuleText bytes parts → ⊥

-- The bytes are the text of a module, and of no valid one.
pub record IsInvalid (bytes : List ℕ) : Type 0 where
  pub parts : Parts
  pub text : IsModuleText bytes parts
  pub invalid : IsValid parts → ⊥

-- No valid module has the bytes as its text.
abbrev pub IsNoValidModule : List ℕ → Type 0
IsNoValidModule bytes = (parts : Parts) → IsModuleText bytes parts → IsValid parts → ⊥

-- What a refusal says of the bytes. Out of memory says nothing.
abbrev pub IsRefused : List ℕ → ModuleRefusal → Type 0
IsRefused bytes (Read ReadOutOfMemory) = Unit {0}
IsRefused bytes (Read (Malformed kind offset)) = IsNoModule bytes
IsRefused bytes (Validity ValidityOutOfMemory) = Unit {0}
IsRefused bytes (Validity (Outside kind)) = IsInvalid bytes
IsRefused bytes (Validity (InBody kind function place)) = IsInvalid bytes

-- The second bytes are a record's text, the record is of a run of the module, which the first ones are of, and the end
-- of that run was printed.
pub record PrintsReplay (m : Parts) (bytes saved : List ℕ) (look : EndLook) (out err : WriterChange) (status : ℕ)
    : Type 0 where
  pub record_is : RecordParts
  pub ranges : IsRecord record_is
  pub text : saved ≡ record_text record_is
  pub end : EndState
  pub run : IsRunOf m record_is end
  pub all : List Said
  pub said_is : IsSaid bytes record_is look.text all
  pub prints : PrintsEnd end look all out err status

-- The bytes are the text of no record of a run of the module.
abbrev pub IsOfNoRun : Parts → List ℕ → Type 0
IsOfNoRun m saved = (r : RecordParts) (end : EndState) → IsRecord r → saved ≡ record_text r → IsRunOf m r end → ⊥

-- The bytes are no record's text, and this is their fault.
pub record IsUnread (m : Parts) (saved : List ℕ) (fault : RecordFault) : Type 0 where
  pub first : IsFaultOf saved fault
  pub none : IsOfNoRun m saved

-- They are a record's text, and this is its first line that doesn't fit the module.
pub record IsMisfit (m : Parts) (saved : List ℕ) (fault : ReplayFault) : Type 0 where
  pub record_is : RecordParts
  pub ranges : IsRecord record_is
  pub text : saved ≡ record_text record_is
  pub first : IsReplayFault m record_is fault
  pub none : IsOfNoRun m saved

abbrev pub IsUnfit : Parts → List ℕ → Unfit → Type 0
IsUnfit m saved (Unread fault) = IsUnread m saved fault
IsUnfit m saved (Misfit fault) = IsMisfit m saved fault
IsUnfit m saved NoMemory = Unit {0}
IsUnfit m saved Output = Unit {0}

-- What comes of an end that couldn't be written.
abbrev pub unfit_of_unwritten : Unwritten → Unfit
unfit_of_unwritten unwritten.NoMemory = NoMemory
unfit_of_unwritten unwritten.Output = Output

-- What a replay's fault comes to.
abbrev pub unfit_by : ReplayFault → Unfit
unfit_by (replays.Line line) = Misfit (replays.Line line)
unfit_by (replays.EndLine line) = Misfit (replays.EndLine line)
unfit_by replays.NoMemory = NoMemory

-- What a replay's fault says of the text of its record.
abbrev pub IsUnfitFor : ReplayFault → Unfit → Type 0
IsUnfitFor fault unfit =
    (m : Parts) (r : RecordParts) (saved : List ℕ) → IsRecord r → saved ≡ record_text r → IsReplayFault m r fault
    → ShowsNoRun m r fault → IsUnfit m saved unfit

-- The same of a record, of the bytes that are its text.
abbrev pub PrintsReplayOf : Parts → List ℕ → RecordParts → EndLook → WriterChange → WriterChange → ℕ → Type 0
PrintsReplayOf m bytes r look out err status = (saved : List ℕ) → saved ≡ record_text r
    → PrintsReplay m bytes saved look out err status

abbrev pub IsUnfitTextOf : Parts → RecordParts → Unfit → Type 0
IsUnfitTextOf m r unfit = (saved : List ℕ) → saved ≡ record_text r → IsUnfit m saved unfit

-- The bytes are a valid module's text, and a record of a run of it was replayed.
pub record IsReplayed (bytes saved : List ℕ) (look : EndLook) (out err : WriterChange) (status : ℕ) : Type 0 where
  pub parts : Parts
  pub text : IsModuleText bytes parts
  pub valid : IsValid parts
  pub prints : PrintsReplay parts bytes saved look out err status

-- They are, and the others are the text of no record of a run of it.
pub record IsNoRecordOf (bytes saved : List ℕ) : Type 0 where
  pub parts : Parts
  pub text : IsModuleText bytes parts
  pub valid : IsValid parts
  pub none : IsOfNoRun parts saved

-- The module of which a run is made: that of the bytes, with the others laid over its opening memory where that is
-- asked for.
abbrev pub begun : Parts → Option MemoryFile → List ℕ → Parts
begun m None over = m
begun m (Some file) over = laid m file.addr over

-- The bytes are a valid module's text, and a run of it was made as asked.
pub record HasRun (bytes over : List ℕ) (job : RunJob) (w : Written) (status : ℕ) : Type 0 where
  pub parts : Parts
  pub text : IsModuleText bytes parts
  pub valid : IsValid parts
  pub prints : PrintsRun (begun parts job.memory_in over) bytes job w status

-- They are, and no function of it can be called so.
pub record HasNoSuchCall (bytes : List ℕ) (call : CallWords) : Type 0 where
  pub parts : Parts
  pub text : IsModuleText bytes parts
  pub valid : IsValid parts
  pub cannot : CannotCall parts call.invoke.now (texts_in call.args.items)

-- A valid module was made, of which a run can be: that of the bytes, with the others laid over its opening memory where
-- that is asked for.
pub record LoadsOver (bytes : List ℕ) (file : Option MemoryFile) (over : List ℕ) (v : WithTables) : Type 0 where
  pub parts : Parts
  pub text : IsModuleText bytes parts
  pub valid : IsValid parts
  pub begun_is : v.parts ≡ begun parts file over
  pub validated : IsValidated v

-- Why bytes weren't laid over the opening memory of a module: it says so where they can't be.
abbrev pub IsUnreadyModule : Parts → ℕ → List ℕ → Unready → Type 0
IsUnreadyModule m addr over (unready.Refused refusal) = ⊥
IsUnreadyModule m addr over (unready.Unlaid why) = unlaid m addr (length over) ≡ Some why
IsUnreadyModule m addr over unready.NoMemory = Unit {0}

-- Bytes are to be laid over the opening memory of a module, which can't be for this reason.
abbrev pub CannotLayFor : Parts → Option MemoryFile → List ℕ → Unlaid → Type 0
CannotLayFor m None over why = ⊥
CannotLayFor m (Some file) over why = unlaid m file.addr (length over) ≡ Some why

-- There is a reason for which they can't be.
abbrev pub CannotLay : Parts → Option MemoryFile → List ℕ → Type 0
CannotLay m file over = (why : Unlaid) × CannotLayFor m file over why

-- For this reason bytes can't be laid over the opening memory of the module that these bytes spell.
pub record CannotLayOver (bytes : List ℕ) (file : Option MemoryFile) (over : List ℕ) (why : Unlaid) : Type 0 where
  pub parts : Parts
  pub text : IsModuleText bytes parts
  pub valid : IsValid parts
  pub cannot : CannotLayFor parts file over why

-- Why no module was made.
abbrev pub IsUnready : List ℕ → Option MemoryFile → List ℕ → Unready → Type 0
IsUnready bytes file over (unready.Refused refusal) = IsRefused bytes refusal
IsUnready bytes file over (unready.Unlaid why) = CannotLayOver bytes file over why
IsUnready bytes file over unready.NoMemory = Unit {0}

-- They are, and no function of it can be called so, or the others can't be laid over its opening memory.
pub record CannotRun (bytes over : List ℕ) (job : RunJob) : Type 0 where
  pub parts : Parts
  pub text : IsModuleText bytes parts
  pub valid : IsValid parts
  pub cannot : CannotCall (begun parts job.memory_in over) job.call.invoke.now (texts_in job.call.args.items)
      ⊎ CannotLay parts job.memory_in over

-- What the status of a check says: 0 of an accepted module, 2 of a refused one. 5 is that memory or a stream failed.
pub record Checks (bytes : List ℕ) (form : Form) (out : WriterChange) (status : ℕ) : Type 0 where
  pub accepted : status ≡ 0 → IsAccepted form bytes out.old out.new
  pub refused : status ≡ 2 → IsNoValidModule bytes
  pub statuses : (status ≡ 0) ⊎ (status ≡ 2) ⊎ (status ≡ 5)

-- What that of a run says: 0 and 1 of a run that was made, 2 of a refused module, 3 of a call that can't be made or of
-- bytes that can't be laid over its memory. 5 is that memory, a thread or a stream failed.
pub record Runs (bytes over : List ℕ) (job : RunJob) (w : Written) (status : ℕ) : Type 0 where
  pub made : status ≤ 1 → HasRun bytes over job w status
  pub refused : status ≡ 2 → IsNoValidModule bytes
  pub cannot : status ≡ 3 → CannotRun bytes over job
  pub statuses : (status ≤ 3) ⊎ (status ≡ 5)

-- What that of a replay says: 0 and 1 of a record of a run, 2 of a refused module, 4 of a record of no run. 5 is that
-- memory or a stream failed.
pub record Replays (bytes saved : List ℕ) (look : EndLook) (out err : WriterChange) (status : ℕ) : Type 0 where
  pub replayed : status ≤ 1 → IsReplayed bytes saved look out err status
  pub refused : status ≡ 2 → IsNoValidModule bytes
  pub none : status ≡ 4 → IsNoRecordOf bytes saved
  pub statuses : (status ≤ 2) ⊎ (status ≡ 4) ⊎ (status ≡ 5)

-- The bytes are the text of a record of a run of the module.
pub record IsOfRun (m : Parts) (saved : List ℕ) : Type 0 where
  pub record_is : RecordParts
  pub ranges : IsRecord record_is
  pub text : saved ≡ record_text record_is
  pub end : EndState
  pub run : IsRunOf m record_is end

-- The bytes are a valid module's text, and the others that of a record of a run of it.
pub record IsRecordOf (bytes saved : List ℕ) : Type 0 where
  pub parts : Parts
  pub text : IsModuleText bytes parts
  pub valid : IsValid parts
  pub run : IsOfRun parts saved
