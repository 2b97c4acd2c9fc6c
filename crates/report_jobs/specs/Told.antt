-- What is said on standard error of a module, a call or a record that is refused, and of what failed.
use Rattle.std.specs.Prelude.{◌≡◌, ℕ, List, [], ◌∷◌, ◌++◌, codes, Option, Some, None}
use Rattle.std.specs.Borrow.{Bor}
use Rattle.std.specs.Fmt.{decimal}
use Rattle.types.specs.declared.parts.Parts.{Parts}
use Rattle.types.specs.declared.limits.TheConstants.{MOST_ITEMS}
use Rattle.binary_wire.specs.declared.fault.ReadFault.TheVariants.{OutOfMemory as ReadOutOfMemory, Malformed}
use Rattle.binary_wire.specs.Faults.{kind_number}
use Rattle.validate_typing.specs.declared.fault.ValidFault.TheVariants.{OutOfMemory as ValidityOutOfMemory, Outside}
use Rattle.validate_typing.specs.declared.fault.ValidFault.TheVariants.{InBody}
use Rattle.validate_typing.specs.Faults.{fault_number}
use Rattle.spawn_host.specs.declared.request.CallFault.{CallFault}
use Rattle.spawn_host.specs.declared.request.CallFault.TheVariants as calls
use Rattle.report_command.specs.declared.memory.MemoryFile.{MemoryFile}
use Rattle.report_memory.specs.declared.laying.Unlaid.{Unlaid}
use Rattle.report_memory.specs.declared.laying.Unlaid.TheVariants as unlaids
use Rattle.validate_typing.specs.Validity.{IsValid}
use Rattle.binary.specs.Grammar.{IsModuleText}
use Rattle.replay_text.specs.declared.fault.RecordFault.{RecordFault}
use Rattle.replay_text.specs.declared.fault.RecordFault.TheVariants as records
use Rattle.replay.specs.declared.fault.ReplayFault.{ReplayFault}
use Rattle.replay.specs.declared.fault.ReplayFault.TheVariants as replays
use Rattle.report_jobs.specs.Jobs.{IsRefused, IsUnfit}
use Rattle.report_jobs.specs.Prints.{WriterChange}
use Rattle.report_jobs.specs.Silence.{refusal_status, unfit_status}
use Rattle.report_jobs.specs.Trapped.{Tells}
use Rattle.report_jobs.specs.declared.loading.ModuleRefusal.{ModuleRefusal}
use Rattle.report_jobs.specs.declared.loading.ModuleRefusal.TheVariants.{Read, Validity}
use Rattle.report_jobs.specs.declared.replaying.Unfit.{Unfit}
use Rattle.report_jobs.specs.declared.replaying.Unfit.TheVariants as unfits

abbrev pub memory_line : List ℕ
memory_line = codes "no memory\n"

abbrev pub output_line : List ℕ
output_line = codes "file fault: standard output\n"

abbrev pub thread_line : List ℕ
thread_line = codes "no thread\n"

-- The line that says which line of a text isn't that of a record.
abbrev pub unread_line : RecordFault → List ℕ
unread_line (records.Header line) = codes "record refused: header line " ++ (decimal line ++ 10 ∷ [])
unread_line (records.Unreadable line) = codes "record refused: line "
    ++ (decimal line ++ (codes " unreadable" ++ 10 ∷ []))
unread_line records.EndMissing = codes "record refused: end missing" ++ 10 ∷ []
unread_line records.NoMemory = memory_line

-- The line that says which line of a record doesn't fit.
abbrev pub misfit_line : ReplayFault → List ℕ
misfit_line (replays.Line line) = codes "record refused: line " ++ (decimal line ++ (codes " does not fit" ++ 10 ∷ []))
misfit_line (replays.EndLine line) = codes "record refused: end line "
    ++ (decimal line ++ (codes " does not fit" ++ 10 ∷ []))
misfit_line replays.NoMemory = memory_line

abbrev pub unfit_line : Unfit → List ℕ
unfit_line (unfits.Unread fault) = unread_line fault
unfit_line (unfits.Misfit fault) = misfit_line fault
unfit_line unfits.NoMemory = memory_line
unfit_line unfits.Output = output_line

-- The bytes are a valid module's text, this is what is wrong with the others as a record of a run of it, and the line
-- of it was told.
pub record TellsWhatIsWrong (bytes saved : List ℕ) (err : WriterChange) : Type 0 where
  pub parts : Parts
  pub text : IsModuleText bytes parts
  pub valid : IsValid parts
  pub unfit : Unfit
  pub is : IsUnfit parts saved unfit
  pub refuses : unfit_status unfit ≡ 4
  pub line : Tells err.old err.new (unfit_line unfit)

-- The line that says why bytes give no valid module: with the number of what is wrong, and where that is.
abbrev pub refusal_line : ModuleRefusal → List ℕ
refusal_line (Read ReadOutOfMemory) = memory_line
refusal_line (Read (Malformed kind offset)) = codes "module refused: read "
    ++ (decimal (kind_number kind) ++ (codes " at " ++ (decimal offset ++ 10 ∷ [])))
refusal_line (Validity ValidityOutOfMemory) = memory_line
refusal_line (Validity (Outside kind)) = codes "module refused: validity " ++ (decimal (fault_number kind) ++ 10 ∷ [])
refusal_line (Validity (InBody kind function place)) = codes "module refused: validity "
    ++ (decimal (fault_number kind)
    ++ (codes " in function " ++ (decimal function ++ (codes " at " ++ (decimal place ++ 10 ∷ [])))))

-- The line that says why so many bytes can't be laid over a memory from an address on.
abbrev pub unlaid_line : Unlaid → ℕ → ℕ → List ℕ
unlaid_line unlaids.Nowhere addr count =
    codes "memory refused: the module has none over which --memory-in could lay bytes" ++ 10 ∷ []
unlaid_line (unlaids.Outside room) addr count = codes "memory refused: --memory-in lays "
    ++ (decimal count
    ++ (codes " bytes from "
    ++ (decimal addr
    ++ (codes " on, and the memory has " ++ (decimal room ++ (codes " at first" ++ 10 ∷ []))))))
unlaid_line unlaids.Segments addr count = codes "memory refused: the module has "
    ++ (decimal MOST_ITEMS ++ (codes " data segments, and --memory-in wants one more" ++ 10 ∷ []))

-- Where the first byte of a file is laid.
abbrev pub laid_from : Option MemoryFile → ℕ
laid_from None = 0
laid_from (Some file) = file.addr

abbrev pub call_line : CallFault → List ℕ
call_line calls.UnknownExport = codes "run refused: unknown export" ++ 10 ∷ []
call_line calls.WrongArguments = codes "run refused: wrong arguments" ++ 10 ∷ []

-- The path of the file that failed, as it is said.
abbrev pub path_or : Option (Bor (List ℕ)) → List ℕ
path_or None = codes "the record"
path_or (Some path) = path.now

-- The bytes are no valid module's text, this is what is wrong with them, and the line of it was told.
pub record TellsRefusal (bytes : List ℕ) (err : WriterChange) : Type 0 where
  pub refusal : ModuleRefusal
  pub is : IsRefused bytes refusal
  pub refuses : refusal_status refusal ≡ 2
  pub line : Tells err.old err.new (refusal_line refusal)
