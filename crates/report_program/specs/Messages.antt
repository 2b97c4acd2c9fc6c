-- What is said on standard error of what went wrong, and the statuses that go with it.
use Rattle.std.specs.Prelude.{ℕ, ◌≡◌, ◌⊎◌, Bool, true, false, List, [], ◌++◌, codes, Option, Some, None, IsSome}
use Rattle.std.specs.Borrow.{Bor}
use Rattle.std.specs.declared.io.ErrorKind.{ErrorKind}
use Rattle.std.specs.declared.io.ErrorKind.TheVariants as kinds
use Rattle.report_command.specs.declared.command_line.Job.{Job}
use Rattle.report_command.specs.declared.command_line.Job.TheVariants as jobs
use Rattle.report_command.specs.declared.command_line.Misuse.{Misuse}
use Rattle.report_command.specs.declared.command_line.Misuse.TheVariants as misuses
use Rattle.report_command.specs.declared.command_line.Usage.{Usage}
use Rattle.report_command.specs.declared.command_line.Usage.TheVariants as usages
use Rattle.report_command.specs.Views.{path_of}
use Rattle.show_text.specs.Plain.{plain_text}
use Rattle.report_jobs.specs.Told.{memory_line, output_line}
use Rattle.report_jobs.specs.Trapped.{Tells}
use Rattle.report_program.specs.declared.detail.Detail.{Detail}
use Rattle.report_program.specs.declared.detail.Detail.TheVariants as details
use Rattle.report_program.specs.declared.closing.Lost.{Lost}
use Rattle.report_program.specs.declared.reading.Unread.{Unread}
use Rattle.report_program.specs.declared.reading.Unread.TheVariants as unreads
use Rattle.report_program.specs.declared.stop.JobStop.{JobStop}
use Rattle.report_program.specs.declared.stop.JobStop.TheVariants as stops

abbrev pub unkept_text : List ℕ → List ℕ
unkept_text path = codes "note: no run was found to keep: " ++ plain_text path ++ codes " is as it was\n"

-- Why the system refused a file, as a line.
abbrev pub reason_text : ErrorKind → List ℕ
reason_text kinds.NotFound = codes "there is nothing with this path\n"
reason_text kinds.PermissionDenied = codes "the system doesn't allow it\n"
reason_text kinds.IsADirectory = codes "it is a folder\n"
reason_text kinds.NotADirectory = codes "a part of the path is no folder\n"
reason_text kinds.InvalidFilename = codes "the path, or a part of it, is too long\n"
reason_text kinds.FilesystemLoop = codes "its links lead round in a circle\n"
reason_text kinds.ReadOnlyFilesystem = codes "the disk that it is on can't be written\n"
reason_text kinds.StorageFull = codes "there is no room left for it\n"
reason_text kinds.QuotaExceeded = codes "there is no room left for it\n"
reason_text kind = codes "the system couldn't read or write it\n"

-- The same, or nothing.
abbrev pub why_text : Option ErrorKind → List ℕ
why_text None = []
why_text (Some kind) = reason_text kind

-- Which file failed, and why, if that is said.
abbrev pub file_text : List ℕ → Option ErrorKind → List ℕ
file_text path why = codes "file fault: " ++ plain_text path ++ codes "\n" ++ why_text why

-- Why is said of it but where a line is all that is said.
abbrev pub why_if : Detail → ErrorKind → Option ErrorKind
why_if details.Line kind = None
why_if detail kind = Some kind

-- Why a file's bytes aren't there, by the error's kind.
abbrev pub unread_by : ErrorKind → Unread
unread_by kinds.OutOfMemory = unreads.NoMemory
unread_by kind = unreads.File kind

-- Why a job isn't done that wants the file at this path.
abbrev pub stop_by : Bor (List ℕ) → Unread → JobStop
stop_by path unreads.NoMemory = stops.NoMemory
stop_by path (unreads.File kind) = stops.File path kind

-- What is said of a job that isn't done. Of wrong words that is the text of their error.
abbrev pub TellsStop : JobStop → Detail → Option (List ℕ) → Option (List ℕ) → Type 0
TellsStop stops.NoMemory detail old new = Tells old new memory_line
TellsStop (stops.File path kind) detail old new = Tells old new (file_text path.now (why_if detail kind))
TellsStop (stops.Usage usage) detail old new = Unit {0}

-- 0 of help, 3 of wrong words, and 5 of what failed.
abbrev pub IsUsageStatus : Usage → ℕ → Type 0
IsUsageStatus (usages.Wrong error) status = (status ≡ 3) ⊎ (status ≡ 5)
IsUsageStatus (usages.Help error) status = (status ≡ 0) ⊎ (status ≡ 5)
IsUsageStatus usages.NoMemory status = status ≡ 5

abbrev pub IsStopStatus : JobStop → ℕ → Type 0
IsStopStatus stops.NoMemory status = status ≡ 5
IsStopStatus (stops.File path kind) status = status ≡ 5
IsStopStatus (stops.Usage usage) status = IsUsageStatus usage status

-- The path of the file that a job makes, a record, a page or a trace, and that of the bytes of a memory.
abbrev pub record_path : Job → Option (Bor (List ℕ))
record_path (jobs.Check file form) = None
record_path (jobs.Run job) = job.save
record_path (jobs.Replay file saved look) = None
record_path (jobs.Show file saved names how) = path_of how.view
record_path (jobs.Races job) = None
record_path (jobs.Search s) = s.save

abbrev pub memory_path : Job → Option (Bor (List ℕ))
memory_path (jobs.Run job) = job.memory_out
memory_path (jobs.Check file form) = None
memory_path (jobs.Replay file saved look) = None
memory_path (jobs.Show file saved names how) = None
memory_path (jobs.Races job) = None
memory_path (jobs.Search s) = None

-- A path as it is said, or nothing.
abbrev pub path_text : Option (Bor (List ℕ)) → List ℕ
path_text None = []
path_text (Some path) = path.now

-- Where nothing is lost.
abbrev pub nothing_lost : Lost
nothing_lost = record { lines = false; file = None; memory = None }

-- What is said where the lines, the file or the memory of a job aren't where they belong: of the first that isn't. Of
-- lines that nobody is left to read nothing is said.
abbrev pub TellsFirst : Job → Detail → Bool → Option ErrorKind → Option ErrorKind → Bool
    → Option (List ℕ) → Option (List ℕ) → Type 0
TellsFirst job detail false None None is_closed old new = new ≡ old
TellsFirst job detail true file memory true old new = new ≡ old
TellsFirst job detail true file memory false old new = Tells old new output_line
TellsFirst job detail false (Some kind) memory is_closed old new =
    Tells old new (file_text (path_text (record_path job)) (why_if detail kind))
TellsFirst job detail false None (Some kind) is_closed old new =
    Tells old new (file_text (path_text (memory_path job)) (why_if detail kind))

abbrev pub TellsLost : Job → Detail → Lost → Bool → Option (List ℕ) → Option (List ℕ) → Type 0
TellsLost job detail lost is_closed old new = TellsFirst job detail lost.lines lost.file lost.memory is_closed old new

-- Which misuse a job's paths may be: that of a file which it makes.
abbrev pub MayReplace : Job → Misuse → Type 0
MayReplace (jobs.Run job) misuse = ((misuse ≡ misuses.MemoryReplaces) × IsSome job.memory_out)
    ⊎ ((misuse ≡ misuses.ReplacesModule) × IsSome job.save)
MayReplace (jobs.Search s) misuse = (misuse ≡ misuses.FindReplacesModule) × IsSome s.save
MayReplace (jobs.Show file saved names how) misuse = (misuse ≡ misuses.ReplacesRead) × IsSome (path_of how.view)
MayReplace (jobs.Check file form) misuse = ⊥
MayReplace (jobs.Replay file saved look) misuse = ⊥
MayReplace (jobs.Races job) misuse = ⊥
