-- What comes of a job, as a value: which status it has, and the line that is told of it.
use Rattle.std.specs.Prelude.{ℕ, ◌≡◌, List, [], ◌∷◌, ◌++◌, codes, Option, None, Some, Result, Ok, Err}
use Rattle.std.specs.Borrow.{Bor}
use Rattle.validate_typing.specs.Tabled.{WithTables}
use Rattle.binary_wire.specs.declared.fault.ReadFault.TheVariants.{OutOfMemory as ReadOutOfMemory, Malformed}
use Rattle.validate_typing.specs.declared.fault.ValidFault.TheVariants.{OutOfMemory as ValidityOutOfMemory, Outside}
use Rattle.validate_typing.specs.declared.fault.ValidFault.TheVariants.{InBody}
use Rattle.replay_text.specs.declared.fault.RecordFault.TheVariants as records
use Rattle.replay.specs.declared.fault.ReplayFault.TheVariants as replays
use Rattle.report_command.specs.declared.memory.MemoryFile.{MemoryFile}
use Rattle.show_rows.specs.declared.next.Stood.{Stood}
use Rattle.show_text.specs.Plain.{plain_text}
use Rattle.report_jobs.specs.Told.{call_line, laid_from, memory_line, misfit_line, output_line, path_or, refusal_line}
use Rattle.report_jobs.specs.Told.{thread_line, unlaid_line, unread_line}
use Rattle.report_jobs.specs.Trapped.{Tells}
use Rattle.report_jobs.specs.declared.loading.ModuleRefusal.{ModuleRefusal}
use Rattle.report_jobs.specs.declared.loading.ModuleRefusal.TheVariants.{Read, Validity}
use Rattle.report_jobs.specs.declared.loading.Unready.{Unready}
use Rattle.report_jobs.specs.declared.loading.Unready.TheVariants as unreadies
use Rattle.report_jobs.specs.declared.running.Trouble.{Trouble}
use Rattle.report_jobs.specs.declared.running.Trouble.TheVariants as troubles
use Rattle.report_jobs.specs.declared.replaying.Unfit.{Unfit}
use Rattle.report_jobs.specs.declared.replaying.Unfit.TheVariants as unfits
use Rattle.report_jobs.specs.declared.undone.Absent.{Absent}
use Rattle.report_jobs.specs.declared.undone.Absent.TheVariants.{NoData, SeveralData, NoTrap}
use Rattle.report_jobs.specs.declared.undone.Misfit.{Misfit}
use Rattle.report_jobs.specs.declared.undone.Refused.{Refused}
use Rattle.report_jobs.specs.declared.undone.Refused.TheVariants as refused
use Rattle.report_jobs.specs.declared.undone.Failed.{Failed}
use Rattle.report_jobs.specs.declared.undone.Failed.TheVariants as failed
use Rattle.report_jobs.specs.declared.undone.Undone.{Undone}
use Rattle.report_jobs.specs.declared.undone.Undone.TheVariants as undone
use Rattle.report_jobs.specs.declared.undone.Done.{Done}

-- 2 of a module, 3 of a call, of bytes that can't be laid, of what a record has not and of data that a module hasn't, 4 of a
-- record.
abbrev pub refused_status : Refused → ℕ
refused_status (refused.Read kind offset) = 2
refused_status (refused.Rule kind) = 2
refused_status (refused.RuleInBody kind function place) = 2
refused_status (refused.Unlaid why addr count) = 3
refused_status (refused.Call fault m) = 3
refused_status (refused.Absent absent) = 3
refused_status (refused.Allowance absent) = 3
refused_status (refused.Header line) = 4
refused_status (refused.Unreadable line) = 4
refused_status refused.EndMissing = 4
refused_status (refused.Line line misfit) = 4
refused_status (refused.EndLine line misfit) = 4

abbrev pub undone_status : Undone → ℕ
undone_status (undone.Refused why) = refused_status why
undone_status (undone.Failed what) = 5

abbrev pub ended_status : Result Done Undone → ℕ
ended_status (Ok done) = done.status
ended_status (Err why) = undone_status why

abbrev pub absent_words : Absent → List ℕ
absent_words (NoData name) = codes "no static data of this name; a debug section has names"
absent_words (SeveralData name) = codes "data at several addresses has this name"
absent_words NoTrap = codes "no thread trapped"

-- Its line: the name stands between two texts, without what a terminal obeys in place of showing it.
abbrev pub absent_front : Absent → List ℕ
absent_front (NoData name) = codes "no static data is called "
absent_front (SeveralData name) = codes "data at several addresses is called "
absent_front NoTrap = codes "no thread trapped\n"

abbrev pub absent_name : Absent → List ℕ
absent_name (NoData name) = name.now
absent_name (SeveralData name) = name.now
absent_name NoTrap = []

abbrev pub absent_behind : Absent → List ℕ
absent_behind (NoData name) = codes "; a debug section has names\n"
absent_behind (SeveralData name) = codes "\n"
absent_behind NoTrap = []

abbrev pub absent_line : List ℕ → Absent → List ℕ
absent_line front absent = front ++ absent_front absent ++ plain_text (absent_name absent) ++ absent_behind absent

-- The line that says what is refused: with its numbers, or the name of data that isn't there.
abbrev pub refused_line : Refused → List ℕ
refused_line (refused.Read kind offset) = refusal_line (Read (Malformed kind offset))
refused_line (refused.Rule kind) = refusal_line (Validity (Outside kind))
refused_line (refused.RuleInBody kind function place) = refusal_line (Validity (InBody kind function place))
refused_line (refused.Unlaid why addr count) = unlaid_line why addr count
refused_line (refused.Call fault m) = call_line fault
refused_line (refused.Absent absent) = absent_line (codes "show refused: ") absent
refused_line (refused.Allowance absent) = absent_line (codes "allowance refused: ") absent
refused_line (refused.Header line) = unread_line (records.Header line)
refused_line (refused.Unreadable line) = unread_line (records.Unreadable line)
refused_line refused.EndMissing = unread_line records.EndMissing
refused_line (refused.Line line misfit) = misfit_line (replays.Line line)
refused_line (refused.EndLine line misfit) = misfit_line (replays.EndLine line)

-- The one that says what failed.
abbrev pub failed_line : Failed → List ℕ
failed_line failed.Memory = memory_line
failed_line failed.Thread = thread_line
failed_line failed.Output = output_line
failed_line (failed.File path) = codes "file fault: " ++ (plain_text (path_or path) ++ 10 ∷ [])

abbrev pub undone_line : Undone → List ℕ
undone_line (undone.Refused why) = refused_line why
undone_line (undone.Failed what) = failed_line what

-- What comes of bytes that give no valid module;
abbrev pub of_refusal : ModuleRefusal → Undone
of_refusal (Read ReadOutOfMemory) = undone.Failed failed.Memory
of_refusal (Read (Malformed kind offset)) = undone.Refused (refused.Read kind offset)
of_refusal (Validity ValidityOutOfMemory) = undone.Failed failed.Memory
of_refusal (Validity (Outside kind)) = undone.Refused (refused.Rule kind)
of_refusal (Validity (InBody kind function place)) = undone.Refused (refused.RuleInBody kind function place)

-- of a module of which no run can be made;
abbrev pub of_unready : Unready → Option MemoryFile → ℕ → Undone
of_unready (unreadies.Refused refusal) file count = of_refusal refusal
of_unready (unreadies.Unlaid why) file count = undone.Refused (refused.Unlaid why (laid_from file) count)
of_unready unreadies.NoMemory file count = undone.Failed failed.Memory

-- of a run or a search that wasn't made, or of which something couldn't be written;
abbrev pub of_trouble : Trouble → WithTables → Option (Bor (List ℕ)) → Option (Bor (List ℕ)) → Undone
of_trouble (troubles.Call fault) m save memory = undone.Refused (refused.Call fault m)
of_trouble troubles.NoThread m save memory = undone.Failed failed.Thread
of_trouble troubles.NoMemory m save memory = undone.Failed failed.Memory
of_trouble troubles.Output m save memory = undone.Failed failed.Output
of_trouble troubles.Save m save memory = undone.Failed (failed.File save)
of_trouble troubles.SaveMemory m save memory = undone.Failed (failed.File memory)

-- and of a record that isn't replayed.
abbrev pub of_unfit : Unfit → WithTables → Option Stood → Undone
of_unfit (unfits.Unread (records.Header line)) m stood = undone.Refused (refused.Header line)
of_unfit (unfits.Unread (records.Unreadable line)) m stood = undone.Refused (refused.Unreadable line)
of_unfit (unfits.Unread records.EndMissing) m stood = undone.Refused refused.EndMissing
of_unfit (unfits.Unread records.NoMemory) m stood = undone.Failed failed.Memory
of_unfit (unfits.Misfit (replays.Line line)) m stood =
    undone.Refused (refused.Line line (record { «module» = m; stood = stood }))
of_unfit (unfits.Misfit (replays.EndLine line)) m stood =
    undone.Refused (refused.EndLine line (record { «module» = m; stood = stood }))
of_unfit (unfits.Misfit replays.NoMemory) m stood = undone.Failed failed.Memory
of_unfit unfits.NoMemory m stood = undone.Failed failed.Memory
of_unfit unfits.Output m stood = undone.Failed failed.Output

-- What is told of what came of a job: nothing of one that is done, and else the line.
abbrev pub TellsEnded : Result Done Undone → Option (List ℕ) → Option (List ℕ) → Type 0
TellsEnded (Ok done) old new = new ≡ old
TellsEnded (Err why) old new = Tells old new (undone_line why)
