-- What is left as it was by a job that is refused, and the status of each fault.
use Rattle.std.specs.Prelude.{ℕ, ◌≡◌, ◌≤◌, Bool, false, is_some}
use Rattle.binary_wire.specs.declared.fault.ReadFault.TheVariants.{OutOfMemory as ReadOutOfMemory, Malformed}
use Rattle.validate_typing.specs.declared.fault.ValidFault.TheVariants.{OutOfMemory as ValidityOutOfMemory, Outside}
use Rattle.validate_typing.specs.declared.fault.ValidFault.TheVariants.{InBody}
use Rattle.replay_text.specs.declared.fault.RecordFault.TheVariants as records
use Rattle.replay.specs.declared.fault.ReplayFault.TheVariants as replays
use Rattle.report_command.specs.declared.command_line.Job.{Job}
use Rattle.report_command.specs.declared.command_line.Job.TheVariants as jobs
use Rattle.report_jobs.specs.declared.loading.ModuleRefusal.{ModuleRefusal}
use Rattle.report_jobs.specs.declared.loading.ModuleRefusal.TheVariants.{Read, Validity}
use Rattle.report_jobs.specs.declared.replaying.Unfit.{Unfit}
use Rattle.report_jobs.specs.declared.replaying.Unfit.TheVariants as unfits
use Rattle.report_jobs.specs.declared.running.Trouble.{Trouble}
use Rattle.report_jobs.specs.declared.running.Trouble.TheVariants as troubles
use Rattle.report_jobs.specs.declared.streams.Streams.{Streams}

-- 2 for a module, and 5 where memory ran out.
abbrev pub refusal_status : ModuleRefusal → ℕ
refusal_status (Read ReadOutOfMemory) = 5
refusal_status (Read (Malformed kind offset)) = 2
refusal_status (Validity ValidityOutOfMemory) = 5
refusal_status (Validity (Outside kind)) = 2
refusal_status (Validity (InBody kind function place)) = 2

-- 3 for a call, and 5 for memory, a thread or a stream.
abbrev pub trouble_status : Trouble → ℕ
trouble_status (troubles.Call fault) = 3
trouble_status troubles.NoThread = 5
trouble_status troubles.NoMemory = 5
trouble_status troubles.Output = 5
trouble_status troubles.Save = 5
trouble_status troubles.SaveMemory = 5

-- 4 for a record, and 5 for memory or a stream.
abbrev pub unfit_status : Unfit → ℕ
unfit_status (unfits.Unread records.NoMemory) = 5
unfit_status (unfits.Unread (records.Header line)) = 4
unfit_status (unfits.Unread (records.Unreadable line)) = 4
unfit_status (unfits.Unread records.EndMissing) = 4
unfit_status (unfits.Misfit replays.NoMemory) = 5
unfit_status (unfits.Misfit (replays.Line line)) = 4
unfit_status (unfits.Misfit (replays.EndLine line)) = 4
unfit_status unfits.NoMemory = 5
unfit_status unfits.Output = 5

-- What was there before is there still. A writer that is so was neither written to nor flushed.
abbrev pub Stays : {X : Type 0} → X → X → Type 0
Stays old new = new ≡ old

-- So are both streams, the record's file and the memory's.
abbrev pub AllStay : {W E S : Type 0} → Streams W E S → Streams W E S → Type 0
AllStay old new = (Stays old.out new.out × Stays old.err new.err) × Stays old.save new.save × Stays old.memory new.memory

-- Where no run is made all writers stay, and those of files where the lines can't be written.
abbrev pub Leaves : Trouble → Type 0 → Type 0 → Type 0
Leaves (troubles.Call fault) out save = out × save
Leaves troubles.NoThread out save = out × save
Leaves troubles.NoMemory out save = out × save
Leaves troubles.Output out save = save
Leaves troubles.Save out save = Unit {0}
Leaves troubles.SaveMemory out save = Unit {0}

-- Where no record is replayed standard output stays.
abbrev pub LeavesOut : Unfit → Type 0 → Type 0
LeavesOut (unfits.Unread fault) out = out
LeavesOut (unfits.Misfit fault) out = out
LeavesOut unfits.NoMemory out = out
LeavesOut unfits.Output out = Unit {0}

-- The statuses of what is refused.
abbrev pub IsRefusal : ℕ → Type 0
IsRefusal status = (2 ≤ status) × (status ≤ 4)

-- A job writes what the memory of a run has in the end.
abbrev pub makes_memory : Job → Bool
makes_memory (jobs.Run job) = is_some job.memory_out
makes_memory (jobs.Check file form) = false
makes_memory (jobs.Replay file saved look) = false
makes_memory (jobs.Show file saved names how) = false
makes_memory (jobs.Races job) = false
makes_memory (jobs.Search s) = false

-- A plain job makes a file.
abbrev pub makes_file : Job → Bool
makes_file (jobs.Run job) = is_some job.save
makes_file (jobs.Check file form) = false
makes_file (jobs.Replay file saved look) = false
makes_file (jobs.Show file saved names how) = false
makes_file (jobs.Races job) = false
makes_file (jobs.Search s) = is_some s.save
