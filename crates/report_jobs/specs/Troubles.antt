-- Why a run that was asked for wasn't made, or what came of it couldn't be written.
use Rattle.std.specs.Prelude.{ℕ, ◌≡◌, ◌⊎◌, List}
use Rattle.types.specs.declared.value.Value.{Value}
use Rattle.types.specs.declared.parts.Parts.{Parts}
use Rattle.spawn_host_workers.specs.declared.report.StartFault.TheVariants as start_faults
use Rattle.spawn_host.specs.declared.running.RunFault.{RunFault}
use Rattle.spawn_host.specs.declared.running.RunFault.TheVariants as run_faults
use Rattle.spawn_host.specs.Entries.{Takes}
use Rattle.report_runs.specs.declared.recording.RecordRunFault.{RecordRunFault}
use Rattle.report_runs.specs.declared.recording.RecordRunFault.TheVariants as recording_faults
use Rattle.show_text.specs.declared.sheet.Unwritten.{Unwritten}
use Rattle.show_text.specs.declared.sheet.Unwritten.TheVariants as unwritten
use Rattle.report_command.specs.declared.call.CallWords.{CallWords}
use Rattle.report_jobs.specs.declared.running.Trouble.{Trouble}
use Rattle.report_jobs.specs.declared.running.Trouble.TheVariants as troubles
use Rattle.report_jobs.specs.Arguments.{AreSpelled, CannotCall, texts_in}

abbrev pub trouble_of : RunFault → Trouble
trouble_of (run_faults.Call fault) = troubles.Call fault
trouble_of (run_faults.Start start_faults.NoMemory) = troubles.NoMemory
trouble_of (run_faults.Start start_faults.NoThread) = troubles.NoThread

abbrev pub trouble_of_recording : RecordRunFault → Trouble
trouble_of_recording (recording_faults.Open f) = troubles.NoMemory
trouble_of_recording (recording_faults.Run f) = trouble_of f
trouble_of_recording recording_faults.NoMemory = troubles.NoMemory

-- The first says that no function can be called so. The others are the system's.
abbrev pub IsTrouble : Parts → List ℕ → List (List ℕ) → Trouble → Type 0
IsTrouble m name texts (troubles.Call fault) = CannotCall m name texts
IsTrouble m name texts troubles.NoThread = Unit {0}
IsTrouble m name texts troubles.NoMemory = Unit {0}
IsTrouble m name texts troubles.Output = Unit {0}
IsTrouble m name texts troubles.Save = Unit {0}
IsTrouble m name texts troubles.SaveMemory = Unit {0}

-- That of a call in words.
abbrev pub IsTroubleOf : Parts → CallWords → Trouble → Type 0
IsTroubleOf m call = IsTrouble m call.invoke.now (texts_in call.args.items)

-- What comes of an object or lines that couldn't be written.
abbrev pub trouble_of_unwritten : Unwritten → Trouble
trouble_of_unwritten unwritten.NoMemory = troubles.NoMemory
trouble_of_unwritten unwritten.Output = troubles.Output

-- What was printed or kept couldn't be written.
abbrev pub IsUnwritten : Trouble → Type 0
IsUnwritten trouble = (trouble ≡ troubles.NoMemory) ⊎ (trouble ≡ troubles.Output) ⊎ (trouble ≡ troubles.Save)
    ⊎ (trouble ≡ troubles.SaveMemory)

-- The values that the texts of its arguments spell, which its function takes.
abbrev pub AreArgumentsOf : Parts → CallWords → List Value → Type 0
AreArgumentsOf m call args = AreSpelled (texts_in call.args.items) args × Takes m call.invoke.now args
