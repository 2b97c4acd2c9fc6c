-- The numbers of the faults of a recorded run.
use Rattle.std.specs.Prelude.{ℕ}
use Rattle.report_runs.specs.declared.recording.RecordRunFault.{RecordRunFault}
use Rattle.report_runs.specs.declared.recording.RecordRunFault.TheVariants as faults

abbrev pub record_run_fault_number : RecordRunFault → ℕ
record_run_fault_number (faults.Open f) = 1
record_run_fault_number (faults.Run f) = 2
record_run_fault_number faults.NoMemory = 3
