-- The numbers of the faults of a replay.
use Rattle.std.specs.Prelude.{ℕ}
use Rattle.replay.specs.declared.fault.ReplayFault.{ReplayFault}
use Rattle.replay.specs.declared.fault.ReplayFault.TheVariants as faults

abbrev pub replay_fault_number : ReplayFault → ℕ
replay_fault_number (faults.Line n) = 1
replay_fault_number (faults.EndLine n) = 2
replay_fault_number faults.NoMemory = 3
