-- The numbers and the words of the faults of opening.
use Rattle.std.specs.Prelude.{ℕ, List, codes}
use Rattle.shared_memory_sequential.specs.declared.fault.OpenFault.{OpenFault}
use Rattle.shared_memory_sequential.specs.declared.fault.OpenFault.TheVariants.{NoMemory, PastLimit}

-- A fault's number.
abbrev pub fault_number : OpenFault → ℕ
fault_number NoMemory = 1
fault_number PastLimit = 2

-- A fault as it is printed.
abbrev pub fault_words : OpenFault → List ℕ
fault_words NoMemory = codes "no memory"
fault_words PastLimit = codes "past a limit"
