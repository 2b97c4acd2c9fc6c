-- What is printed of a run of a module of one atomic add.
use Rattle.std.specs.Prelude.{ℕ, ◌≡◌, ◌++◌, List, if◌then◌else◌, Option}
use Rattle.std.specs.Io.KnownBytes.{Appends}
use Rattle.report_lines.specs.Lines.{thread_line, pages_line, bytes_line}
use Rattle.report_first.specs.First.{IsFirstModule, is_aligned, first_outcome, page_after}
use Rattle.report_first.specs.declared.bytes_to_lines.FirstFault.{FirstFault}
use Rattle.report_first.specs.declared.bytes_to_lines.FirstFault.TheVariants as faults

-- The lines: the thread's, that of one page, and the first bytes where they are wanted.
abbrev pub first_lines : ℕ → ℕ → ℕ → List ℕ
first_lines address addend dump = thread_line 0 (first_outcome address) ++ pages_line 1 ++ bytes_line dump
    (page_after address addend)

-- The status with which the program ends.
abbrev pub first_status : ℕ → ℕ
first_status address = if is_aligned address then 0 else 1

-- The bytes are such a module, and what was written is its lines.
pub record IsFirstRun (bytes : List ℕ) (dump status : ℕ) (old new : Option (List ℕ)) : Type 0 where
  pub address : ℕ
  pub addend : ℕ
  pub module_is : IsFirstModule bytes address addend
  pub status_is : status ≡ first_status address
  pub lines : Appends old new (first_lines address addend dump)

-- The numbers of the faults.
abbrev pub first_fault_number : FirstFault → ℕ
first_fault_number faults.NotHere = 1
first_fault_number faults.Memory = 2
first_fault_number faults.Writer = 3
