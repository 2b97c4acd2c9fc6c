-- Why a record could not be read.
use Rattle.std.specs.Prelude.{◌≡◌, ℕ, List, Option, Some, None, Result, Ok, Err}
use Rattle.std.specs.Borrow.{Bor}
use Rattle.replay_forms.specs.Reading.{Reader}
use Rattle.replay_text.specs.declared.fault.RecordFault.{RecordFault}
use Rattle.replay_text.specs.declared.fault.WriteFault.{WriteFault}
use Rattle.replay_text.specs.declared.fault.WriteFault.TheVariants as writes
use Rattle.replay_text.specs.declared.fault.RecordFault.TheVariants.{Header, Unreadable, EndMissing, NoMemory}

-- A fault other than out of memory comes only where reading gives nothing, and is the one that is wanted.
abbrev pub Fails : {Y : Type 0} → RecordFault → RecordFault → Option Y → Type 0
Fails NoMemory fault read = Unit {0}
Fails (Header line) fault read = (read ≡ None) × (Header line ≡ fault)
Fails (Unreadable line) fault read = (read ≡ None) × (Unreadable line ≡ fault)
Fails EndMissing fault read = (read ≡ None) × (EndMissing ≡ fault)

-- What a reader answers: what is read where it answers Ok; and where it refuses, nothing is read, and this is the
-- fault.
abbrev pub Gives : {X Y : Type 0} → (X → Y) → Result X RecordFault → RecordFault → Option Y → Type 0
Gives view (Ok x) fault read = read ≡ Some (view x)
Gives view (Err e) fault read = Fails e fault read

-- What is wrong with bytes that aren't read.
abbrev pub Refusal : Type 0
Refusal = List ℕ → RecordFault

-- What a reader of lines answers: the value, seen by view, and the bytes behind the lines.
abbrev pub GivesLinesAs : {X A : Type 0} → (X → A) → Reader A → Refusal → List ℕ → Result (X × Bor (List ℕ)) RecordFault
    → Type 0
GivesLinesAs view at fault bytes result = Gives (λ r. (view r.0, r.1.now)) result (fault bytes) (at bytes)

abbrev pub GivesLines : {A : Type 0} → Reader A → Refusal → List ℕ → Result (A × Bor (List ℕ)) RecordFault → Type 0
GivesLines at fault bytes result = GivesLinesAs (λ x. x) at fault bytes result

abbrev pub record_fault_number : RecordFault → ℕ
record_fault_number (Header line) = 1
record_fault_number (Unreadable line) = 2
record_fault_number EndMissing = 3
record_fault_number NoMemory = 4

abbrev pub write_fault_number : WriteFault → ℕ
write_fault_number writes.Writer = 1
write_fault_number writes.NoMemory = 2
