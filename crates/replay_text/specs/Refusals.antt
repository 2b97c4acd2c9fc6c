-- What the reader says of bytes that aren't read: the fault of the first of its readings that gives nothing.
use Rattle.std.specs.Prelude.{ℕ, ◌+◌, ◌-◌, ◌*◌, ◌==◌, cond, List, [], ◌∷◌, length, Option, Some, None}
use Rattle.std.specs.List.{list_any}
use Rattle.types.specs.declared.event.Entry.{Entry}
use Rattle.replay_forms.specs.Reading.{Reader, word_for, several}
use Rattle.replay_text.specs.Faults.{Refusal}
use Rattle.replay_text.specs.Versions.{header_count}
use Rattle.replay_text.specs.Reading.{second_line, module_at, threads_at, scale_at, invoke_at, args_at, fuel_at}
use Rattle.replay_text.specs.Reading.{entry_at, end_at, pages_at, header_at, body_at, Header, Body}
use Rattle.replay_text.specs.Reading.{threads_in, max_pages_in, limit_in}
use Rattle.replay_text.specs.declared.version.Version.TheVariants as versions
use Rattle.replay_text.specs.declared.fault.RecordFault.{RecordFault}
use Rattle.replay_text.specs.declared.fault.RecordFault.TheVariants as faults

-- The fault where nothing is read, and else what is said of the rest.
abbrev pub fault_or : {A : Type 0} → Option (A × List ℕ) → RecordFault → (A → Refusal) → RecordFault
fault_or None fault next = fault
fault_or (Some x) fault next = next x.0 x.1

abbrev pub or_next : {A : Type 0} → Reader A → RecordFault → Refusal → Refusal
or_next at fault next bytes = fault_or (at bytes) fault (λ x. next)

-- A header line of this number.
abbrev pub header_line : ℕ → Refusal
header_line line bytes = faults.Header line

-- The line of this number, behind the header: no line, if no line feed is left.
abbrev pub body_line : ℕ → Refusal
body_line line bytes = cond (list_any (λ b. b == 10) bytes) (faults.Unreadable line) faults.EndMissing

abbrev pub scale_refusal : Refusal
scale_refusal = or_next (word_for versions.Two second_line) (faults.Header 1)
    (or_next module_at (faults.Header 2) (or_next threads_at (faults.Header 3) (header_line 4)))

-- The lines of the fuel and of the limit, from this one on.
abbrev pub budget_refusal : ℕ → Refusal
budget_refusal line = or_next fuel_at (faults.Header line) (header_line (line + 1))

-- The lines of the call, where the last is of this number.
abbrev pub call_refusal : ℕ → Refusal
call_refusal last = or_next invoke_at (faults.Header (last - 3))
    (or_next args_at (faults.Header (last - 2)) (budget_refusal (last - 1)))

abbrev pub header_refusal : Refusal
header_refusal bytes = fault_or (scale_at bytes) (scale_refusal bytes) (λ s. call_refusal (header_count s.0))

-- The pages after the run, and the last line, from this one on.
abbrev pub last_refusal : ℕ → ℕ → Refusal
last_refusal max_pages line bytes =
    fault_or (pages_at max_pages bytes) (body_line line bytes) (λ pages. body_line (line + 1))

abbrev pub behind_ends : {A : Type 0} → ℕ → ℕ → List A → Refusal
behind_ends max_pages line [] rest = body_line line rest
behind_ends max_pages line (x ∷ xs) rest = last_refusal max_pages (line + length (x ∷ xs)) rest

-- The end lines, and what stands behind them, from this line on.
abbrev pub ends_refusal : ℕ → ℕ → ℕ → Refusal
ends_refusal threads max_pages line bytes =
    behind_ends max_pages line (several end_at 0 threads bytes).0 (several end_at 0 threads bytes).1

abbrev pub behind_log : ℕ → ℕ → ℕ → List Entry × List ℕ → RecordFault
behind_log threads max_pages header p = ends_refusal threads max_pages (header + length p.0 + 1) p.1

-- What stands behind so many lines of a header.
abbrev pub body_refusal : ℕ → ℕ → ℕ → ℕ → Refusal
body_refusal header threads max_pages limit bytes =
    behind_log threads max_pages header (several (λ place. entry_at threads) 0 (limit + 3 * threads) bytes)

-- What is said behind a body: the line of this number is one too many.
abbrev pub left_refusal : ℕ → Body → Refusal
left_refusal header body rest = faults.Unreadable (header + length body.0 + length (body.1).0 + 3)

abbrev pub behind_header : Header → Refusal
behind_header h bytes = fault_or (body_at (threads_in h) (max_pages_in h) (limit_in h) bytes)
    (body_refusal (header_count (h.0).0) (threads_in h) (max_pages_in h) (limit_in h) bytes)
    (left_refusal (header_count (h.0).0))

abbrev pub record_refusal : Refusal
record_refusal bytes = fault_or (header_at bytes) (header_refusal bytes) behind_header
