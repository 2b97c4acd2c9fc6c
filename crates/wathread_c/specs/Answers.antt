-- What goes out to a host.
use Rattle.std.specs.Prelude.{ℕ, ◌≡◌, ◌≤◌, ◌<◌, ◌++◌, List, length, drop, Some, None}
use Rattle.types.specs.Outcomes.{trap_number, stop_number}
use Rattle.types.specs.declared.outcome.Outcome.{Outcome}
use Rattle.types.specs.declared.outcome.Outcome.TheVariants as outcomes
use Rattle.types.specs.declared.outcome.ThreadReport.{ThreadReport}
use Rattle.types.specs.declared.value.Value.TheVariants as values
use Rattle.wathread_c.specs.declared.answer.CallAnswer.{CallAnswer}

-- Bytes stand at the beginning of a buffer that has room for them; else it is as it was.
pub record Puts (old bytes new : List ℕ) : Type 0 where
  pub fits : length bytes ≤ length old → new ≡ bytes ++ drop (length bytes) old
  pub too_long : length old < length bytes → new ≡ old

abbrev pub no_answer : CallAnswer
no_answer = record { text = 0; bytes = 0; units = 0; value = 0; kind = 0; number = 0 }

-- How a thread ended: its kind, the number of a trap or stop, and what its function returned.
abbrev pub kind_of : Outcome → ℕ
kind_of (outcomes.Done None) = 1
kind_of (outcomes.Done (Some (values.I32 n))) = 2
kind_of (outcomes.Done (Some (values.I64 n))) = 3
kind_of (outcomes.Trap trap) = 4
kind_of (outcomes.Stop stop) = 5

abbrev pub number_of : Outcome → ℕ
number_of (outcomes.Done value) = 0
number_of (outcomes.Trap trap) = trap_number trap
number_of (outcomes.Stop stop) = stop_number stop

abbrev pub value_of : Outcome → ℕ
value_of (outcomes.Done (Some (values.I32 n))) = n
value_of (outcomes.Done (Some (values.I64 n))) = n
value_of outcome = 0

abbrev pub answer_with : CallAnswer → ThreadReport → CallAnswer
answer_with a report = record a {
  units = report.spent;
  value = value_of report.outcome;
  kind = kind_of report.outcome;
  number = number_of report.outcome;
}
