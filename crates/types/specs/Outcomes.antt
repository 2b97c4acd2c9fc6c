-- The numbers and the words of traps, stops and outcomes.
use Rattle.std.specs.Prelude.{ℕ, List, ◌++◌, codes, Option, Some, None}
use Rattle.types.specs.Values.{value_text}
use Rattle.types.specs.declared.value.Value.{Value}
use Rattle.types.specs.declared.outcome.Trap.{Trap}
use Rattle.types.specs.declared.outcome.Trap.TheVariants as traps
use Rattle.types.specs.declared.outcome.Stop.{Stop}
use Rattle.types.specs.declared.outcome.Stop.TheVariants as stops
use Rattle.types.specs.declared.outcome.Outcome.{Outcome}
use Rattle.types.specs.declared.outcome.Outcome.TheVariants as outcomes

-- A trap's number in a record.
abbrev pub trap_number : Trap → ℕ
trap_number traps.Unreachable = 1
trap_number traps.DivideByZero = 2
trap_number traps.IntegerOverflow = 3
trap_number traps.OutOfBounds = 4
trap_number traps.UnalignedAtomic = 5
trap_number traps.NotShared = 6
trap_number traps.UndefinedElement = 7
trap_number traps.UninitializedElement = 8
trap_number traps.SignatureMismatch = 9
trap_number traps.StackExhausted = 10

-- A trap as it is printed.
abbrev pub trap_words : Trap → List ℕ
trap_words traps.Unreachable = codes "unreachable"
trap_words traps.DivideByZero = codes "divide by zero"
trap_words traps.IntegerOverflow = codes "integer overflow"
trap_words traps.OutOfBounds = codes "out of bounds"
trap_words traps.UnalignedAtomic = codes "unaligned atomic"
trap_words traps.NotShared = codes "not shared"
trap_words traps.UndefinedElement = codes "undefined element"
trap_words traps.UninitializedElement = codes "uninitialized element"
trap_words traps.SignatureMismatch = codes "signature mismatch"
trap_words traps.StackExhausted = codes "stack exhausted"

-- A stop's number in a record.
abbrev pub stop_number : Stop → ℕ
stop_number stops.OutOfFuel = 1
stop_number stops.AsleepForGood = 2
stop_number stops.RecordFull = 3

-- A stop as it is printed.
abbrev pub stop_words : Stop → List ℕ
stop_words stops.OutOfFuel = codes "out of fuel"
stop_words stops.AsleepForGood = codes "asleep for good"
stop_words stops.RecordFull = codes "record full"

-- What a thread returned, as it is printed.
abbrev pub result_text : Option Value → List ℕ
result_text None = codes "ok"
result_text (Some v) = codes "ok " ++ value_text v

-- An outcome as it is printed behind the thread's number.
abbrev pub outcome_text : Outcome → List ℕ
outcome_text (outcomes.Done result) = result_text result
outcome_text (outcomes.Trap t) = codes "trap " ++ trap_words t
outcome_text (outcomes.Stop s) = codes "stop " ++ stop_words s
