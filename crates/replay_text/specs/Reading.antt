-- Reading the lines of a record.
use Rattle.std.specs.Prelude.{ℕ, ◌+◌, ◌-◌, ◌*◌, ◌^◌, ◌==◌, ◌&&◌, cond, codes, List, [], ◌∷◌, ◌++◌, Option, Some, None}
use Rattle.std.specs.Prelude.{if◌then◌else◌}
use Rattle.std.specs.Str.{is_utf8}
use Rattle.types.specs.declared.value.Value.{Value}
use Rattle.types.specs.declared.value.Value.TheVariants as values
use Rattle.types.specs.declared.event.RmwOp.{RmwOp}
use Rattle.types.specs.declared.event.RmwOp.TheVariants as ops
use Rattle.types.specs.declared.event.Event.{Event}
use Rattle.types.specs.declared.event.Event.TheVariants.{Size, Grow, Load, Store, Rmw, Cmpxchg, Ask, Told}
use Rattle.types.specs.declared.event.Question.TheVariants.{Wait, Notify, Spawn, Leave}
use Rattle.types.specs.declared.event.Answer.TheVariants.{Number, ForGood}
use Rattle.types.specs.declared.event.Reply.{Reply}
use Rattle.types.specs.declared.event.Reply.TheVariants as replies
use Rattle.types.specs.declared.event.Entry.{Entry}
use Rattle.types.specs.declared.outcome.Trap.{Trap}
use Rattle.types.specs.declared.outcome.Trap.TheVariants as traps
use Rattle.types.specs.declared.outcome.Stop.{Stop}
use Rattle.types.specs.declared.outcome.Stop.TheVariants as stops
use Rattle.types.specs.declared.outcome.Outcome.{Outcome}
use Rattle.types.specs.declared.outcome.Outcome.TheVariants as outcomes
use Rattle.types.specs.declared.outcome.ThreadReport.{ThreadReport}
use Rattle.types.specs.declared.limits.TheConstants.{MOST_PAGES, MOST_THREADS, MOST_SPAWNED, MOST_LIMIT, MOST_FUEL}
use Rattle.types.specs.declared.limits.TheConstants.{MOST_MODULE_BYTES}
use Rattle.replay_forms.specs.Reading.{◌>>=◌, Reader, after, number_within, number_then, signed_then, behind, both}
use Rattle.replay_forms.specs.Reading.{made, word_for, first, several, listed, hex_byte_at}
use Rattle.shared_memory.specs.Conditions.{is_event}
use Rattle.replay_text.specs.Conditions.{is_reply_to}
use Rattle.replay_text.specs.Versions.{first_threads, first_pages}
use Rattle.replay_text.specs.declared.version.Version.{Version}
use Rattle.replay_text.specs.declared.version.Version.TheVariants as versions
use Rattle.replay_text.specs.declared.parts.RecordParts.{RecordParts}

-- Numbers of 8, 32 and 64 bits, and the space behind them.
abbrev pub u8_at : Reader ℕ
u8_at = number_then 255 (32 ∷ [])

abbrev pub u32_at : Reader ℕ
u32_at = number_then (2 ^ 32 - 1) (32 ∷ [])

abbrev pub u64_at : Reader ℕ
u64_at = number_then (2 ^ 64 - 1) (32 ∷ [])

-- An address, a width, and one or two numbers of 64 bits.
abbrev pub access_numbers_at : Reader (ℕ × (ℕ × ℕ))
access_numbers_at = both u64_at (both u8_at u64_at)

abbrev pub four_numbers_at : Reader (ℕ × (ℕ × (ℕ × ℕ)))
four_numbers_at = both u64_at (both u8_at (both u64_at u64_at))

abbrev pub op_at : Reader RmwOp
op_at =
    first (word_for ops.Add (codes "add "))
    (first (word_for ops.Sub (codes "sub "))
    (first (word_for ops.And (codes "and "))
    (first (word_for ops.Or (codes "or "))
    (first (word_for ops.Xor (codes "xor "))
    (word_for ops.Xchg (codes "xchg "))))))

abbrev pub load_at : Reader Event
load_at = made (λ x. Some (Load x.0 (x.1).0 (x.1).1)) (behind (codes "load ") access_numbers_at)

abbrev pub store_at : Reader Event
store_at = made (λ x. Some (Store x.0 (x.1).0 ((x.1).1).0 ((x.1).1).1))
    (behind (codes "store ") four_numbers_at)

abbrev pub rmw_at : Reader Event
rmw_at = made (λ x. Some (Rmw x.0 (x.1).0 ((x.1).1).0 ((x.1).1).1))
    (behind (codes "rmw ") (both op_at access_numbers_at))

abbrev pub cmpxchg_at : Reader Event
cmpxchg_at = made (λ x. Some (Cmpxchg x.0 (x.1).0 ((x.1).1).0 ((x.1).1).1))
    (behind (codes "cmpxchg ") four_numbers_at)

abbrev pub wait_at : Reader Event
wait_at = made (λ x. Some (Ask (Wait x.0 (x.1).0 ((x.1).1).0 ((x.1).1).1)))
    (behind (codes "wait ") (both u64_at (both u8_at (both u64_at (signed_then (32 ∷ []))))))

abbrev pub notify_at : Reader Event
notify_at = made (λ x. Some (Ask (Notify x.0 x.1))) (behind (codes "notify ") (both u64_at u32_at))

abbrev pub spawn_at : Reader Event
spawn_at = made (λ n. Some (Ask (Spawn n))) (behind (codes "spawn ") u32_at)

abbrev pub grow_at : Reader Event
grow_at = made (λ n. Some (Grow n)) (behind (codes "grow ") u32_at)

abbrev pub told_at : Reader Event
told_at = made (λ n. Some (Told (Number n))) (behind (codes "told ") u32_at)

-- The events that have an address.
abbrev pub access_at : Reader Event
access_at = first load_at (first store_at (first rmw_at (first cmpxchg_at (first wait_at notify_at))))

-- The other events.
abbrev pub plain_at : Reader Event
plain_at =
    first spawn_at
    (first grow_at
    (first told_at
    (first (word_for (Told ForGood) (codes "told stop "))
    (first (word_for (Ask Leave) (codes "leave "))
    (word_for Size (codes "size "))))))

-- An event's words, and the space behind them.
abbrev pub event_at : Reader Event
event_at = first access_at plain_at

abbrev pub reply_at : Reader Reply
reply_at =
    first (made (λ v. Some (replies.Value v)) (number_then (2 ^ 64 - 1) (10 ∷ [])))
    (first (word_for replies.Done (codes "done" ++ 10 ∷ []))
    (word_for replies.OutOfBounds (codes "out" ++ 10 ∷ [])))

-- An entry of one of so many threads, where the event meets its conditions and the reply is of the right kind.
abbrev pub entry_of : ℕ × (Event × Reply) → Option Entry
entry_of x = cond (is_event (x.1).0 && is_reply_to (x.1).0 (x.1).1)
    (Some (record { thread = x.0; event = (x.1).0; reply = (x.1).1 })) None

unfoldable pub entry_at : ℕ → Reader Entry
entry_at threads bytes = made entry_of
    (both (number_then (threads - 1) (32 ∷ [])) (both event_at (behind (codes "= ") reply_at))) bytes

abbrev pub i32_at : Reader Value
i32_at = made (λ n. Some (values.I32 n)) (behind (codes "i32:") (number_within (2 ^ 32 - 1)))

abbrev pub i64_at : Reader Value
i64_at = made (λ n. Some (values.I64 n)) (behind (codes "i64:") (number_within (2 ^ 64 - 1)))

abbrev pub value_at : Reader Value
value_at = first i32_at i64_at

abbrev pub trap_of : ℕ → Option Trap
trap_of n =
    if n == 1 then Some traps.Unreachable
    else if n == 2 then Some traps.DivideByZero
    else if n == 3 then Some traps.IntegerOverflow
    else if n == 4 then Some traps.OutOfBounds
    else if n == 5 then Some traps.UnalignedAtomic
    else if n == 6 then Some traps.NotShared
    else if n == 7 then Some traps.UndefinedElement
    else if n == 8 then Some traps.UninitializedElement
    else if n == 9 then Some traps.SignatureMismatch
    else if n == 10 then Some traps.StackExhausted
    else None

abbrev pub stop_of : ℕ → Option Stop
stop_of n =
    if n == 1 then Some stops.OutOfFuel
    else if n == 2 then Some stops.AsleepForGood
    else if n == 3 then Some stops.RecordFull
    else None

-- A value, and the space behind it.
abbrev pub result_at : Reader Outcome
result_at bytes = value_at bytes >>= λ v. after (32 ∷ []) v.1 >>= λ rest. Some (outcomes.Done (Some v.0), rest)

abbrev pub trap_at : Reader Outcome
trap_at = made (λ n. trap_of n >>= λ t. Some (outcomes.Trap t)) (behind (codes "trap ") (number_then 10 (32 ∷ [])))

abbrev pub stop_at : Reader Outcome
stop_at = made (λ n. stop_of n >>= λ s. Some (outcomes.Stop s)) (behind (codes "stop ") (number_then 3 (32 ∷ [])))

abbrev pub outcome_at : Reader Outcome
outcome_at =
    first (word_for (outcomes.Done None) (codes "ok - "))
    (first (behind (codes "ok ") result_at)
    (first trap_at stop_at))

abbrev pub report_of : ℕ → ℕ × (Outcome × ℕ) → Option ThreadReport
report_of thread x = cond (x.0 == thread) (Some (record { outcome = (x.1).0; spent = (x.1).1 })) None

-- The end of this thread.
unfoldable pub end_at : ℕ → Reader ThreadReport
end_at thread bytes = made (report_of thread)
    (behind (codes "end ") (both (number_then MOST_SPAWNED (32 ∷ []))
    (both outcome_at (number_then MOST_FUEL (10 ∷ []))))) bytes

abbrev pub above_zero : ℕ → Option ℕ
above_zero n = cond (n == 0) None (Some n)

-- A line of a word and a number, which isn't 0.
abbrev pub count_at : List ℕ → ℕ → Reader ℕ
count_at word max = made above_zero (behind word (number_then max (10 ∷ [])))

-- The version, the module's length, and how many threads and pages there may be.
abbrev pub Scale : Type 0
Scale = Version × (ℕ × (ℕ × ℕ))

abbrev pub first_line : List ℕ
first_line = codes "wathread-record 1" ++ 10 ∷ []

abbrev pub second_line : List ℕ
second_line = codes "wathread-record 2" ++ 10 ∷ []

abbrev pub one_at : Reader Scale
one_at = word_for (versions.One, (0, (first_threads, first_pages))) first_line

abbrev pub module_at : Reader ℕ
module_at = behind (codes "module ") (number_then MOST_MODULE_BYTES (10 ∷ []))

abbrev pub threads_at : Reader ℕ
threads_at = count_at (codes "threads ") MOST_THREADS

abbrev pub max_pages_at : Reader ℕ
max_pages_at = count_at (codes "max-pages ") MOST_PAGES

abbrev pub two_at : Reader Scale
two_at = made (λ x. Some (versions.Two, x)) (behind second_line (both module_at (both threads_at max_pages_at)))

unfoldable pub scale_at : Reader Scale
scale_at bytes = first one_at two_at bytes

abbrev pub named : List ℕ → Option (List ℕ)
named [] = None
named (b ∷ bytes) = cond (is_utf8 (b ∷ bytes)) (Some (b ∷ bytes)) None

unfoldable pub invoke_at : Reader (List ℕ)
invoke_at bytes = behind (codes "invoke ")
    (first (word_for [] (codes "-" ++ 10 ∷ [])) (made named (listed (λ place. hex_byte_at) (10 ∷ [])))) bytes

abbrev pub arg_at : Reader Value
arg_at = behind (32 ∷ []) value_at

unfoldable pub args_at : Reader (List Value)
args_at bytes = behind (codes "args") (listed (λ place. arg_at) (10 ∷ [])) bytes

abbrev pub fuel_at : Reader ℕ
fuel_at = behind (codes "fuel ") (number_then MOST_FUEL (10 ∷ []))

abbrev pub limit_at : Reader ℕ
limit_at = count_at (codes "limit ") MOST_LIMIT

abbrev pub pages_at : ℕ → Reader ℕ
pages_at max_pages = behind (codes "pages ") (number_then max_pages (10 ∷ []))

abbrev pub last_line : List ℕ
last_line = codes "finish" ++ 10 ∷ []

-- The pages after the run, and the last line.
abbrev pub last_lines_at : ℕ → Reader ℕ
last_lines_at max_pages bytes =
    pages_at max_pages bytes >>= λ pages. after last_line pages.1 >>= λ rest. Some (pages.0, rest)

abbrev pub Header : Type 0
Header = Scale × (List ℕ × (List Value × (ℕ × ℕ)))

unfoldable pub header_at : Reader Header
header_at bytes = both scale_at (both invoke_at (both args_at (both fuel_at limit_at))) bytes

abbrev pub threads_in : Header → ℕ
threads_in h = (((h.0).1).1).0

abbrev pub max_pages_in : Header → ℕ
max_pages_in h = (((h.0).1).1).1

abbrev pub limit_in : Header → ℕ
limit_in h = (((h.1).1).1).1

abbrev pub Body : Type 0
Body = List Entry × (List ThreadReport × ℕ)

abbrev pub some_items : {A : Type 0} → List A → Option (List A)
some_items [] = None
some_items (x ∷ xs) = Some (x ∷ xs)

-- The end lines, of so many threads at most, and what stands behind them.
unfoldable pub ends_at : ℕ → ℕ → Reader (List ThreadReport × ℕ)
ends_at threads max_pages bytes = some_items (several end_at 0 threads bytes).0 >>= λ ends. pages_at max_pages
    (several end_at 0 threads bytes).1 >>= λ pages. after last_line pages.1 >>= λ rest. Some (
      (ends, pages.0),
      rest,
    )

-- What stands behind the header of a run with so many threads and pages, whose log took so many entries before it was
-- full.
unfoldable pub body_at : ℕ → ℕ → ℕ → Reader Body
body_at threads max_pages limit bytes =
    ends_at threads max_pages (several (λ place. entry_at threads) 0 (limit + 3 * threads) bytes).1 >>= λ x. Some
    (((several (λ place. entry_at threads) 0 (limit + 3 * threads) bytes).0, x.0), x.1)

abbrev pub parts_of : Header → Body → RecordParts
parts_of h b = record {
  version = (h.0).0;
  module_len = ((h.0).1).0;
  threads = threads_in h;
  max_pages = max_pages_in h;
  invoke = (h.1).0;
  args = ((h.1).1).0;
  fuel = (((h.1).1).1).0;
  limit = limit_in h;
  log = b.0;
  ends = (b.1).0;
  pages = (b.1).1;
}

abbrev pub nothing_left : {A : Type 0} → List ℕ → A → Option A
nothing_left [] x = Some x
nothing_left (b ∷ bytes) x = None

-- The record that the bytes are the text of.
unfoldable pub record_at : List ℕ → Option RecordParts
record_at bytes =
    header_at bytes >>= λ h. body_at (threads_in h.0) (max_pages_in h.0) (limit_in h.0) h.1 >>= λ b. nothing_left b.1
    (parts_of h.0 b.0)
