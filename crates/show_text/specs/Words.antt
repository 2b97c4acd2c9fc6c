-- An entry in words.
use Rattle.std.specs.Prelude.{ℕ, ℤ, pos, negsuc, ◌*◌, ◌==◌, Bool, false, nat_lt, if◌then◌else◌}
use Rattle.std.specs.Prelude.{List, [], ◌++◌, codes, flat_map, Option, Some, None}
use Rattle.std.specs.Fmt.{decimal}
use Rattle.types.specs.declared.event.RmwOp.{RmwOp}
use Rattle.types.specs.declared.event.RmwOp.TheVariants as ops
use Rattle.types.specs.declared.event.Event.{Event}
use Rattle.types.specs.declared.event.Event.TheVariants.{Size, Grow, Load, Store, Rmw, Cmpxchg, Ask, Told}
use Rattle.types.specs.declared.event.Question.{Question}
use Rattle.types.specs.declared.event.Question.TheVariants.{Wait, Notify, Spawn, Leave}
use Rattle.types.specs.declared.event.Answer.{Answer}
use Rattle.types.specs.declared.event.Answer.TheVariants.{Number, ForGood}
use Rattle.types.specs.declared.event.Reply.{Reply}
use Rattle.types.specs.declared.event.Reply.TheVariants as replies
use Rattle.types.specs.declared.outcome.Outcome.{Outcome}
use Rattle.types.specs.Outcomes.{outcome_text}
use Rattle.show_text.specs.declared.context.Context.{Context}
use Rattle.show_text.specs.declared.context.Context.TheVariants.{Answered, Asked}
use Rattle.show_text.specs.declared.woken.Wake.{Wake}
use Rattle.show_text.specs.declared.number.NumberForm.{NumberForm}
use Rattle.show_text.specs.Numbers.{formed_text, is_negative}
use Rattle.show_text.specs.declared.words.Words.{Words}

abbrev pub op_name : RmwOp → List ℕ
op_name ops.Add = codes "add"
op_name ops.Sub = codes "sub"
op_name ops.And = codes "and"
op_name ops.Or = codes "or"
op_name ops.Xor = codes "xor"
op_name ops.Xchg = codes "xchg"

-- What stands before the operand; of an addition nothing where that begins with a minus.
abbrev pub op_sign : RmwOp → Bool → List ℕ
op_sign ops.Add is_negative = if is_negative then [] else codes "+"
op_sign ops.Sub is_negative = if is_negative then codes "- " else codes "-"
op_sign ops.And is_negative = codes "& "
op_sign ops.Or is_negative = codes "| "
op_sign ops.Xor is_negative = codes "^ "
op_sign ops.Xchg is_negative = codes "<- "

-- How the numbers of an access of so many bytes are told.
abbrev pub form_of : Words → ℕ → NumberForm
form_of w width = record { width = width; is_signed = w.is_signed }

-- How one is that is no data's.
abbrev pub plain_form : NumberForm
plain_form = record { width = 4; is_signed = false }

-- The number in a reply.
abbrev pub reply_text : NumberForm → Reply → List ℕ
reply_text form (replies.Value n) = formed_text form n
reply_text form replies.Done = codes "done"
reply_text form replies.OutOfBounds = codes "out of bounds"
reply_text form replies.Again = codes "again"
reply_text form replies.Full = codes "full"

-- The pages before a memory grew.
abbrev pub grown_text : Reply → List ℕ
grown_text (replies.Value n) = if n == 4294967295 then codes "refused" else decimal n
grown_text reply = reply_text plain_form reply

-- How many bits are accessed, where they aren't 32.
abbrev pub bits_text : ℕ → List ℕ
bits_text width = if width == 4 then [] else decimal (width * 8)

abbrev pub atomic_text : Bool → List ℕ
atomic_text is_atomic = if is_atomic then codes "atomic " else []

-- What a store overwrote.
abbrev pub before_text : NumberForm → Option ℕ → List ℕ
before_text form None = []
before_text form (Some before) = codes " (had " ++ formed_text form before ++ codes ")"

abbrev pub stored_text : NumberForm → Reply → Option ℕ → List ℕ
stored_text form replies.OutOfBounds before = codes ": out of bounds"
stored_text form reply before = before_text form before

-- What stood there in place of the expected number.
abbrev pub exchanged_text : NumberForm → Reply → ℕ → List ℕ
exchanged_text form (replies.Value n) expected = if n == expected then [] else codes ": has " ++ formed_text form n
exchanged_text form reply expected = codes ": out of bounds"

-- How long one sleeps at most; a time below 0 has no end.
abbrev pub limit_text : ℤ → List ℕ
limit_text (pos n) = if nat_lt 0 n then codes ", at most " ++ decimal n ++ codes " ns" else []
limit_text (negsuc n) = []

abbrev pub ends_at_once : ℤ → Bool
ends_at_once (pos n) = n == 0
ends_at_once (negsuc n) = false

abbrev pub while_text : NumberForm → ℕ → ℕ → List ℕ
while_text form addr expected = decimal addr ++ codes " while " ++ formed_text form expected

abbrev pub asleep_text : NumberForm → ℕ → ℕ → ℤ → List ℕ
asleep_text form addr expected timeout = if ends_at_once timeout
    then codes "wait " ++ while_text form addr expected ++ codes ": no time to sleep"
    else codes "sleeps on " ++ while_text form addr expected ++ limit_text timeout

abbrev pub wait_text : NumberForm → ℕ → ℕ → ℤ → Reply → List ℕ
wait_text form addr expected timeout (replies.Value n) = if n == expected then asleep_text form addr expected timeout
    else codes "wait " ++ while_text form addr expected ++ codes ": has " ++ formed_text form n
wait_text form addr expected timeout reply = codes "wait " ++ while_text form addr expected ++ codes ": out of bounds"

abbrev pub count_text : ℕ → List ℕ
count_text count = if count == 4294967295 then [] else codes ", at most " ++ decimal count

abbrev pub wake_text : Wake → List ℕ
wake_text wake = codes " t" ++ decimal wake.thread

-- Whom a notify woke, by its reply.
abbrev pub woken_text : Reply → List Wake → List ℕ
woken_text replies.OutOfBounds woken = codes ": out of bounds"
woken_text reply [] = codes ": wakes nobody"
woken_text reply woken = codes ": wakes" ++ flat_map wake_text woken

abbrev pub arg_text : ℕ → List ℕ
arg_text arg = codes " (arg " ++ decimal arg ++ codes ")"

abbrev pub started_text : ℕ → ℕ → List ℕ
started_text thread arg = if thread == 4294967295 then codes "spawns nobody: all threads are taken" ++ arg_text arg
    else codes "spawns t" ++ decimal thread ++ arg_text arg

abbrev pub spawn_text : Context → ℕ → List ℕ
spawn_text (Answered (Number thread)) arg = started_text thread arg
spawn_text context arg = codes "spawns" ++ arg_text arg

abbrev pub leave_text : Option Outcome → List ℕ
leave_text None = codes "ends"
leave_text (Some outcome) = codes "ends: " ++ outcome_text outcome

abbrev pub question_text : Words → Question → List ℕ
question_text w (Wait addr width expected timeout) = wait_text (form_of w width) addr expected timeout w.entry.reply
question_text w (Notify addr count) =
    codes "notify " ++ decimal addr ++ count_text count ++ woken_text w.entry.reply w.woken.now
question_text w (Spawn arg) = spawn_text w.context arg
question_text w Leave = leave_text w.outcome

-- How a wait ended, by the number that is answered.
abbrev pub waited_text : ℕ → List ℕ
waited_text n = if n == 0 then codes "woken" else if n == 1 then codes "goes on: another value"
    else if n == 2 then codes "times out" else codes "told " ++ decimal n

abbrev pub spawned_text : ℕ → List ℕ
spawned_text thread = if thread == 4294967295 then codes "spawned nobody" else codes "spawned t" ++ decimal thread

-- A number that is answered to a question.
abbrev pub told_text : Question → ℕ → List ℕ
told_text (Wait addr width expected timeout) n = waited_text n
told_text (Notify addr count) n = codes "woke " ++ decimal n
told_text (Spawn arg) n = spawned_text n
told_text Leave n = codes "gone"

abbrev pub number_text : Context → ℕ → List ℕ
number_text (Asked question before) n = told_text question n
number_text context n = codes "told " ++ decimal n

abbrev pub answer_text : Context → Answer → List ℕ
answer_text context ForGood = codes "asleep for good"
answer_text context (Number n) = number_text context n

abbrev pub load_text : Words → ℕ → ℕ → List ℕ
load_text w addr width = atomic_text w.is_atomic ++ codes "load" ++ decimal (width * 8) ++ codes " " ++ decimal addr
    ++ codes " = " ++ reply_text (form_of w width) w.entry.reply

abbrev pub store_text : Words → ℕ → ℕ → ℕ → List ℕ
store_text w addr width value = atomic_text w.is_atomic ++ codes "store" ++ decimal (width * 8) ++ codes " "
    ++ decimal addr ++ codes " <- " ++ formed_text (form_of w width) value
    ++ stored_text (form_of w width) w.entry.reply w.before

abbrev pub rmw_text : Words → RmwOp → ℕ → ℕ → ℕ → List ℕ
rmw_text w op addr width value = op_name op ++ bits_text width ++ codes " " ++ decimal addr ++ codes " "
    ++ op_sign op (is_negative (form_of w width) value) ++ formed_text (form_of w width) value
    ++ codes " = " ++ reply_text (form_of w width) w.entry.reply

-- What the thread does, and what that comes to.
abbrev pub event_text : Words → Event → List ℕ
event_text w Size = codes "size = " ++ reply_text plain_form w.entry.reply
event_text w (Grow more) = codes "grow +" ++ decimal more ++ codes " = " ++ grown_text w.entry.reply
event_text w (Load addr width reach) = load_text w addr width
event_text w (Store addr width reach value) = store_text w addr width value
event_text w (Rmw op addr width value) = rmw_text w op addr width value
event_text w (Cmpxchg addr width expected replacement) = codes "cmpxchg" ++ bits_text width ++ codes " "
    ++ decimal addr ++ codes " " ++ formed_text (form_of w width) expected ++ codes " -> "
    ++ formed_text (form_of w width) replacement ++ exchanged_text (form_of w width) w.entry.reply expected
event_text w (Ask question) = question_text w question
event_text w (Told answer) = answer_text w.context answer

abbrev pub words_text : Words → List ℕ
words_text w = event_text w w.entry.event
