-- The words of entries and of ends.
use Rattle.std.specs.Prelude.{ℕ, List, [], ◌∷◌, ◌++◌, codes, Option, Some, None}
use Rattle.std.specs.Fmt.{decimal, signed_decimal}
use Rattle.types.specs.declared.event.RmwOp.{RmwOp}
use Rattle.types.specs.declared.event.RmwOp.TheVariants as ops
use Rattle.types.specs.declared.event.Event.{Event}
use Rattle.types.specs.declared.event.Event.TheVariants.{Size, Grow, Load, Store, Rmw, Cmpxchg, Ask, Told}
use Rattle.types.specs.declared.event.Question.{Question}
use Rattle.types.specs.declared.event.Question.TheVariants.{Wait, Notify, Spawn, Leave}
use Rattle.types.specs.declared.event.Answer.{Answer}
use Rattle.types.specs.declared.event.Answer.TheVariants.{Number, ForGood}
use Rattle.types.specs.declared.event.Reply.{Reply}
use Rattle.types.specs.declared.event.Reply.TheVariants as replies
use Rattle.types.specs.declared.event.Entry.{Entry}
use Rattle.types.specs.declared.outcome.Outcome.{Outcome}
use Rattle.types.specs.declared.outcome.Outcome.TheVariants as outcomes
use Rattle.types.specs.declared.outcome.ThreadReport.{ThreadReport}
use Rattle.types.specs.declared.value.Value.{Value}
use Rattle.types.specs.Values.{value_text}
use Rattle.types.specs.Outcomes.{trap_number, stop_number}

abbrev pub op_word : RmwOp → List ℕ
op_word ops.Add = codes "add"
op_word ops.Sub = codes "sub"
op_word ops.And = codes "and"
op_word ops.Or = codes "or"
op_word ops.Xor = codes "xor"
op_word ops.Xchg = codes "xchg"

abbrev pub question_words : Question → List (List ℕ)
question_words (Wait addr width expected timeout) =
    codes "wait" ∷ decimal addr ∷ decimal width ∷ decimal expected ∷ signed_decimal timeout ∷ []
question_words (Notify addr count) = codes "notify" ∷ decimal addr ∷ decimal count ∷ []
question_words (Spawn arg) = codes "spawn" ∷ decimal arg ∷ []
question_words Leave = codes "leave" ∷ []

abbrev pub answer_word : Answer → List ℕ
answer_word (Number n) = decimal n
answer_word ForGood = codes "stop"

abbrev pub event_words : Event → List (List ℕ)
event_words Size = codes "size" ∷ []
event_words (Grow more) = codes "grow" ∷ decimal more ∷ []
event_words (Load addr width reach) = codes "load" ∷ decimal addr ∷ decimal width ∷ decimal reach ∷ []
event_words (Store addr width reach value) = codes "store" ∷ decimal addr ∷ decimal width ∷ decimal reach
    ∷ decimal value ∷ []
event_words (Rmw op addr width value) = codes "rmw" ∷ op_word op ∷ decimal addr ∷ decimal width ∷ decimal value ∷ []
event_words (Cmpxchg addr width expected replacement) =
    codes "cmpxchg" ∷ decimal addr ∷ decimal width ∷ decimal expected ∷ decimal replacement ∷ []
event_words (Ask question) = question_words question
event_words (Told answer) = codes "told" ∷ answer_word answer ∷ []

-- No entry has one of the last two.
abbrev pub reply_word : Reply → List ℕ
reply_word (replies.Value v) = decimal v
reply_word replies.Done = codes "done"
reply_word replies.OutOfBounds = codes "out"
reply_word replies.Again = codes "again"
reply_word replies.Full = codes "full"

-- What an event got, behind its words.
abbrev pub reply_words : Reply → List (List ℕ)
reply_words reply = codes "=" ∷ reply_word reply ∷ []

-- An entry: the thread's number, its event, and what that got.
abbrev pub entry_words : Entry → List (List ℕ)
entry_words e = decimal e.thread ∷ (event_words e.event ++ reply_words e.reply)

abbrev pub result_word : Option Value → List ℕ
result_word None = codes "-"
result_word (Some v) = value_text v

-- How a thread ended: with a result or none, or with the number of a trap or a stop.
abbrev pub outcome_words : Outcome → List (List ℕ)
outcome_words (outcomes.Done result) = codes "ok" ∷ result_word result ∷ []
outcome_words (outcomes.Trap t) = codes "trap" ∷ decimal (trap_number t) ∷ []
outcome_words (outcomes.Stop s) = codes "stop" ∷ decimal (stop_number s) ∷ []

-- The end of a thread: its number, how it ended, and the units that it spent.
abbrev pub end_words : ℕ → ThreadReport → List (List ℕ)
end_words thread report = codes "end" ∷ decimal thread ∷ (outcome_words report.outcome ++ decimal report.spent ∷ [])
