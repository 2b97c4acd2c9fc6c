-- What the entries and the ends of a record may hold.
use Rattle.std.specs.Prelude.{◌≡◌, ℕ, ◌<◌, ◌≤◌, ◌^◌, ◌-◌, Bool, true, false, not, Some, None}
use Rattle.types.specs.declared.value.Value.{Value}
use Rattle.types.specs.declared.value.Value.TheVariants as values
use Rattle.types.specs.declared.event.Event.{Event}
use Rattle.types.specs.declared.event.Event.TheVariants.{Size, Grow, Load, Store, Rmw, Cmpxchg, Ask, Told}
use Rattle.types.specs.declared.event.Question.{Question}
use Rattle.types.specs.declared.event.Question.TheVariants.{Wait, Notify, Spawn, Leave}
use Rattle.types.specs.declared.event.Answer.{Answer}
use Rattle.types.specs.declared.event.Answer.TheVariants.{Number, ForGood}
use Rattle.types.specs.declared.event.Reply.{Reply}
use Rattle.types.specs.declared.event.Reply.TheVariants as replies
use Rattle.types.specs.declared.event.Entry.{Entry}
use Rattle.types.specs.declared.outcome.Outcome.{Outcome}
use Rattle.types.specs.declared.outcome.Outcome.TheVariants as outcomes
use Rattle.types.specs.declared.outcome.ThreadReport.{ThreadReport}
use Rattle.types.specs.declared.limits.TheConstants.{MOST_FUEL}
use Rattle.shared_memory.specs.Events.{IsEvent}
use Rattle.replay_forms.specs.Reading.{FitsSigned64}

-- Numbers of 8, 32 and 64 bits.
abbrev pub Fits8 : ℕ → Type 0
Fits8 n = n ≤ 255

abbrev pub Fits32 : ℕ → Type 0
Fits32 n = n ≤ 2 ^ 32 - 1

abbrev pub Fits64 : ℕ → Type 0
Fits64 n = n ≤ 2 ^ 64 - 1

abbrev pub IsValue : Value → Type 0
IsValue (values.I32 n) = Fits32 n
IsValue (values.I64 n) = Fits64 n

abbrev pub IsAnswer : Answer → Type 0
IsAnswer (Number n) = Fits32 n
IsAnswer ForGood = Unit {0}

abbrev pub QuestionFits : Question → Type 0
QuestionFits (Wait addr width expected timeout) = Fits64 addr × (Fits8 width × (Fits64 expected × FitsSigned64 timeout))
QuestionFits (Notify addr count) = Fits64 addr × Fits32 count
QuestionFits (Spawn arg) = Fits32 arg
QuestionFits Leave = Unit {0}

-- Each number fits its field.
abbrev pub EventFits : Event → Type 0
EventFits Size = Unit {0}
EventFits (Grow more) = Fits32 more
EventFits (Load addr width reach) = Fits64 addr × (Fits8 width × Fits64 reach)
EventFits (Store addr width reach value) = Fits64 addr × (Fits8 width × (Fits64 reach × Fits64 value))
EventFits (Rmw op addr width value) = Fits64 addr × (Fits8 width × Fits64 value)
EventFits (Cmpxchg addr width expected replacement) = Fits64 addr
    × (Fits8 width × (Fits64 expected × Fits64 replacement))
EventFits (Ask question) = QuestionFits question
EventFits (Told answer) = IsAnswer answer

abbrev pub ReplyFits : Reply → Type 0
ReplyFits (replies.Value v) = Fits64 v
ReplyFits replies.Done = Unit {0}
ReplyFits replies.OutOfBounds = Unit {0}
ReplyFits replies.Again = ⊥
ReplyFits replies.Full = ⊥

-- The events that are answered by a value, where they are made.
abbrev pub has_value : Event → Bool
has_value Size = true
has_value (Grow more) = true
has_value (Load addr width reach) = true
has_value (Store addr width reach value) = false
has_value (Rmw op addr width value) = true
has_value (Cmpxchg addr width expected replacement) = true
has_value (Ask (Wait addr width expected timeout)) = true
has_value (Ask (Notify addr count)) = false
has_value (Ask (Spawn arg)) = false
has_value (Ask Leave) = false
has_value (Told answer) = false

-- The events that have an address.
abbrev pub has_address : Event → Bool
has_address Size = false
has_address (Grow more) = false
has_address (Load addr width reach) = true
has_address (Store addr width reach value) = true
has_address (Rmw op addr width value) = true
has_address (Cmpxchg addr width expected replacement) = true
has_address (Ask (Wait addr width expected timeout)) = true
has_address (Ask (Notify addr count)) = true
has_address (Ask (Spawn arg)) = false
has_address (Ask Leave) = false
has_address (Told answer) = false

-- Whether an entry of the event may have the reply.
abbrev pub is_reply_to : Event → Reply → Bool
is_reply_to event (replies.Value v) = has_value event
is_reply_to event replies.Done = not (has_value event)
is_reply_to event replies.OutOfBounds = has_address event
is_reply_to event replies.Again = false
is_reply_to event replies.Full = false

-- An entry: a thread of so many, an event that meets the conditions on events, and a reply of the right kind.
pub record IsEntry (threads : ℕ) (e : Entry) : Type 0 where
  pub thread : e.thread < threads
  pub event_fits : EventFits e.event
  pub event : IsEvent e.event
  pub reply_fits : ReplyFits e.reply
  pub reply : is_reply_to e.event e.reply ≡ true

abbrev pub IsOutcome : Outcome → Type 0
IsOutcome (outcomes.Done None) = Unit {0}
IsOutcome (outcomes.Done (Some v)) = IsValue v
IsOutcome (outcomes.Trap t) = Unit {0}
IsOutcome (outcomes.Stop s) = Unit {0}

-- A thread's end: the units that it spent are at most the largest budget.
pub record IsReport (r : ThreadReport) : Type 0 where
  pub outcome : IsOutcome r.outcome
  pub spent : r.spent ≤ MOST_FUEL
