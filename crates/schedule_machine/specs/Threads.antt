-- What the threads of a machine have in common, the event that one calls for, and how it ended.
use Rattle.std.specs.Prelude.{ℕ, List, Option, Some, None}
use Rattle.types.specs.declared.value.Value.{Value}
use Rattle.types.specs.declared.event.Event.{Event}
use Rattle.types.specs.declared.event.Reply.{Reply}
use Rattle.types.specs.declared.event.Reply.TheVariants as replies
use Rattle.types.specs.declared.outcome.Outcome.{Outcome}
use Rattle.schedule.specs.System.{Want, Want.Turns, Want.Calls, Want.Awaits, Want.Gone}
use Rattle.interp_machine.specs.Program.{Program}
use Rattle.interp_machine.specs.Config.{Config}
use Rattle.interp_trait.specs.declared.turn.Turn.{Turn}
use Rattle.interp_trait.specs.declared.turn.Turn.TheVariants as turns

-- What all threads of a machine have in common: the program, the call of a spawned thread, and the budget.
pub record Setting : Type 0 where
  pub program : Program
  pub worker : List Value → Config
  pub fuel : ℕ

-- The event that is called for.
abbrev pub called : Want Event → Option Event
called Turns = None
called (Calls e) = Some e
called Awaits = None
called Gone = None

-- How the thread ended, where a turn says so.
abbrev pub end_in : Turn → Option Outcome
end_in turns.Moved = None
end_in (turns.Wants event) = None
end_in turns.Awaits = None
end_in (turns.Ended outcome) = Some outcome

-- The reply to an event that was made.
abbrev pub IsMadeReply : Reply → Type 0
IsMadeReply (replies.Value n) = Unit {0}
IsMadeReply replies.Done = Unit {0}
IsMadeReply replies.OutOfBounds = Unit {0}
IsMadeReply replies.Again = ⊥
IsMadeReply replies.Full = ⊥
