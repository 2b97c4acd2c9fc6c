-- A thread of a module as the theorem of one schedule asks for it.
use Rattle.types.specs.declared.event.Event.{Event}
use Rattle.types.specs.declared.event.Event.TheVariants as events
use Rattle.types.specs.declared.event.Question.TheVariants as questions
use Rattle.types.specs.declared.event.Reply.{Reply}
use Rattle.types.specs.declared.event.Answer.{Answer}
use Rattle.types.specs.declared.outcome.Outcome.{Outcome}
use Rattle.types.specs.declared.outcome.Outcome.TheVariants as outcomes
use Rattle.types.specs.declared.outcome.Stop.TheVariants as stops
use Rattle.shared_memory.specs.Events.{is_exempt, may_lose}
use Rattle.schedule.specs.Machine.{Machine, Wish, Wish.Goes, Wish.Asks, Wish.Waits, Wish.Ends}
use Rattle.interp_machine.specs.Program.{Program}
use Rattle.interp_machine.specs.Config as configs
use Rattle.interp_machine.specs.Step.{next}
use Rattle.interp_machine.specs.State.{State, At, Over, gone, replied, heard}
use Rattle.schedule_threads.specs.Shared.{is_question}

-- What a state wishes. One of which nothing is defined never goes on.
abbrev pub wish_of : configs.Next → Wish Event Outcome
wish_of configs.Stuck = Waits
wish_of (configs.Goes c) = Goes
wish_of (configs.Traps trap) = Goes
wish_of (configs.Finishes result) = Goes
wish_of (configs.Asks event go) = Asks event
wish_of (configs.Hears go) = Waits

abbrev pub wishes : Program → State → Wish Event Outcome
wishes p (At c) = wish_of (next p c)
wishes p (Over outcome) = Ends outcome

abbrev pub machine_of : Program → Machine State Event Reply Answer Outcome
machine_of p = record {
  wishes = wishes p;
  goes = gone p;
  takes = replied p;
  hears = heard p;
  opens = is_question;
  may_be_lost = may_lose;
  is_exempt = is_exempt;
  leave = events.Ask questions.Leave;
  out_of_fuel = outcomes.Stop stops.OutOfFuel;
  record_full = outcomes.Stop stops.RecordFull;
}

-- The events that a thread makes by its instructions: it takes no answer by itself, and leaves only once it has ended.
abbrev pub IsOfThread : Event → Type 0
IsOfThread (events.Ask (questions.Wait addr width expected timeout)) = Unit {0}
IsOfThread (events.Ask (questions.Notify addr count)) = Unit {0}
IsOfThread (events.Ask (questions.Spawn arg)) = Unit {0}
IsOfThread (events.Ask questions.Leave) = ⊥
IsOfThread (events.Told answer) = ⊥
IsOfThread _ = Unit {0}
