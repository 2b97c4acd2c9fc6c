-- Threads over the memory and the queue keep the laws.
use Rattle.types.specs.declared.event.Event.{Event}
use Rattle.types.specs.declared.event.Reply.{Reply}
use Rattle.types.specs.declared.event.Answer.{Answer}
use Rattle.types.specs.declared.outcome.Outcome.{Outcome}
use Rattle.schedule.proofs.Laws.{threads_with_budgets_keep_the_laws}
use Rattle.schedule_threads.specs.Shared.{Shared, ThreadsOverMemoryAndQueueKeepTheLaws}

pub system_laws : (C : Type 0) → ThreadsOverMemoryAndQueueKeepTheLaws C
system_laws C k start fuel keeps = threads_with_budgets_keep_the_laws C Event Reply Answer Outcome Shared k keeps _ _ _ _
