use Rattle.std.proofs.Common.{ℕ, List, Option}
use Rattle.types.specs.declared.event.Entry.{Entry}
use Rattle.types.specs.declared.event.Event.TheVariants.{Ask}
use Rattle.types.specs.declared.event.Question.{Question}
use Rattle.types.specs.declared.event.Question.TheVariants.{Wait, Notify, Spawn, Leave}
use Rattle.types.specs.declared.event.Reply.TheVariants.{Value, Done, OutOfBounds}
use Rattle.types.specs.declared.event.Answer.TheVariants.{Number}
use Rattle.shared_memory.specs.Memory.{Memory}
use Rattle.waiters_desk.specs.Calls.{Puts}
use Rattle.waiters_desk.specs.declared.answers.Asked.TheVariants as asked
use Rattle.schedule_threads.specs.Threads.{IsOfThread}
use Rattle.spawn_host_workers.specs.Serving.{Serves}
use Rattle.spawn_host_workers.specs.declared.serving.Served.TheVariants as served
use Rattle.spawn_host_workers.proofs.Entered.{served_miss, served_answer, served_sleep}
use Rattle.spawn_host_workers.proofs.serving.ask.Goals as goal

-- what a question of a thread came to, by what it got
module _ (loses : _) (opening : Memory) (limit : Option ℕ) (n : ℕ) (before after : List Entry) where
  outside : (question : Question) → Puts opening limit n question before after asked.OutOfBounds
      → Serves loses opening limit n (Ask question) before after (served.Replied OutOfBounds)
  outside (Wait addr width expected timeout) did = served_miss opening limit n (Wait addr width expected timeout) before after did
  outside (Notify addr count) did = served_miss opening limit n (Notify addr count) before after did
  outside (Spawn arg) did = absurd did
  outside Leave did = absurd did

  told : (question : Question) (number : ℕ) → IsOfThread (Ask question) → Puts opening limit n question before after (asked.Told number)
      → Serves loses opening limit n (Ask question) before after (served.Answered (Number number))
  told (Wait addr width expected timeout) number of_thread did =
      served_answer opening limit n (Wait addr width expected timeout) before after (Value did.0) number tt did.1
  told (Notify addr count) number of_thread did = served_answer opening limit n (Notify addr count) before after Done number tt did
  told (Spawn arg) number of_thread did = served_answer opening limit n (Spawn arg) before after Done number tt did
  told Leave number of_thread did = absurd of_thread

  asleep : (question : Question) → Puts opening limit n question before after asked.Asleep
      → Serves loses opening limit n (Ask question) before after served.Open
  asleep (Wait addr width expected timeout) did =
      served_sleep opening limit n (Wait addr width expected timeout) before after (Value expected) tt did.0
  asleep (Notify addr count) did = absurd did
  asleep (Spawn arg) did = absurd did
  asleep Leave did = absurd did

pub returns-in-Ok-OutOfBounds-clause-served : goal.returns-in-Ok-OutOfBounds-clause-served
returns-in-Ok-OutOfBounds-clause-served g c =
    let did = rw (c.in-Ok-OutOfBounds.field-0-is) at c.in-Ok-OutOfBounds.ensures.asked in
    outside g.M.SharedMemory.LOSES _ _ _ _ _ c.args.question did

pub returns-in-Ok-Told-clause-served : goal.returns-in-Ok-Told-clause-served
returns-in-Ok-Told-clause-served g c =
    let did = rw (c.in-Ok-Told.field-0-is) at c.in-Ok-Told.ensures.asked in
    told g.M.SharedMemory.LOSES _ _ _ _ _ c.args.question _ c.requires.of_thread did

pub returns-in-Ok-Asleep-clause-served : goal.returns-in-Ok-Asleep-clause-served
returns-in-Ok-Asleep-clause-served g c =
    let did = rw (c.in-Ok-Asleep.field-0-is) at c.in-Ok-Asleep.ensures.asked in
    asleep g.M.SharedMemory.LOSES _ _ _ _ _ c.args.question did
