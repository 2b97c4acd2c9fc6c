-- A question within bounds, as the machine makes it.
use Rattle.std.proofs.Common.{◌≡◌, ◌≢◌, ℕ, ◌<◌, List, length, Some, sym, ◌∙◌, ap, subst, arith, set, length-set}
use Rattle.types.specs.declared.event.Event.TheVariants as events
use Rattle.types.specs.declared.event.Question.{Question}
use Rattle.types.specs.declared.event.Question.TheVariants.{Leave, Spawn}
use Rattle.types.specs.declared.event.Reply.{Reply}
use Rattle.types.specs.declared.limits.TheConstants.{MOST_THREADS}
use Rattle.shared_memory.specs.Memory.{Memory, reply_of, state_after}
use Rattle.shared_memory.specs.WaitQueue.{WaitQueue, answer_due, next_id, after_question, IsFree}
use Rattle.shared_memory.specs.History.{queue_step}
use Rattle.shared_memory.proofs.Lengths.{due_length_question}
use Rattle.schedule.specs.System.{State, Want.Calls, Want.Awaits, put}
use Rattle.schedule.specs.Scheduled.{after_event, hears_any, or_started}
use Rattle.schedule.specs.Machine.{Thread.Absent, thread_takes}
use Rattle.schedule.proofs.Basics.{put-other}
use Rattle.schedule.proofs.Budgets.{opened}
use Rattle.schedule_threads.specs.Shared.{Shared, without_dues}
use Rattle.schedule_threads.specs.Threads.{machine_of}
use Rattle.schedule_threads.proofs.Asking.{machine_laws, wants_spawn}
use Rattle.interp_trait.specs.Turns.{Running, wants_of, Meaning, IsHere}
use Rattle.schedule_machine.specs.Threads.{Setting}
use Rattle.schedule_program.specs.Threads.{IsThread}
use Rattle.schedule_machine.specs.Runs.{IsOrderly, MayHear, opening_value, started_at, started_by, system_by}
use Rattle.schedule_program.specs.Runs.{IsAt, AreThreads}
use Rattle.schedule_program.specs.declared.stepped.Stepped.{Stepped}
use Rattle.schedule_program.specs.declared.stepping.Machine.{Machine}
use Rattle.schedule_machine.proofs.Orderly.{free_asker, orderly_same}
use Rattle.schedule_program.proofs.Slots.{are_put, are_same}
use Rattle.schedule_machine.proofs.Starting.{starts_is}
use Rattle.schedule_machine.proofs.Questions.{may_hear, orderly_question}
use Rattle.schedule_machine.proofs.Asking.{left_gone, step_by_value, value_opens}

module _ {S : Type 0} (meaning : S → Meaning)
    (s : Setting) (w : State Shared Running) (n : ℕ) (question : Question) (v : ℕ) (old : Machine S) (y : Stepped S)
    (at : IsAt meaning s old w) (calls : wants_of s.program (w.threads n) ≡ Calls (events.Ask question))
    (within : n < length old.threads.items) (value : opening_value (reply_of w.shared.memory (events.Ask question)) ≡ Some v) where
  abbrev Are : List (Stepped S) → (ℕ → Running) → Type 0
  Are xs f = AreThreads meaning s xs f

  abbrev reply : Reply
  reply = reply_of w.shared.memory (events.Ask question)

  abbrev asker : Running
  asker = thread_takes (machine_of s.program) (w.threads n) reply

  abbrev pub asking : ℕ → Running
  asking = put w.threads n asker

  abbrev q : WaitQueue
  q = w.shared.queue

  same_queue : old.queue ≡ q
  same_queue = sym (ap (λ (x : Shared). x.queue) at.shared)

  pub free : IsFree old.queue n
  free = subst (λ z. IsFree z n) (sym same_queue) (free_asker s.program q w.threads n (events.Ask question) at.orderly calls)

  awaits : wants_of s.program asker ≡ Awaits
  awaits = opened (machine_of s.program) (machine_laws s.program) (w.threads n) (events.Ask question) reply calls (value_opens question reply v value)

  leaving : question ≡ Leave → IsHere asker → ⊥
  leaving is = left_gone s.program (w.threads n) reply (calls ∙ ap (λ z. Calls (events.Ask z)) is)

  pub due_long : length (WaitQueue.due (after_question old.queue n question v)) ≡ MOST_THREADS
  due_long = subst (λ z. length (WaitQueue.due (after_question z n question v)) ≡ MOST_THREADS) (sym same_queue)
      (due_length_question q n question v ∙ at.orderly.dues)

  pub may : MayHear s asking (after_question old.queue n question v)
  may = subst (λ z. MayHear s asking (after_question z n question v)) (sym same_queue) (may_hear s q w.threads n question v asker at.orderly calls awaits)

  next_is : old.next_id ≡ next_id q
  next_is = at.next ∙ ap next_id same_queue

  pub absent : asking old.next_id ≡ Absent
  absent =
      let known : n < next_id q = at.orderly.sound.named n (free_asker s.program q w.threads n (events.Ask question) at.orderly calls).alive in
      let apart : old.next_id ≢ n = λ e. absurd (omega (arith, known, next_is, e)) in
      put-other w.threads n asker old.next_id apart ∙ at.orderly.unstarted old.next_id (omega (arith, next_is))

  pub slots : (arg : ℕ) → question ≡ Spawn arg → length (set old.threads.items n y) ≡ MOST_THREADS
  slots arg is = length-set old.threads.items n y ∙ at.slots (wants_spawn s.program (w.threads n) arg (calls ∙ ap (λ z. Calls (events.Ask z)) is))

  pub are_asking : IsThread meaning s y asker → Are (set old.threads.items n y) asking
  are_asking is = are_put meaning s old.threads.items w.threads n y asker within at.threads is

  -- of a machine, that it is the old one after the question
  pub record IsAsked (new : Machine S) : Type 0 where
    pub memory : new.memory ≡ state_after old.memory (events.Ask question)
    pub queue : new.queue ≡ without_dues (after_question old.queue n question v)
    pub long : length new.threads.items ≡ length (set old.threads.items n y)
    pub next : new.next_id ≡ next_id new.queue
    pub threads : Are new.threads.items (started_by s asking old.queue n question v)

  abbrev after : State Shared Running
  after = after_event (system_by s) w n (events.Ask question)

  step_is : queue_step q n (events.Ask question) reply ≡ after_question q n question v
  step_is = step_by_value q n question reply v value

  threads_are : (m : ℕ) → after.threads m ≡ started_by s asking q n question v m
  threads_are m =
      ap (λ o. or_started o (hears_any (system_by s) (asking m) (answer_due (queue_step q n (events.Ask question) reply) m)))
      (starts_is s w.shared at.orderly.dues question m)
      ∙ ap (λ z. or_started (started_at s (next_id q) question m) (hears_any (system_by s) (asking m) (answer_due z m))) step_is

  pub at_question : (new : Machine S) → IsAsked new → IsAt meaning s new after
  at_question new c =
      let queue_is : after.shared.queue ≡ new.queue = ap without_dues step_is
      ∙ (ap (λ z. without_dues (after_question z n question v)) (sym same_queue) ∙ sym c.queue) in
      let memory_is : after.shared.memory ≡ new.memory = ap (λ (x : Shared). state_after x.memory (events.Ask question)) at.shared ∙ sym c.memory in record {
        shared = ap (λ z. record { memory = after.shared.memory; queue = z }) queue_is
            ∙ ap (λ (z : Memory). record { memory = z; queue = new.queue }) memory_is;
        threads = are_same meaning s new.threads.items (started_by s asking q n question v) after.threads threads_are
            (subst (λ z. Are new.threads.items (started_by s asking z n question v)) same_queue c.threads);
        slots = λ some. c.long ∙ (length-set old.threads.items n y ∙ at.slots some);
        next = c.next;
        orderly = subst (λ z. IsOrderly s.program z after.threads) (sym (ap without_dues step_is))
            (orderly_same s.program (without_dues (after_question q n question v)) (started_by s asking q n question v) after.threads threads_are
            (orderly_question s q w.threads n question v asker at.orderly calls awaits leaving));
      }
