-- The states of the scheduled machine are orderly, along turns.
use Rattle.std.proofs.Common.{◌≡◌, ◌≢◌, ℕ, false, List, [], ◌∷◌, Option, Some, None, refl, sym, ◌∙◌, ap, subst}
use Rattle.types.specs.declared.event.Event.{Event}
use Rattle.types.specs.declared.event.Event.TheVariants as events
use Rattle.types.specs.declared.event.Question.{Question}
use Rattle.types.specs.declared.event.Answer.{Answer}
use Rattle.shared_memory.specs.Memory.{reply_of}
use Rattle.shared_memory.specs.Events.{is_of_queue}
use Rattle.shared_memory.specs.WaitQueue.{WaitQueue, answer_due, next_id, after_question}
use Rattle.shared_memory.specs.History.{queue_step}
use Rattle.schedule.specs.System.{State, Want, Want.Turns, Want.Calls, Want.Awaits, Want.Gone, Kind.Turn, put}
use Rattle.schedule.specs.Scheduled.{after_event, after_turn, after_mark, scheduled_run, hears_any, or_started}
use Rattle.schedule.specs.Machine.{thread_takes, thread_goes}
use Rattle.schedule.proofs.Basics.{put-other}
use Rattle.schedule.proofs.Budgets.{opened}
use Rattle.schedule_threads.specs.Shared.{Shared, without_dues, starts_by}
use Rattle.schedule_threads.specs.Threads.{machine_of}
use Rattle.schedule_threads.proofs.Asking.{machine_laws, wants_no_answer}
use Rattle.interp_trait.specs.Turns.{Running, wants_of, spawned_in}
use Rattle.schedule_machine.specs.Threads.{Setting}
use Rattle.schedule_machine.specs.Runs.{IsOrderly, MayHear, opening_value, started_at, started_by, system_by}
use Rattle.schedule_machine.proofs.Orderly.{orderly_put, orderly_same, calls_here, turns_here, nothing_due}
use Rattle.schedule_machine.proofs.Accesses.{memory_made, queue_stays, none_starts, refused_starts}
use Rattle.schedule_machine.proofs.Questions.{may_hear, orderly_question}
use Rattle.schedule_machine.proofs.Asking.{value_opens, step_by_value, refused, left_gone}
use Rattle.schedule_machine.proofs.Starting.{starts_is}
use Rattle.search_threads.specs.Budgets.{turns_of}

abbrev pub IsOrderlyIn : Setting → State Shared Running → Type 0
IsOrderlyIn s w = IsOrderly s.program w.shared.queue w.threads

-- what an event gives
abbrev pub Given : State Shared Running → ℕ → Event → ℕ → Option Answer
Given w n e m = answer_due (queue_step w.shared.queue n e (reply_of w.shared.memory e)) m

-- to whom it gives an answer awaits it, and all is orderly after it
pub record IsWell (s : Setting) (w : State Shared Running) (n : ℕ) (e : Event) : Type 0 where
  pub awaited : (m : ℕ) (a : Answer) → Given w n e m ≡ Some a → m ≢ n → wants_of s.program (w.threads m) ≡ Awaits
  pub orderly : IsOrderlyIn s (after_event (system_by s) w n e)

module _ (s : Setting) (w : State Shared Running) (n : ℕ) (orderly : IsOrderlyIn s w) where
  abbrev taken : Event → Running
  taken e = thread_takes (machine_of s.program) (w.threads n) (reply_of w.shared.memory e)

  -- the queue stays as it is, and nobody starts
  module _ (e : Event) (calls : wants_of s.program (w.threads n) ≡ Calls e)
      (stays : queue_step w.shared.queue n e (reply_of w.shared.memory e) ≡ w.shared.queue)
      (nobody : (m : ℕ) → starts_by (machine_of s.program) (spawned_in s.worker) s.fuel w.shared e m ≡ None) where
    none_given : (m : ℕ) → Given w n e m ≡ None
    none_given m = ap (λ q. answer_due q m) stays ∙ nothing_due s.program w.shared.queue w.threads orderly m

    threads_are : (m : ℕ) → (after_event (system_by s) w n e).threads m ≡ put w.threads n (taken e) m
    threads_are m =
        ap (λ o. or_started o (hears_any (system_by s) (put w.threads n (taken e) m) (Given w n e m))) (nobody m)
        ∙ ap (λ o. hears_any (system_by s) (put w.threads n (taken e) m) o) (none_given m)

    queue_is : (after_event (system_by s) w n e).shared.queue ≡ w.shared.queue
    queue_is = ap without_dues stays ∙ orderly.heard

    quiet : IsWell s w n e
    quiet = record {
      awaited = λ m a given apart. let none = none_given m in absurd (cc (none, given));
      orderly = subst (λ q. IsOrderly s.program q (after_event (system_by s) w n e).threads) (sym queue_is)
          (orderly_same s.program w.shared.queue (put w.threads n (taken e)) (after_event (system_by s) w n e).threads threads_are
          (orderly_put s.program w.shared.queue w.threads n (taken e) orderly (calls_here s.program (w.threads n) e calls)
          (λ awaits. absurd (cc (calls, awaits)))));
    }

  -- a question within bounds
  module _ (question : Question) (calls : wants_of s.program (w.threads n) ≡ Calls (events.Ask question)) (v : ℕ)
      (value : opening_value (reply_of w.shared.memory (events.Ask question)) ≡ Some v) where
    abbrev q : WaitQueue
    q = w.shared.queue

    abbrev asker : Running
    asker = taken (events.Ask question)

    step_is : queue_step q n (events.Ask question) (reply_of w.shared.memory (events.Ask question)) ≡ after_question q n question v
    step_is = step_by_value q n question (reply_of w.shared.memory (events.Ask question)) v value

    awaits : wants_of s.program asker ≡ Awaits
    awaits = opened (machine_of s.program) (machine_laws s.program) (w.threads n) (events.Ask question) (reply_of w.shared.memory (events.Ask question)) calls
        (value_opens question (reply_of w.shared.memory (events.Ask question)) v value)

    may : MayHear s (put w.threads n asker) (after_question q n question v)
    may = may_hear s q w.threads n question v asker orderly calls awaits

    question_threads : (m : ℕ) → (after_event (system_by s) w n (events.Ask question)).threads m ≡ started_by s (put w.threads n asker) q n question v m
    question_threads m =
        ap (λ o. or_started o (hears_any (system_by s) (put w.threads n asker m) (Given w n (events.Ask question) m)))
        (starts_is s w.shared orderly.dues question m)
        ∙ ap (λ z. or_started (started_at s (next_id q) question m) (hears_any (system_by s) (put w.threads n asker m) (answer_due z m))) step_is

    asked : IsWell s w n (events.Ask question)
    asked = record {
      awaited = λ m a given apart. ap (wants_of s.program) (sym (put-other w.threads n asker m apart))
          ∙ may m a (ap (λ z. answer_due z m) (sym step_is) ∙ given);
      orderly = subst (λ z. IsOrderly s.program z (after_event (system_by s) w n (events.Ask question)).threads) (sym (ap without_dues step_is))
          (orderly_same s.program (without_dues (after_question q n question v)) (started_by s (put w.threads n asker) q n question v)
          (after_event (system_by s) w n (events.Ask question)).threads question_threads
          (orderly_question s q w.threads n question v asker orderly calls awaits
          (λ is. left_gone s.program (w.threads n) (reply_of w.shared.memory (events.Ask question)) (calls ∙ ap (λ z. Calls (events.Ask z)) is))));
    }

  by_value : (question : Question) → wants_of s.program (w.threads n) ≡ Calls (events.Ask question) → (o : Option ℕ)
      → opening_value (reply_of w.shared.memory (events.Ask question)) ≡ o → IsWell s w n (events.Ask question)
  by_value question calls (Some v) value = asked question calls v value
  by_value question calls None none =
      let out = refused (reply_of w.shared.memory (events.Ask question)) (memory_made w.shared.memory (events.Ask question)) none in
      quiet (events.Ask question) calls (ap (λ r. queue_step w.shared.queue n (events.Ask question) r) out)
      (λ m. refused_starts s w.shared question m out)

  plain : (e : Event) → wants_of s.program (w.threads n) ≡ Calls e → is_of_queue e ≡ false → IsWell s w n e
  plain e calls h = quiet e calls (queue_stays w.shared.queue n e (reply_of w.shared.memory e) h) (λ m. none_starts s w.shared e m h)

  pub by_event : (e : Event) → wants_of s.program (w.threads n) ≡ Calls e → IsWell s w n e
  by_event events.Size calls = plain events.Size calls refl
  by_event (events.Grow more) calls = plain (events.Grow more) calls refl
  by_event (events.Load addr width reach) calls = plain (events.Load addr width reach) calls refl
  by_event (events.Store addr width reach value) calls = plain (events.Store addr width reach value) calls refl
  by_event (events.Rmw op addr width value) calls = plain (events.Rmw op addr width value) calls refl
  by_event (events.Cmpxchg addr width expected replacement) calls = plain (events.Cmpxchg addr width expected replacement) calls refl
  by_event (events.Ask question) calls = by_value question calls (opening_value (reply_of w.shared.memory (events.Ask question))) refl
  by_event (events.Told answer) calls = absurd (wants_no_answer s.program (w.threads n) answer calls)

  by_want : (want : Want Event) → wants_of s.program (w.threads n) ≡ want → IsOrderlyIn s (after_turn (system_by s) w n want)
  by_want Turns is = orderly_put s.program w.shared.queue w.threads n (thread_goes (machine_of s.program) (w.threads n)) orderly
      (turns_here s.program (w.threads n) is) (λ awaits. absurd (cc (is, awaits)))
  by_want (Calls e) is = (by_event e is).orderly
  by_want Awaits is = orderly
  by_want Gone is = orderly

  pub by_turn : IsOrderlyIn s (after_mark (system_by s) w n Turn)
  by_turn = by_want (wants_of s.program (w.threads n)) refl

pub along : (s : Setting) (turns : List ℕ) (w : State Shared Running) → IsOrderlyIn s w → IsOrderlyIn s (scheduled_run (system_by s) w (turns_of turns))
along s [] w h = h
along s (n ∷ turns) w h = along s turns (after_mark (system_by s) w n Turn) (by_turn s w n h)
