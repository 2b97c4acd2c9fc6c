-- A thread that wants an event, whom its event starts, and who awaits the answers that it gives.
use Rattle.std.specs.Prelude.{ℕ, ◌≡◌, ◌≢◌, ◌==◌, ◌&&◌, ◌<◌, Bool, true, false, length, cond, nat_lt, Some, None}
use Rattle.std.proofs.Common.{refl, sym, ap, ◌∙◌, subst, arith, inl, inr}
use Rattle.types.specs.declared.event.Event.{Event}
use Rattle.types.specs.declared.event.Event.TheVariants as events
use Rattle.types.specs.declared.event.Question.{Question}
use Rattle.types.specs.declared.event.Question.TheVariants as questions
use Rattle.types.specs.declared.event.Reply.{Reply}
use Rattle.types.specs.declared.event.Reply.TheVariants as replies
use Rattle.types.specs.declared.event.Answer.{Answer}
use Rattle.types.specs.declared.outcome.Outcome.{Outcome}
use Rattle.types.specs.declared.limits.TheConstants.{MOST_THREADS}
use Rattle.shared_memory.specs.Sound.{IsSound}
use Rattle.shared_memory.specs.WaitQueue.{WaitQueue, IsFree, answer_due, next_id}
use Rattle.shared_memory.specs.History.{queue_step}
use Rattle.schedule.specs.System.{Want, Want.Turns, Want.Calls, Want.Awaits, Want.Gone, put}
use Rattle.schedule.specs.System as systems
use Rattle.schedule.proofs.Basics.{put-same, put-other, same_or_not, same_is, other_is}
use Rattle.schedule_threads.specs.Shared.{Shared, queue_by, is_question}
use Rattle.schedule_threads.specs.Threads.{machine_of}
use Rattle.schedule_threads.proofs.Asking.{machine_laws, wants_no_answer}
use Rattle.interp_machine.specs.State.{State}
use Rattle.interp_trait.specs.Turns.{Running, spawned_in}
use Rattle.schedule_machine.specs.Threads.{IsMadeReply, called}
use Rattle.schedule_machine.proofs.Orderly.{free_asker, nothing_due}
use Rattle.schedule_machine.proofs.Accesses.{memory_made}
use Rattle.search_runs.specs.Called.{Called, Walker, system_of, begun_at, begun_by, reply_by, shared_by, answer_by}
use Rattle.search_threads.proofs.Laws.{unlimited_threads_keep_the_laws}
use Rattle.schedule.specs.ThreadRun.{Laws}
use Rattle.search_runs.specs.Theorems.{CanReach}
use Rattle.search_runs.proofs.Tame.{orderly, tame, given, given_wants}
use Rattle.search_parts.specs.Sharing.{begun_in}
use Rattle.search_parts.specs.declared.event.Begun.{Begun}

pub calls_of : (w : Want Event) (e : Event) → Some e ≡ called w → w ≡ Calls e
calls_of Turns e h = absurd (cc h)
calls_of (Calls d) e h = cc h
calls_of Awaits e h = absurd (cc h)
calls_of Gone e h = absurd (cc h)

pub no_call : (w : Want Event) (e : Event) → None ≡ called w → w ≡ Calls e → ⊥
no_call Turns e h is = absurd (cc is)
no_call (Calls d) e h is = absurd (cc h)
no_call Awaits e h is = absurd (cc is)
no_call Gone e h is = absurd (cc is)

-- threads with one unit each want what they do without a budget
module _ (b : Called) (z : systems.State Shared Walker) (reached : CanReach b z) where
  pub sound : IsSound z.shared.queue
  sound = (orderly b z reached).sound

  abbrev threads : ℕ → Running
  threads m = given (z.threads m)

  pub dues : length z.shared.queue.due ≡ MOST_THREADS
  dues = (orderly b z reached).dues

  module _ (n : ℕ) (e : Event) (calls : (system_of b).wants (z.threads n) ≡ Calls e) where
    pub free : IsFree z.shared.queue n
    free = free_asker b.program z.shared.queue threads n e (orderly b z reached) (given_wants b.program (z.threads n) ∙ calls)

    pub known : n < MOST_THREADS
    known = let k = sound.named n free.alive in let few = sound.few in let d = dues in omega (arith, k, few, d)

    pub untold : (answer : Answer) → e ≡ events.Told answer → ⊥
    untold answer is = wants_no_answer b.program (threads n) answer (given_wants b.program (z.threads n) ∙ (calls ∙ ap Calls is))

-- whom an event starts

pub record IsStarted (b : Called) (z : Shared) (e : Event) (g : Begun) : Type 0 where
  pub starts : begun_at b z e g.id ≡ Some (spawned_in b.worker g.id g.arg)

spawn_starts : (b : Called) (z : Shared) (arg : ℕ) (room : Bool) → nat_lt (next_id z.queue) (length z.queue.due) ≡ room → (g : Begun)
    → cond room (Some (record { id = next_id z.queue; arg = arg })) None ≡ Some g
    → cond (nat_lt g.id (length z.queue.due) && (g.id == next_id z.queue)) (Some (spawned_in b.worker g.id arg)) None ≡ Some (spawned_in b.worker g.id g.arg)
spawn_starts b z arg false is g h = absurd (cc h)
spawn_starts b z arg true is g h =
    let same : record { id = next_id z.queue; arg = arg } ≡ g = cc h in
    subst (λ (k : Begun). cond (nat_lt k.id (length z.queue.due) && (k.id == next_id z.queue)) (Some (spawned_in b.worker k.id arg)) None
    ≡ Some (spawned_in b.worker k.id k.arg)) same
    (ap (λ t. cond (t && (next_id z.queue == next_id z.queue)) (Some (spawned_in b.worker (next_id z.queue) arg)) None) is
    ∙ ap (λ t. cond t (Some (spawned_in b.worker (next_id z.queue) arg)) None) (same_is (next_id z.queue)))

pub is_started : (b : Called) (z : Shared) (e : Event) (g : Begun) → begun_in z.queue e ≡ Some g → begun_at b z e g.id ≡ Some (spawned_in b.worker g.id g.arg)
is_started b z events.Size g h = absurd (cc h)
is_started b z (events.Grow more) g h = absurd (cc h)
is_started b z (events.Load addr width reach) g h = absurd (cc h)
is_started b z (events.Store addr width reach value) g h = absurd (cc h)
is_started b z (events.Rmw op addr width value) g h = absurd (cc h)
is_started b z (events.Cmpxchg addr width expected replacement) g h = absurd (cc h)
is_started b z (events.Ask (questions.Wait addr width expected timeout)) g h = absurd (cc h)
is_started b z (events.Ask (questions.Notify addr count)) g h = absurd (cc h)
is_started b z (events.Ask (questions.Spawn arg)) g h = spawn_starts b z arg (nat_lt (next_id z.queue) (length z.queue.due)) refl g h
is_started b z (events.Ask questions.Leave) g h = absurd (cc h)
is_started b z (events.Told answer) g h = absurd (cc h)

-- and nobody else
other_starts : (b : Called) (z : Shared) (arg m : ℕ) → (room : Bool) → nat_lt m (length z.queue.due) ≡ room
    → ((g : Begun) → begun_in z.queue (events.Ask (questions.Spawn arg)) ≡ Some g → g.id ≢ m)
    → cond (room && (m == next_id z.queue)) (Some (spawned_in b.worker m arg)) None ≡ None
other_starts b z arg m false is others = refl
other_starts b z arg m true is others =
    elim (same_or_not m (next_id z.queue)) [
      | inl same ↦ absurd (others (record { id = next_id z.queue; arg = arg })
          (ap (λ t. cond t (Some (record { id = next_id z.queue; arg = arg })) None) (ap (λ k. nat_lt k (length z.queue.due)) (sym same) ∙ is)) (sym same))
      | inr apart ↦ ap (λ t. cond t (Some (spawned_in b.worker m arg)) None) (other_is m (next_id z.queue) apart)
    ]

pub no_other : (b : Called) (z : Shared) (e : Event) (m : ℕ) → ((g : Begun) → begun_in z.queue e ≡ Some g → g.id ≢ m) → begun_at b z e m ≡ None
no_other b z events.Size m h = refl
no_other b z (events.Grow more) m h = refl
no_other b z (events.Load addr width reach) m h = refl
no_other b z (events.Store addr width reach value) m h = refl
no_other b z (events.Rmw op addr width value) m h = refl
no_other b z (events.Cmpxchg addr width expected replacement) m h = refl
no_other b z (events.Ask (questions.Wait addr width expected timeout)) m h = refl
no_other b z (events.Ask (questions.Notify addr count)) m h = refl
no_other b z (events.Ask (questions.Spawn arg)) m h = other_starts b z arg m (nat_lt m (length z.queue.due)) refl h
no_other b z (events.Ask questions.Leave) m h = refl
no_other b z (events.Told answer) m h = refl

-- an answer is due only after a question
asks : (q : WaitQueue) (n : ℕ) (question : Question) (v : Reply) → IsMadeReply v → (m : ℕ) → answer_due q m ≡ None → (a : Answer)
    → answer_due (queue_step q n (events.Ask question) v) m ≡ Some a → is_question (events.Ask question) v ≡ true
asks q n question (replies.Value k) made m none a due = refl
asks q n question replies.Done made m none a due = refl
asks q n question replies.OutOfBounds made m none a due = absurd (cc (none, due))
asks q n question replies.Again made m none a due = absurd made
asks q n question replies.Full made m none a due = absurd made

opens : (q : WaitQueue) (n : ℕ) (e : Event) (v : Reply) → IsMadeReply v → ((answer : Answer) → e ≡ events.Told answer → ⊥) → (m : ℕ) → answer_due q m ≡ None
    → (a : Answer) → answer_due (queue_step q n e v) m ≡ Some a → is_question e v ≡ true
opens q n events.Size v made untold m none a due = absurd (cc (none, due))
opens q n (events.Grow more) v made untold m none a due = absurd (cc (none, due))
opens q n (events.Load addr width reach) v made untold m none a due = absurd (cc (none, due))
opens q n (events.Store addr width reach value) v made untold m none a due = absurd (cc (none, due))
opens q n (events.Rmw op addr width value) v made untold m none a due = absurd (cc (none, due))
opens q n (events.Cmpxchg addr width expected replacement) v made untold m none a due = absurd (cc (none, due))
opens q n (events.Ask question) v made untold m none a due = asks q n question v made m none a due
opens q n (events.Told answer) v made untold m none a due = absurd (untold answer refl)

laws : (b : Called) → Laws (system_of b)
laws b = unlimited_threads_keep_the_laws State Event Reply Answer Outcome Shared (machine_of b.program) (machine_laws b.program) reply_by shared_by answer_by
    (begun_by b)

-- who is given an answer by an event awaits it
pub awaits : (b : Called) (z : systems.State Shared Walker) → CanReach b z → (n : ℕ) (e : Event) → (system_of b).wants (z.threads n) ≡ Calls e
    → (m : ℕ) (a : Answer) → answer_due (queue_by z.shared n e) m ≡ Some a
    → (system_of b).wants (put z.threads n ((system_of b).takes (z.threads n) (reply_by z.shared n e)) m) ≡ Awaits
awaits b z reached n e calls m a due =
    let taken = (system_of b).takes (z.threads n) (reply_by z.shared n e) in
    elim (same_or_not m n) [
      | inl same ↦ ap (λ k. (system_of b).wants (put z.threads n taken k)) same
          ∙ (ap (λ t. (system_of b).wants t) (put-same z.threads n taken)
          ∙ (laws b).opened (z.threads n) e (reply_by z.shared n e) calls
          (opens z.shared.queue n e (reply_by z.shared n e) (memory_made z.shared.memory e) (untold b z reached n e calls) m
          (nothing_due b.program z.shared.queue (threads b z reached) (orderly b z reached) m) a due))
      | inr apart ↦ ap (λ t. (system_of b).wants t) (put-other z.threads n taken m apart) ∙ (tame b).answers z reached n m e a calls due apart
    ]
