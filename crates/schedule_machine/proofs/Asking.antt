-- A question within bounds, by its reply.
use Rattle.std.proofs.Common.{◌≡◌, ℕ, zero, suc, true, Some, None, refl, ◌∙◌, ap}
use Rattle.types.specs.declared.event.Event.{Event}
use Rattle.types.specs.declared.event.Event.TheVariants as events
use Rattle.types.specs.declared.event.Question.{Question}
use Rattle.types.specs.declared.event.Question.TheVariants.{Leave}
use Rattle.types.specs.declared.event.Reply.{Reply}
use Rattle.types.specs.declared.event.Reply.TheVariants as replies
use Rattle.types.specs.declared.outcome.Outcome.{Outcome}
use Rattle.shared_memory.specs.WaitQueue.{WaitQueue, after_question}
use Rattle.shared_memory.specs.History.{queue_step}
use Rattle.schedule.specs.System.{State, Want.Calls}
use Rattle.schedule.specs.Machine.{Wish, Thread.Absent, Thread.Runs, Thread.Over, Thread.Leaves, Thread.Left, wanted, takes_by, thread_takes}
use Rattle.interp_machine.specs.Program.{Program}
use Rattle.interp_machine.specs.State as states
use Rattle.schedule_threads.specs.Shared.{is_question}
use Rattle.schedule_threads.specs.Threads.{machine_of, wishes}
use Rattle.schedule_threads.proofs.Asking.{wishes_of_threads}
use Rattle.interp_trait.specs.Turns.{Running, wants_of, IsHere}
use Rattle.schedule_machine.specs.Threads.{IsMadeReply}
use Rattle.schedule_machine.specs.Runs.{opening_value}

pub value_opens : (question : Question) (reply : Reply) (v : ℕ) → opening_value reply ≡ Some v → is_question (events.Ask question) reply ≡ true
value_opens question (replies.Value n) v is = refl
value_opens question replies.Done v is = refl
value_opens question replies.OutOfBounds v is = absurd (cc is)
value_opens question replies.Again v is = absurd (cc is)
value_opens question replies.Full v is = absurd (cc is)

pub step_by_value : (q : WaitQueue) (n : ℕ) (question : Question) (reply : Reply) (v : ℕ)
    → opening_value reply ≡ Some v → queue_step q n (events.Ask question) reply ≡ after_question q n question v
step_by_value q n question (replies.Value k) v is = let same : k ≡ v = cc is in ap (λ (j : ℕ). after_question q n question j) same
step_by_value q n question replies.Done v is = let same : 0 ≡ v = cc is in ap (λ (j : ℕ). after_question q n question j) same
step_by_value q n question replies.OutOfBounds v is = absurd (cc is)
step_by_value q n question replies.Again v is = absurd (cc is)
step_by_value q n question replies.Full v is = absurd (cc is)

pub refused : (reply : Reply) → IsMadeReply reply → opening_value reply ≡ None → reply ≡ replies.OutOfBounds
refused (replies.Value k) made is = absurd (cc is)
refused replies.Done made is = absurd (cc is)
refused replies.OutOfBounds made is = refl
refused replies.Again made is = absurd made
refused replies.Full made is = absurd made

-- who asked to leave is there no more

left_by : (p : Program) (c : states.State) (left : ℕ) (reply : Reply) (wish : Wish Event Outcome) → wishes p c ≡ wish
    → wanted (machine_of p) left wish ≡ Calls (events.Ask Leave)
    → IsHere (takes_by (machine_of p) wish c left reply) → ⊥
left_by p c left reply Wish.Goes is wants here = absurd (cc wants)
left_by p c left reply Wish.Waits is wants here = absurd (cc wants)
left_by p c left reply (Wish.Ends o) is wants here = here
left_by p c left reply (Wish.Asks event) is wants here = wishes_of_threads p c (events.Ask Leave) (is ∙ asks left event wants)
  where
    asks : (k : ℕ) (event : Event) → wanted (machine_of p) k (Wish.Asks event) ≡ Calls (events.Ask Leave)
        → ◌≡◌ {A = Wish Event Outcome} (Wish.Asks event) (Wish.Asks (events.Ask Leave))
    asks zero event w = absurd (cc w)
    asks (suc k) event w = let same : event ≡ events.Ask Leave = cc w in ap Wish.Asks same

pub left_gone : (p : Program) (t : Running) (reply : Reply) → wants_of p t ≡ Calls (events.Ask Leave) → IsHere (thread_takes (machine_of p) t reply) → ⊥
left_gone p Absent reply wants here = here
left_gone p (Runs c left) reply wants here = left_by p c left reply (wishes p c) refl wants here
left_gone p (Over o left) reply wants here = here
left_gone p (Leaves o left) reply wants here = here
left_gone p (Left o left) reply wants here = here
