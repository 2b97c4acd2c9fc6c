-- A thread's leave and the answer to it are its last entries.
use Rattle.std.proofs.Common.{◌≡◌, ℕ, zero, suc, List, [], ◌∷◌, ◌++◌, refl, sym, ◌∙◌, ap, subst}
use Rattle.types.specs.declared.event.Event.{Event}
use Rattle.types.specs.declared.event.Event.TheVariants as events
use Rattle.types.specs.declared.event.Question.TheVariants.{Leave}
use Rattle.types.specs.declared.event.Answer.{Answer}
use Rattle.types.specs.declared.event.Reply.{Reply}
use Rattle.types.specs.declared.outcome.Outcome.{Outcome}
use Rattle.schedule.specs.System.{Want.Calls, Act, Act.Made, Act.Heard, Step, Step.Own, Step.Lost, Step.Full, Step.Acts}
use Rattle.schedule.specs.ThreadRun.{IsThreadRun, acts}
use Rattle.schedule.specs.Machine.{Wish, Wish.Goes, Wish.Asks, Wish.Waits, Wish.Ends, Thread, Thread.Absent}
use Rattle.schedule.specs.Machine.{Thread.Runs, Thread.Over, Thread.Leaves, Thread.Left, wanted, thread_wants}
use Rattle.schedule.specs.Machine.{takes_by, thread_takes}
use Rattle.schedule.proofs.Orderly.{gone_no_act}
use Rattle.interp_machine.specs.Program.{Program}
use Rattle.interp_machine.specs.State.{State}
use Rattle.schedule_threads.specs.Shared.{over_memory_and_queue}
use Rattle.schedule_threads.specs.Threads.{wishes, machine_of}
use Rattle.schedule_threads.proofs.Asking.{wishes_of_threads}

-- no event is made
abbrev OnlyHeard : List (Act Event Reply Answer) → Type 0
OnlyHeard [] = Unit {0}
OnlyHeard (Made event reply ∷ rest) = ⊥
OnlyHeard (Heard answer ∷ rest) = OnlyHeard rest

-- no event is made after a leave
abbrev pub LeaveIsLast : List (Act Event Reply Answer) → Type 0
LeaveIsLast [] = Unit {0}
LeaveIsLast (Made (events.Ask Leave) reply ∷ rest) = OnlyHeard rest
LeaveIsLast (Made event reply ∷ rest) = LeaveIsLast rest
LeaveIsLast (Heard answer ∷ rest) = LeaveIsLast rest

-- there is a leave
abbrev pub HasLeft : List (Act Event Reply Answer) → Type 0
HasLeft [] = ⊥
HasLeft (Made (events.Ask Leave) reply ∷ rest) = Unit {0}
HasLeft (Made event reply ∷ rest) = HasLeft rest
HasLeft (Heard answer ∷ rest) = HasLeft rest

only_heard : (front rest : List (Act Event Reply Answer)) (event : Event) (reply : Reply) → OnlyHeard (front ++ Made event reply ∷ rest) → ⊥
only_heard [] rest event reply h = h
only_heard (Made e v ∷ front) rest event reply h = h
only_heard (Heard answer ∷ front) rest event reply h = only_heard front rest event reply h

pub none_after_leave : (front rest : List (Act Event Reply Answer)) (event : Event) (reply : Reply)
    → LeaveIsLast (front ++ Made event reply ∷ rest) → HasLeft front → ⊥
none_after_leave [] rest event reply last left = left
none_after_leave (Made (events.Ask Leave) v ∷ front) rest event reply last left = only_heard front rest event reply last
none_after_leave (Made e v ∷ front) rest event reply last left = none_after_leave front rest event reply last left
none_after_leave (Heard answer ∷ front) rest event reply last left = none_after_leave front rest event reply last left

module _ (p : Program) (start : ℕ → ℕ → State) (fuel : ℕ) where
  -- who asked to leave hears its answer and is gone
  leaves_heard : (steps : List (Step Event Reply Answer)) (outcome : Outcome) (left : ℕ) (end : Thread State Outcome)
      → IsThreadRun (over_memory_and_queue (machine_of p) start fuel) (Leaves outcome left) steps end → OnlyHeard (acts steps)
  leaves_heard [] outcome left end run = tt
  leaves_heard (Own ∷ steps) outcome left end run = absurd (cc (run.0))
  leaves_heard (Lost event ∷ steps) outcome left end run = absurd (cc (run.0.0))
  leaves_heard (Full event ∷ steps) outcome left end run = absurd (cc (run.0.0))
  leaves_heard (Acts (Made event reply) ∷ steps) outcome left end run = absurd (cc (run.0))
  leaves_heard (Acts (Heard answer) ∷ steps) outcome left end run =
      let none : steps ≡ [] = gone_no_act (over_memory_and_queue (machine_of p) start fuel) steps (Left outcome left) end refl run.1 in
      subst (λ (r : List (Step Event Reply Answer)). OnlyHeard (acts r)) (sym none) tt

  -- who wants to leave asks to
  leaving_by : (c : State) (left : ℕ) (reply : Reply) (wish : Wish Event Outcome) → wishes p c ≡ wish
      → wanted (machine_of p) left wish ≡ Calls (events.Ask Leave)
      → (outcome : Outcome) × (takes_by (machine_of p) wish c left reply ≡ Leaves outcome left)
  leaving_by c zero reply Goes is wants = absurd (cc wants)
  leaving_by c (suc n) reply Goes is wants = absurd (cc wants)
  leaving_by c zero reply Waits is wants = absurd (cc wants)
  leaving_by c (suc n) reply Waits is wants = absurd (cc wants)
  leaving_by c left reply (Ends outcome) is wants = (outcome, refl)
  leaving_by c zero reply (Asks event) is wants = absurd (cc wants)
  leaving_by c (suc n) reply (Asks event) is wants = let same : event ≡ events.Ask Leave = cc wants in
      absurd (wishes_of_threads p c (events.Ask Leave) (is ∙ ap Asks same))

  leaving : (t : Thread State Outcome) (reply : Reply) → thread_wants (machine_of p) t ≡ Calls (events.Ask Leave)
      → (outcome : Outcome) × (left : ℕ) × (thread_takes (machine_of p) t reply ≡ Leaves outcome left)
  leaving Absent reply wants = absurd (cc wants)
  leaving (Runs c left) reply wants = let by : (outcome : Outcome)
      × (takes_by (machine_of p) (wishes p c) c left reply ≡ Leaves outcome left) =
      leaving_by c left reply (wishes p c) refl wants in (by.0, left, by.1)
  leaving (Over outcome left) reply wants = (outcome, left, refl)
  leaving (Leaves outcome left) reply wants = absurd (cc wants)
  leaving (Left outcome left) reply wants = absurd (cc wants)

  pub leave_last : (steps : List (Step Event Reply Answer)) (t end : Thread State Outcome)
      → IsThreadRun (over_memory_and_queue (machine_of p) start fuel) t steps end → LeaveIsLast (acts steps)
  leave_last [] t end run = tt
  leave_last (Own ∷ steps) t end run = leave_last steps _ end run.1
  leave_last (Lost event ∷ steps) t end run = leave_last steps _ end run.1
  leave_last (Full event ∷ steps) t end run = leave_last steps _ end run.1
  leave_last (Acts (Made (events.Ask Leave) reply) ∷ steps) t end run =
      let left : (outcome : Outcome) × (left : ℕ) × (thread_takes (machine_of p) t reply ≡ Leaves outcome left) = leaving t reply run.0 in
      leaves_heard steps left.0 left.1 end (subst
      (λ (u : Thread State Outcome). IsThreadRun (over_memory_and_queue (machine_of p) start fuel) u steps end)
      left.2 run.1)
  leave_last (Acts (Made event reply) ∷ steps) t end run = leave_last steps _ end run.1
  leave_last (Acts (Heard answer) ∷ steps) t end run = leave_last steps _ end run.1
