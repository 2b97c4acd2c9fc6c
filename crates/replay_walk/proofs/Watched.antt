-- What is shown of an event: its thread wants it.
use Rattle.std.proofs.Common.{◌≡◌, ℕ, List, Option, Some, None, ◌∙◌, ap, subst, slice_get}
use Rattle.types.specs.declared.event.Event.{Event}
use Rattle.types.specs.declared.outcome.Outcome.{Outcome}
use Rattle.shared_memory.specs.WaitQueue.{WaitQueue}
use Rattle.schedule.specs.System.{Want.Calls}
use Rattle.interp_machine.specs.Program.{Program}
use Rattle.interp_trait.specs.Turns.{Running, Meaning, outcome_of, wants_of, WantsEvent}
use Rattle.replay_walk.specs.Standing.{Standing, IsSettledOn}

module _ {S : Type 0} (meaning : S → Meaning) where
  pub wants_at : (s : Standing) (threads : List S) (queue : WaitQueue) (begun : ℕ) (ends : List (Option Outcome)) (n : ℕ) (t : Running)
      → (on : IsSettledOn meaning s threads queue begun ends n t) → (e : Event) → outcome_of t ≡ None → wants_of s.program t ≡ Calls e
      → (x : S) → slice_get threads n ≡ Some x → (u : Running) × WantsEvent (meaning x) e u
  wants_at s threads queue begun ends n t on e going wants x at =
      let is : on.thread ≡ x = cc (on.at, at) in
      subst (λ (y : S). (u : Running) × WantsEvent (meaning y) e u) is
      (t, (on.stood, going, ap (λ (p : Program). wants_of p t) (on.alike).0 ∙ wants))
