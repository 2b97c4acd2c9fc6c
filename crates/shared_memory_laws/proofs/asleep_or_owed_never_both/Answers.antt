use Rattle.std.proofs.Common.{ap, inl, inr}
use Rattle.std.specs.Prelude.{is_some}
use Rattle.std.proofs.lemmas.Bool.{cases_Bool, and_left, and_right}
use Rattle.shared_memory.specs.WaitQueue.{is_asleep, answer_due}
use Rattle.shared_memory.specs.History.{queue_after}
use Rattle.shared_memory.proofs.Standing.{asleep_not_owed}
use Rattle.shared_memory_laws.proofs.asleep_or_owed_never_both.Goals as goal

pub returns : goal.returns
returns c = λ history n legal.
    elim (cases_Bool (is_asleep (queue_after history) n)) [
      | inl is ↦ and_right (is_asleep (queue_after history) n) (is_some (answer_due (queue_after history) n)) (ap is_some (asleep_not_owed history n legal is))
      | inr isnt ↦ and_left (is_asleep (queue_after history) n) (is_some (answer_due (queue_after history) n)) isnt
    ]
