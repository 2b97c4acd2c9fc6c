-- How the first of the new seats stands.
use Rattle.std.proofs.Common.{◌≡◌, ℕ, List, [], refl, subst, sym}
use Rattle.types.specs.declared.event.Entry.{Entry}
use Rattle.shared_memory.specs.History.{queue_after}
use Rattle.shared_memory.specs.Legal.{IsQueueLegal}
use Rattle.shared_memory.specs.WaitQueue.{IsFree}
use Rattle.shared_memory.proofs.Standing.{first_free}

nothing_legal : IsQueueLegal []
unfolding IsQueueLegal
nothing_legal = tt

-- thread 0 is free
pub first_stands : (n : ℕ) (seen : List Entry) → n ≡ 0 → seen ≡ [] → IsFree (queue_after seen) n
first_stands n seen zero none = rw (zero, none) (first_free [] refl nothing_legal)
