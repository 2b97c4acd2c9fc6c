-- A history that is one entry longer.
use Rattle.std.proofs.Common.{◌≡◌, ◌++◌, ℕ, List, [], ◌∷◌, refl, sym, subst}
use Rattle.types.specs.declared.event.Entry.{Entry}
use Rattle.types.specs.declared.event.Event.{Event}
use Rattle.types.specs.declared.event.Event.TheVariants.{Ask, Told}
use Rattle.types.specs.declared.event.Reply.{Reply}
use Rattle.types.specs.declared.limits.TheConstants.{MOST_THREADS}
use Rattle.shared_memory.specs.WaitQueue.{first_queue}
use Rattle.shared_memory.specs.History.{entry, of_queue, queue_after}
use Rattle.shared_memory.specs.Legal.{IsAllowed, IsQueueLegal, IsQueueLegalFrom, MayEnter}
use Rattle.shared_memory.proofs.Histories.{IsQueueLegal-entry, of_queue-quiet}

pub legal_none : IsQueueLegal []
unfolding IsQueueLegal
legal_none = tt

may : (xs : List Entry) (n : ℕ) (event : Event) → IsAllowed (queue_after xs) n event → MayEnter n event xs
unfolding MayEnter
may xs n event h = h

quiet : (xs : List Entry) (e : Entry) → of_queue (e ∷ []) ≡ [] → IsQueueLegal xs → IsQueueLegal (xs ++ e ∷ [])
unfolding IsQueueLegal
quiet xs e none h = subst (IsQueueLegalFrom (first_queue MOST_THREADS)) (sym (of_queue-quiet xs (e ∷ []) none)) h

pub legal_more : (xs : List Entry) (n : ℕ) (event : Event) (reply : Reply) → IsQueueLegal xs → IsAllowed (queue_after xs) n event
    → IsQueueLegal (xs ++ entry n event reply ∷ [])
legal_more xs n (Ask question) reply h a = IsQueueLegal-entry xs n (Ask question) reply refl h (may xs n (Ask question) a)
legal_more xs n (Told answer) reply h a = IsQueueLegal-entry xs n (Told answer) reply refl h (may xs n (Told answer) a)
legal_more xs n event reply h a = quiet xs (entry n event reply) refl h
