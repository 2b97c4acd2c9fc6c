-- Which threads begin in longer histories.
use Rattle.std.proofs.Common.{◌≡◌, ℕ, zero, suc, true, List, [], ◌∷◌, ◌++◌, ◌==◌, Option, Some, None, refl, sym, ◌∙◌, ap, subst}
use Rattle.std.specs.Prelude.{slice_get}
use Rattle.std.specs.List.{list_any}
use Rattle.types.specs.declared.event.Event.{Event}
use Rattle.types.specs.declared.event.Event.TheVariants as events
use Rattle.types.specs.declared.event.Reply.{Reply}
use Rattle.types.specs.declared.event.Entry as entries
use Rattle.types.specs.declared.limits.TheConstants.{MOST_THREADS}
use Rattle.shared_memory.specs.WaitQueue.{WaitQueue, first_queue, after_answer}
use Rattle.shared_memory.specs.History.{of_queue, queue_step, queue_from, queue_after}
use Rattle.shared_memory.specs.Legal.{IsAllowed, IsQueueLegalFrom, IsQueueLegal}
use Rattle.shared_memory.proofs.Histories.{of_queue-append, queue_from-append, IsQueueLegalFrom-rest}
use Rattle.waiters.specs.Queue.{arg_of}
use Rattle.schedule_runs.specs.Runs.{if_spawned, begins_in}
use Rattle.schedule_runs.specs.Beginnings.{BeginningsStay, NobodyBeginsLater}
use Rattle.schedule_runs.proofs.Beginning.{arg_from}
use Rattle.schedule_runs.proofs.Linked.{rest_legal, queue_after-all}

-- the queue after both parts of a list
whole : (xs ys : List entries.Entry) → queue_after (xs ++ ys) ≡ queue_from (queue_after xs) ys
whole xs ys = queue_after-all (xs ++ ys) ∙
    (queue_from-append (first_queue MOST_THREADS) xs ys ∙ ap (λ (q : WaitQueue). queue_from q ys) (sym (queue_after-all xs)))

pub beginnings_stay : BeginningsStay
beginnings_stay b xs ys zero c is = is
beginnings_stay b xs ys (suc k) c is = spawned (arg_of (queue_after xs) (suc k)) refl is
  where
    spawned : (o : Option ℕ) → arg_of (queue_after xs) (suc k) ≡ o → if_spawned (b.spawned (suc k)) o ≡ Some c → begins_in b (xs ++ ys) (suc k) ≡ Some c
    spawned None e begins = absurd (cc begins)
    spawned (Some arg) e begins =
        ap (if_spawned (b.spawned (suc k))) (ap (λ (q : WaitQueue). arg_of q (suc k)) (whole xs ys) ∙ arg_from (queue_after xs) ys (suc k) arg e) ∙ begins

-- where nobody is alive, no question is allowed

record StaysOver (q r : WaitQueue) : Type 0 where
  alive : WaitQueue.alive r ≡ []
  args : WaitQueue.args r ≡ WaitQueue.args q

over_step : (q : WaitQueue) (n : ℕ) (event : Event) (reply : Reply) → IsAllowed q n event → WaitQueue.alive q ≡ [] → StaysOver q (queue_step q n event reply)
unfolding after_answer
over_step q n (events.Ask question) reply allowed over =
    let bad : list_any (λ m. m == n) [] ≡ true = ap (list_any (λ m. m == n)) (sym over) ∙ allowed.alive in absurd (cc bad)
over_step q n event reply allowed over = record { alive = over; args = refl }

over_from : (q : WaitQueue) (H : List entries.Entry) → IsQueueLegalFrom q (of_queue H) → WaitQueue.alive q ≡ []
    → WaitQueue.args (queue_from q H) ≡ WaitQueue.args q
over_from q [] legal over = refl
over_from q (e ∷ H) legal over =
    let rest : IsAllowed q e.thread e.event
    × IsQueueLegalFrom (queue_step q e.thread e.event e.reply) (of_queue H) =
    rest_legal q e.thread e.event e.reply H legal in
    let step : StaysOver q (queue_step q e.thread e.event e.reply) = over_step q e.thread e.event e.reply rest.0 over in
    over_from (queue_step q e.thread e.event e.reply) H rest.1 step.alive ∙ step.args

legal_rest : (xs ys : List entries.Entry) → IsQueueLegal (xs ++ ys) → IsQueueLegalFrom (queue_after xs) (of_queue ys)
unfolding IsQueueLegal queue_after
legal_rest xs ys legal = IsQueueLegalFrom-rest (first_queue MOST_THREADS) (of_queue xs) (of_queue ys)
    (subst (IsQueueLegalFrom (first_queue MOST_THREADS)) (of_queue-append xs ys) legal)

pub nobody_later : NobodyBeginsLater
nobody_later b xs ys zero legal over none = absurd (cc none)
nobody_later b xs ys (suc k) legal over none =
    let same : WaitQueue.args (queue_after (xs ++ ys)) ≡ WaitQueue.args (queue_after xs) =
    ap WaitQueue.args (whole xs ys) ∙ over_from (queue_after xs) ys (legal_rest xs ys legal) over in
    ap (λ args. if_spawned (b.spawned (suc k)) (slice_get args k)) same ∙ none
