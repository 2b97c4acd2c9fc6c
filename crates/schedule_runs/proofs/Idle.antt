-- Who isn't started enters nothing.
use Rattle.std.proofs.Common.{◌≡◌, ℕ, ◌≤◌, ◌==◌, List, [], ◌∷◌, length, refl, ◌∙◌, ap, subst, arith, length-append}
use Rattle.std.proofs.lemmas.Bool.{cond-false, ne_eqb}
use Rattle.types.specs.declared.event.Event.{Event}
use Rattle.types.specs.declared.event.Reply.{Reply}
use Rattle.types.specs.declared.event.Entry as entries
use Rattle.types.specs.declared.limits.TheConstants.{MOST_THREADS}
use Rattle.shared_memory.specs.Memory.{Memory, state_after}
use Rattle.shared_memory.specs.WaitQueue.{WaitQueue, first_queue, next_id}
use Rattle.shared_memory.specs.History.{queue_step, queue_from, queue_after}
use Rattle.shared_memory.specs.Sound.{IsSound}
use Rattle.shared_memory.proofs.Soundness.{IsSound-first}
use Rattle.schedule.specs.Histories.{acts_of}
use Rattle.schedule_threads.specs.Shared.{act_of}
use Rattle.schedule_runs.specs.Runs.{Start, as_acts}
use Rattle.schedule_runs.proofs.Beginning.{Grows, grows_step}
use Rattle.schedule_runs.proofs.Linked.{IsStarted, IsLegalFrom, legal_from, tail_legal, tail_sound, queue_after-all}

-- numbers that were given out stay so
next_grows : (q : WaitQueue) (n : ℕ) (event : Event) (reply : Reply) → next_id q ≤ next_id (queue_step q n event reply)
next_grows q n event reply =
    let grows : Grows q.args (WaitQueue.args (queue_step q n event reply)) = grows_step q n event reply in
    omega (arith, ap length grows.1, length-append q.args grows.0)

pub next_along : (q : WaitQueue) (H : List entries.Entry) → next_id q ≤ next_id (queue_from q H)
next_along q [] = omega arith
next_along q (e ∷ H) = omega (arith, next_grows q e.thread e.event e.reply, next_along (queue_step q e.thread e.event e.reply) H)

idle_from : (mem : Memory) (q : WaitQueue) (H : List entries.Entry) (n : ℕ) → IsLegalFrom mem q H → IsSound q
    → next_id (queue_from q H) ≤ n → acts_of n (as_acts H) ≡ []
idle_from mem q [] n legal sound past = refl
idle_from mem q (e ∷ H) n legal sound past =
    let more : next_id q ≤ next_id (queue_from (queue_step q e.thread e.event e.reply) H) = next_along q (e ∷ H) in
    cond-false (e.thread == n) (act_of e ∷ acts_of n (as_acts H)) (acts_of n (as_acts H))
    (ne_eqb e.thread n (λ is. omega (arith, is, legal.started.0, more, past)))
    ∙ idle_from (state_after mem e.event) (queue_step q e.thread e.event e.reply) H n (tail_legal mem q e H legal) (tail_sound mem q e H legal sound) past

pub idle : (b : Start) (H : List entries.Entry) (n : ℕ) → IsStarted b.opening H → next_id (queue_after H) ≤ n → acts_of n (as_acts H) ≡ []
idle b H n legal past =
    idle_from b.opening (first_queue MOST_THREADS) H n (legal_from b.opening H legal) IsSound-first
    (subst (λ (q : WaitQueue). next_id q ≤ n) (queue_after-all H) past)
