-- A legal history of entries is a legal history of acts, and both come to the same memory, queue and places.
use Rattle.std.proofs.Common.{◌<◌, ◌≡◌, ℕ, List, [], ◌∷◌, ◌++◌, refl, sym, ◌∙◌, ap, subst, inl, inr, arith, replicate, None}
use Rattle.std.proofs.lemmas.List.{length-replicate}
use Rattle.std.proofs.lemmas.Bool.{cases_eq}
use Rattle.types.specs.declared.event.Event.{Event}
use Rattle.types.specs.declared.event.Event.TheVariants as events
use Rattle.types.specs.declared.event.Answer.{Answer}
use Rattle.types.specs.declared.event.Reply.{Reply}
use Rattle.types.specs.declared.event.Entry as entries
use Rattle.types.specs.declared.limits.TheConstants.{MOST_THREADS}
use Rattle.shared_memory.specs.Memory.{Memory, state_after}
use Rattle.shared_memory.specs.WaitQueue.{WaitQueue, first_queue, next_id}
use Rattle.shared_memory.specs.History.{entry, of_queue, memory_after, queue_step, queue_from, queue_after}
use Rattle.shared_memory.specs.Legal.{IsAllowed, IsMemoryLegal, IsQueueLegalFrom, IsQueueLegal}
use Rattle.shared_memory.specs.Sound.{IsSound}
use Rattle.shared_memory.proofs.Histories.{IsMemoryLegal-prefix, IsQueueLegal-prefix}
use Rattle.shared_memory.proofs.Soundness.{no_answers, IsSound-step, IsSound-first}
use Rattle.schedule.specs.Histories.{Place, Place.Unstarted, Place.Free, next_shared, next_places, shared_after, places_after, IsLegalHistory}
use Rattle.schedule.proofs.Basics.{put-same, put-other}
use Rattle.schedule_threads.specs.Shared.{Shared, act_by}
use Rattle.schedule_runs.specs.Runs.{Start, system_of, shared_for, first_shared, first_places, as_acts}
use Rattle.schedule_runs.specs.Places.{place_of, place_due}
use Rattle.schedule_runs.proofs.Places.{place_unstarted}
use Rattle.schedule_runs.proofs.Asked.{shared_of}
use Rattle.schedule_runs.proofs.Entries.{StandAt, EntryStep, entry_step}

-- the queue's part of a history, and all of it

pub rest_legal : (q : WaitQueue) (n : ℕ) (event : Event) (reply : Reply) (H : List entries.Entry) → IsQueueLegalFrom q (of_queue (entry n event reply ∷ H))
    → IsAllowed q n event × IsQueueLegalFrom (queue_step q n event reply) (of_queue H)
rest_legal q n (events.Ask question) reply H legal = legal
rest_legal q n (events.Told a) reply H legal = legal
rest_legal q n event reply H legal = (tt, legal)

rest_queue : (q : WaitQueue) (n : ℕ) (event : Event) (reply : Reply) (H : List entries.Entry)
    → queue_from q (of_queue (entry n event reply ∷ H)) ≡ queue_from (queue_step q n event reply) (of_queue H)
rest_queue q n (events.Ask question) reply H = refl
rest_queue q n (events.Told a) reply H = refl
rest_queue q n event reply H = refl

all_from : (q : WaitQueue) (H : List entries.Entry) → queue_from q (of_queue H) ≡ queue_from q H
all_from q [] = refl
all_from q (e ∷ H) = rest_queue q e.thread e.event e.reply H ∙ all_from (queue_step q e.thread e.event e.reply) H

pub queue_after-all : (H : List entries.Entry) → queue_after H ≡ queue_from (first_queue MOST_THREADS) H
unfolding queue_after
queue_after-all H = all_from (first_queue MOST_THREADS) H

-- Each entry is of a thread that was started.
abbrev pub AreStartedFrom : WaitQueue → List entries.Entry → Type 0
AreStartedFrom q [] = Unit {0}
AreStartedFrom q (e ∷ H) = (e.thread < next_id q) × AreStartedFrom (queue_step q e.thread e.event e.reply) H

started_prefix : (q : WaitQueue) (xs ys : List entries.Entry) → AreStartedFrom q (xs ++ ys) → AreStartedFrom q xs
started_prefix q [] ys started = tt
started_prefix q (x ∷ xs) ys started = (started.0, started_prefix (queue_step q x.thread x.event x.reply) xs ys started.1)

-- A history that is legal for the memory and the wait queue, of threads that were started.
pub record IsStarted (mem : Memory) (H : List entries.Entry) : Type 0 where
  pub memory : IsMemoryLegal mem H
  pub queue : IsQueueLegal H
  pub started : AreStartedFrom (first_queue MOST_THREADS) H

-- such a one from a memory and a queue on
pub record IsLegalFrom (mem : Memory) (q : WaitQueue) (H : List entries.Entry) : Type 0 where
  pub memory : IsMemoryLegal mem H
  pub queue : IsQueueLegalFrom q (of_queue H)
  pub started : AreStartedFrom q H

pub legal_from : (mem : Memory) (H : List entries.Entry) → IsStarted mem H → IsLegalFrom mem (first_queue MOST_THREADS) H
unfolding IsQueueLegal
legal_from mem H legal = record { memory = legal.memory; queue = legal.queue; started = legal.started }

pub prefix_legal : (mem : Memory) (xs ys : List entries.Entry) → IsStarted mem (xs ++ ys) → IsStarted mem xs
prefix_legal mem xs ys legal = record {
  memory = IsMemoryLegal-prefix mem xs ys legal.memory;
  queue = IsQueueLegal-prefix xs ys legal.queue;
  started = started_prefix (first_queue MOST_THREADS) xs ys legal.started;
}

module _ (mem : Memory) (q : WaitQueue) (e : entries.Entry) (H : List entries.Entry) (legal : IsLegalFrom mem q (e ∷ H)) where
  pub head_allowed : IsAllowed q e.thread e.event
  head_allowed = (rest_legal q e.thread e.event e.reply H legal.queue).0

  pub tail_legal : IsLegalFrom (state_after mem e.event) (queue_step q e.thread e.event e.reply) H
  tail_legal = record { memory = legal.memory.1; queue = (rest_legal q e.thread e.event e.reply H legal.queue).1; started = legal.started.1 }

  pub tail_sound : IsSound q → IsSound (queue_step q e.thread e.event e.reply)
  tail_sound sound = IsSound-step q e.thread e.event e.reply head_allowed sound

  pub head_step : (b : Start) (places : ℕ → Place Answer) → IsSound q → StandAt q places → EntryStep b mem q places e.thread e.event e.reply
  head_step b places sound stand = entry_step b mem q places e.thread e.event e.reply sound stand legal.memory.0 head_allowed legal.started.0

-- What a history is in the system, from something shared and from places on.
pub record Linked (b : Start) (mem : Memory) (q : WaitQueue) (places : ℕ → Place Answer) (x : Shared) (H : List entries.Entry) : Type 0 where
  pub legal : IsLegalHistory (system_of b) x places (as_acts H)
  pub shared : shared_after (system_of b) x (as_acts H) ≡ shared_of (memory_after mem H) (queue_from q H)
  pub stand : StandAt (queue_from q H) (places_after (system_of b) x places (as_acts H))

linked_from : (b : Start) (mem : Memory) (q : WaitQueue) (places : ℕ → Place Answer) (x : Shared)
    (H : List entries.Entry) → IsLegalFrom mem q H → IsSound q → StandAt q places
    → x ≡ shared_of mem q → Linked b mem q places x H
linked_from b mem q places x [] legal sound stand is = record { legal = tt; shared = is; stand = stand }
linked_from b mem q places x (e ∷ H) legal sound stand is =
    let step : EntryStep b mem q places e.thread e.event e.reply = head_step mem q e H legal b places sound stand in
    let rest : Linked b (state_after mem e.event) (queue_step q e.thread e.event e.reply)
    (next_places (system_of b) (shared_of mem q) places e.thread (act_by e.event e.reply))
    (next_shared (system_of b) (shared_of mem q) e.thread (act_by e.event e.reply)) H =
    linked_from b (state_after mem e.event) (queue_step q e.thread e.event e.reply)
    (next_places (system_of b) (shared_of mem q) places e.thread (act_by e.event e.reply))
    (next_shared (system_of b) (shared_of mem q) e.thread (act_by e.event e.reply)) H
    (tail_legal mem q e H legal) (tail_sound mem q e H legal sound) step.stand step.shared in
    subst (λ (y : Shared). Linked b mem q places y (e ∷ H)) (sym is) (record { legal = (step.legal, rest.legal); shared = rest.shared; stand = rest.stand })

-- at first

pub first_is_for : (most : ℕ) (b : Start) → shared_for most b ≡ shared_of b.opening (first_queue most)
unfolding first_queue
first_is_for most b =
    ap (λ (k : ℕ). record { memory = b.opening; queue = record (first_queue most) { due = replicate k None } })
    (sym (length-replicate most None))

pub first_is : (b : Start) → first_shared b ≡ shared_of b.opening (first_queue MOST_THREADS)
unfolding first_queue
first_is b = refl

pub first_stand_for : (most : ℕ) → StandAt (first_queue most) first_places
unfolding first_queue place_of
first_stand_for most m =
    elim (cases_eq m 0) [
      | inl e ↦ subst (λ (k : ℕ). first_places k ≡ place_of (first_queue most) k) (sym e)
          (put-same (λ (k : ℕ). Unstarted) 0 Free ∙ sym (ap place_due (no_answers most 0)))
      | inr apart ↦ put-other (λ (k : ℕ). Unstarted) 0 Free m apart ∙ sym (place_unstarted (first_queue most) m (omega arith))
    ]

pub first_stand : StandAt (first_queue MOST_THREADS) first_places
first_stand = first_stand_for MOST_THREADS

-- so a legal history is one
pub linked : (b : Start) (H : List entries.Entry) → IsStarted b.opening H → Linked b b.opening (first_queue MOST_THREADS) first_places (first_shared b) H
linked b H legal = linked_from b b.opening (first_queue MOST_THREADS) first_places (first_shared b) H (legal_from b.opening H legal) IsSound-first first_stand
    (first_is b)

-- after it threads stand where its queue has them
pub stand_after : (b : Start) (H : List entries.Entry) → IsStarted b.opening H
    → StandAt (queue_after H) (places_after (system_of b) (first_shared b) first_places (as_acts H))
stand_after b H legal = subst (λ (q : WaitQueue). StandAt q (places_after (system_of b)
    (first_shared b) first_places (as_acts H))) (sym (queue_after-all H)) (Linked.stand (linked b H legal))
