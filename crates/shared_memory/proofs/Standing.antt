-- Where a thread stands after a history, and that the entries of others leave it there.
use Rattle.std.proofs.Common.{◌≡◌, ℕ, true, false, List, [], ◌++◌, Option, Some, None, refl, sym, ◌∙◌, ap, subst, ◌⊎◌, inl, inr}
use Rattle.std.specs.Prelude.{is_some}
use Rattle.std.proofs.lemmas.Bool.{or_parts, or_from, cases_Bool}
use Rattle.std.proofs.lemmas.List.{append_cancel_left, append-nil}
use mathlib.Core.List.{IsPrefix}
use Rattle.types.specs.declared.event.Entry.{Entry}
use Rattle.types.specs.declared.event.Answer.{Answer}
use Rattle.types.specs.declared.limits.TheConstants.{MOST_THREADS}
use Rattle.shared_memory.specs.WaitQueue.{WaitQueue, first_queue, is_alive, is_asleep, answer_due, IsFree, has_open_question}
use Rattle.shared_memory.specs.History.{entries_of, queue_after}
use Rattle.shared_memory.specs.Legal.{IsQueueLegal}
use Rattle.shared_memory.specs.Sound.{IsSound}
use Rattle.shared_memory.proofs.Histories.{entries_of-append}
use Rattle.shared_memory.proofs.Soundness.{IsSound-after, no_answers}
use Rattle.shared_memory.proofs.Others.{IsQuiet, Keeps, Keeps-after}

-- A thread that no spawn has started, or that is gone: not alive, not asleep, and owed nothing.
pub record IsAbsent (q : WaitQueue) (n : ℕ) : Type 0 where
  pub alive : is_alive q n ≡ false
  pub awake : is_asleep q n ≡ false
  pub told : answer_due q n ≡ None

-- a quiet thread has no open question, and one without is quiet
pub quiet_not_open : (q : WaitQueue) (n : ℕ) → IsQuiet q n → has_open_question q n ≡ false
quiet_not_open q n quiet = or_from (is_asleep q n) (is_some (answer_due q n)) quiet.awake (ap is_some quiet.told)

none_due : (o : Option Answer) → is_some o ≡ false → o ≡ None
none_due None is = refl
none_due (Some a) is = absurd (cc is)

pub quiet_from_not_open : (q : WaitQueue) (n : ℕ) → has_open_question q n ≡ false → IsQuiet q n
quiet_from_not_open q n none =
    let parts : (is_asleep q n ≡ false) × (is_some (answer_due q n) ≡ false) = or_parts (is_asleep q n) (is_some (answer_due q n)) none in
    record { awake = parts.0; told = none_due (answer_due q n) parts.1 }

-- a thread is never asleep and owed an answer
pub asleep_not_owed : (history : List Entry) (n : ℕ) → IsQueueLegal history → is_asleep (queue_after history) n ≡ true
    → answer_due (queue_after history) n ≡ None
asleep_not_owed history n legal asleep = let sound : IsSound (queue_after history) = IsSound-after history legal in sound.unanswered n asleep

-- entries of others, added to a history
module _ (n : ℕ) (xs ys : List Entry) (none : entries_of n ys ≡ []) (legal : IsQueueLegal (xs ++ ys)) where
  kept : Keeps n (queue_after xs) (queue_after (xs ++ ys))
  kept = Keeps-after n xs ys none legal

  -- a live thread stays alive
  pub alive_later : is_alive (queue_after xs) n ≡ true → is_alive (queue_after (xs ++ ys)) n ≡ true
  alive_later h = kept.alive h

  -- a thread without an open question stays without one
  pub quiet_later : IsQuiet (queue_after xs) n → IsQuiet (queue_after (xs ++ ys)) n
  quiet_later h = kept.quiet h

  -- a free thread stays free
  pub free_later : IsFree (queue_after xs) n → IsFree (queue_after (xs ++ ys)) n
  free_later h =
      let quiet : IsQuiet (queue_after (xs ++ ys)) n = quiet_later (record { awake = h.awake; told = h.told }) in
      record { alive = alive_later h.alive; awake = quiet.awake; told = quiet.told }

  -- an open question stays open
  pub open_later : has_open_question (queue_after xs) n ≡ true → has_open_question (queue_after (xs ++ ys)) n ≡ true
  open_later h = kept.waits h

  -- an answer due stays due, and stays the same
  pub due_later : (a : Answer) → answer_due (queue_after xs) n ≡ Some a → answer_due (queue_after (xs ++ ys)) n ≡ Some a
  due_later a h = kept.due a h

  -- so whether a thread has an open question is its own doing
  pub same_open : has_open_question (queue_after (xs ++ ys)) n ≡ has_open_question (queue_after xs) n
  same_open =
      elim (cases_Bool (has_open_question (queue_after xs) n)) [
        | inl is ↦ open_later is ∙ sym is
        | inr isnt ↦ quiet_not_open (queue_after (xs ++ ys)) n (quiet_later (quiet_from_not_open (queue_after xs) n isnt)) ∙ sym isnt
      ]

-- what a longer list without entries of the thread has more
more_of_others : (n : ℕ) (xs zs : List Entry) → (p : IsPrefix xs zs) → entries_of n zs ≡ entries_of n xs → entries_of n p.0 ≡ []
more_of_others n xs zs p same =
    append_cancel_left (entries_of n xs) (entries_of n p.0) [] (sym (entries_of-append n xs p.0)
    ∙ (ap (entries_of n) p.1 ∙ (same ∙ sym (append-nil (entries_of n xs)))))

-- the same, of a list that goes on without entries of the thread
module _ (n : ℕ) (xs zs : List Entry) (p : IsPrefix xs zs) (same : entries_of n zs ≡ entries_of n xs) (legal : IsQueueLegal zs) where
  pub kept_prefix : Keeps n (queue_after xs) (queue_after zs)
  kept_prefix =
      let legal' : IsQueueLegal (xs ++ p.0) = subst IsQueueLegal (sym p.1) legal in
      subst (λ (w : List Entry). Keeps n (queue_after xs) (queue_after w)) p.1 (Keeps-after n xs p.0 (more_of_others n xs zs p same) legal')

  pub alive_prefix : is_alive (queue_after xs) n ≡ true → is_alive (queue_after zs) n ≡ true
  alive_prefix h = kept_prefix.alive h

  pub free_prefix : IsFree (queue_after xs) n → IsFree (queue_after zs) n
  free_prefix h =
      let quiet : IsQuiet (queue_after zs) n = kept_prefix.quiet (record { awake = h.awake; told = h.told }) in
      record { alive = kept_prefix.alive h.alive; awake = quiet.awake; told = quiet.told }

  pub open_prefix : has_open_question (queue_after xs) n ≡ true → has_open_question (queue_after zs) n ≡ true
  open_prefix h = kept_prefix.waits h

  pub due_prefix : (a : Answer) → answer_due (queue_after xs) n ≡ Some a → answer_due (queue_after zs) n ≡ Some a
  due_prefix a h = kept_prefix.due a h

-- who has entered nothing

pub quiet_first : (n : ℕ) → IsQuiet (queue_after []) n
unfolding queue_after first_queue
quiet_first n = record {
  awake = refl;
  told = no_answers MOST_THREADS n;
}

pub newcomer_quiet : (n : ℕ) (history : List Entry) → entries_of n history ≡ [] → IsQueueLegal history → IsQuiet (queue_after history) n
newcomer_quiet n history none legal = quiet_later n [] history none legal (quiet_first n)

-- who has entered nothing isn't there or is free
pub newcomer : (n : ℕ) (history : List Entry) → entries_of n history ≡ [] → IsQueueLegal history
    → IsAbsent (queue_after history) n ⊎ IsFree (queue_after history) n
newcomer n history none legal =
    let quiet : IsQuiet (queue_after history) n = newcomer_quiet n history none legal in
    elim (cases_Bool (is_alive (queue_after history) n)) [
      | inl is ↦ inr (record { alive = is; awake = quiet.awake; told = quiet.told })
      | inr isnt ↦ inl (record { alive = isnt; awake = quiet.awake; told = quiet.told })
    ]

alive_first : is_alive (queue_after []) 0 ≡ true
unfolding queue_after first_queue
alive_first = refl

-- thread 0, of which no spawn is needed, is free until it enters something
pub first_free : (history : List Entry) → entries_of 0 history ≡ [] → IsQueueLegal history → IsFree (queue_after history) 0
first_free history none legal =
    let quiet : IsQuiet (queue_after history) 0 = newcomer_quiet 0 history none legal in
    record { alive = alive_later 0 [] history none legal alive_first; awake = quiet.awake; told = quiet.told }
