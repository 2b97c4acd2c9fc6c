-- Which spawn starts which thread, and how the queue goes along.
use Rattle.std.proofs.Common.{◌≡◌, ◌∙◌, ◌⊎◌, ◌<◌, ◌≤◌, ◌+◌, ◌++◌, ◌==◌, ℕ, List, [], ◌∷◌, true, false, not, length}
use Rattle.std.proofs.Common.{take, drop, inl, inr, refl, sym, ap, subst, arith, add-one}
use Rattle.std.specs.Prelude.{if◌then◌else◌, slice_get}
use Rattle.std.specs.Option.{is_some}
use Rattle.std.proofs.lemmas.Bool.{both_ways, cases_lt, cond_both}
use Rattle.std.proofs.lemmas.List.{length_push, take-append-drop, take_more}
use Rattle.std.proofs.lemmas.Option.{slice_get-get_or, slice_get_past}
use Rattle.types.specs.declared.event.Entry.{Entry}
use Rattle.types.specs.declared.event.Event.{Event}
use Rattle.types.specs.declared.event.Event.TheVariants.{Size, Grow, Load, Store, Rmw, Cmpxchg, Ask, Told}
use Rattle.types.specs.declared.event.Question.{Question}
use Rattle.types.specs.declared.event.Question.TheVariants.{Wait, Notify, Spawn, Leave}
use Rattle.types.specs.declared.event.Answer.TheVariants.{Number}
use Rattle.types.specs.declared.event.Reply.{Reply}
use Rattle.types.specs.declared.event.Reply.TheVariants.{Value, Done, OutOfBounds, Again, Full}
use Rattle.shared_memory.specs.WaitQueue.{WaitQueue, after_answer, after_question, asked, end_answer, ended}
use Rattle.shared_memory.specs.WaitQueue.{ends_at_once, first_queue, has_slot, is_stuck, next_id, settled, sleeps}
use Rattle.shared_memory.specs.WaitQueue.{starts, tells, wakes}
use Rattle.shared_memory.specs.History.{queue_after, queue_step}
use Rattle.shared_memory.specs.Legal.{IsAllowed, IsQueueLegal}
use Rattle.shared_memory.proofs.Histories.{IsQueueLegal-prefix}
use Rattle.shared_memory.proofs.Soundness.{IsSound-after, few_spawned}
use Rattle.shared_memory.proofs.Turns.{last_allowed, queue_after-one}
use Rattle.types.specs.declared.limits.TheConstants.{MOST_SPAWNED, MOST_THREADS}
use Rattle.waiters.specs.Queue.{arg_of}
use Rattle.race_history.specs.Places.{IsAt}
use Rattle.race_history.specs.Order.{IsStartOf}
use Rattle.race_history.specs.Calls.{AreStarts, started}
use Rattle.race_history.proofs.Lists.{IsAt-last, IsAt-left, IsAt-push_cases}

-- as many arguments as before, or one more
abbrev GivesOne : WaitQueue → WaitQueue → Type 0
GivesOne q after = (length after.args ≡ length q.args) ⊎ (length after.args ≡ length q.args + 1)

settled_args : (q : WaitQueue) → length (settled q).args ≡ length q.args
settled_args q =
    cond_both (is_stuck q) (wakes (ended q.sleepers) (end_answer q.sleepers) q) q (λ (w : WaitQueue). length w.args ≡ length q.args)
    (λ yes. refl) (λ no. refl)

told_one : (q : WaitQueue) (n : ℕ) → GivesOne q (after_answer q n)
unfolding after_answer
told_one q n = inl refl

module _ (q : WaitQueue) (n : ℕ) where
  asked_one : (question : Question) (v : ℕ) → GivesOne q (asked q n question v)
  asked_one (Wait addr width expected timeout) v =
      cond_both (not (v == expected)) (tells n (Number 1) q)
      (if ends_at_once timeout then tells n (Number 2) q else sleeps (record { thread = n; addr = addr; timeout = timeout }) q) (GivesOne q)
      (λ differs. inl refl)
      (λ same. cond_both (ends_at_once timeout) (tells n (Number 2) q) (sleeps (record { thread = n; addr = addr; timeout = timeout }) q) (GivesOne q)
      (λ ends. inl refl) (λ waits. inl refl))
  asked_one (Notify addr count) v = inl refl
  asked_one (Spawn arg) v =
      cond_both (has_slot q (next_id q)) (tells n (Number (next_id q)) (starts arg q)) (tells n (Number 4294967295) q) (GivesOne q)
      (λ room. inr (length_push q.args arg)) (λ full. inl refl)
  asked_one Leave v = inl refl

  question_one : (question : Question) (v : ℕ) → GivesOne q (after_question q n question v)
  unfolding after_question
  question_one question v =
      let same = settled_args (asked q n question v) in
      elim (asked_one question v) [ inl e ↦ inl (same ∙ e) | inr e ↦ inr (same ∙ e) ]

  ask_one : (question : Question) (reply : Reply) → GivesOne q (queue_step q n (Ask question) reply)
  ask_one question OutOfBounds = inl refl
  ask_one question (Value v) = question_one question v
  ask_one question Done = question_one question 0
  ask_one question Again = question_one question 0
  ask_one question Full = question_one question 0

  step_one : (event : Event) (reply : Reply) → GivesOne q (queue_step q n event reply)
  step_one (Ask question) reply = ask_one question reply
  step_one (Told answer) reply = told_one q n
  step_one Size reply = inl refl
  step_one (Grow more) reply = inl refl
  step_one (Load addr width reach) reply = inl refl
  step_one (Store addr width reach value) reply = inl refl
  step_one (Rmw op addr width value) reply = inl refl
  step_one (Cmpxchg addr width expected replacement) reply = inl refl

-- the queue has an argument where it has so many
arg_next : (q : WaitQueue) (n : ℕ) → arg_of q (n + 1) ≡ slice_get q.args n
arg_next q n = rw add-one refl

given : (q : WaitQueue) (n : ℕ) → is_some (arg_of q (n + 1)) ≡ true → n < length q.args
given q n is = elim (cases_lt n (length q.args)) [
  | inl lt ↦ lt
  | inr past ↦ absurd (both_ways (is_some (arg_of q (n + 1))) (ap is_some (arg_next q n ∙ slice_get_past q.args n past)) is)
]

none_given : (q : WaitQueue) (n : ℕ) → is_some (arg_of q (n + 1)) ≡ false → length q.args ≤ n
none_given q n isnt = elim (cases_lt n (length q.args)) [
  | inl lt ↦ absurd (both_ways (is_some (arg_of q (n + 1))) isnt (ap is_some (arg_next q n ∙ slice_get-get_or q.args n 0 lt)))
  | inr past ↦ past
]

module _ (log : List Entry) (place : ℕ) (e : Entry) (at : IsAt log place e) where
  pub one_more : take (place + 1) log ≡ take place log ++ e ∷ []
  one_more = take_more log place e at.within ∙ ap (λ (x : Entry). take place log ++ x ∷ []) at.is

  -- the queue after the entry
  pub queue_next : queue_after (take (place + 1) log) ≡ queue_step (queue_after (take place log)) e.thread e.event e.reply
  queue_next = ap queue_after one_more ∙ queue_after-one (take place log) e.thread e.event e.reply

  -- which was allowed
  pub allowed_here : IsQueueLegal log → IsAllowed (queue_after (take place log)) e.thread e.event
  allowed_here legal =
      let front : IsQueueLegal (take (place + 1) log) =
      IsQueueLegal-prefix (take (place + 1) log) (drop (place + 1) log) (subst IsQueueLegal (sym (take-append-drop (place + 1) log)) legal) in
      last_allowed (take place log) e.thread e.event e.reply (subst IsQueueLegal one_more front)

  gives_one : GivesOne (queue_after (take place log)) (queue_after (take (place + 1) log))
  gives_one =
      subst (GivesOne (queue_after (take place log))) (sym queue_next)
      (step_one (queue_after (take place log)) e.thread e.event e.reply)

  module _ (found : List ℕ) (h : AreStarts log place found) where
    -- a thread is started here
    pub starts_more : length found < length (queue_after (take (place + 1) log)).args → AreStarts log (place + 1) (found ++ place ∷ [])
    starts_more more =
        let count : length found ≡ length (queue_after (take place log)).args = h.count in
        let one : length (queue_after (take (place + 1) log)).args ≡ length (queue_after (take place log)).args + 1 =
        elim gives_one [ inl e ↦ absurd (omega arith) | inr e ↦ e ] in
        record {
          count = let long = length_push found place in omega arith;
          from = λ p n i. elim (IsAt-push_cases found place n p i) [
            | inl old ↦ let o = h.from p n old in let lt : p < place = o.0 in (omega arith, o.1)
            | inr f ↦
                let here : place ≡ p = f.1 in
                let number : n ≡ length found = f.0 in (
                  omega arith,
                  subst (λ (k : ℕ). IsStartOf log k (n + 1)) here (record { within = at.within; next = omega arith; given = omega arith }),
                )
          ];
          all = λ p n lt s. elim (cases_lt p place) [
            | inl early ↦ IsAt-left found place n p (h.all p n early s)
            | inr le ↦
                let here : p ≡ place = omega arith in
                let next : length (queue_after (take place log)).args + 1 ≡ n + 1 =
                subst (λ (k : ℕ). length (queue_after (take k log)).args + 1 ≡ n + 1) here s.next in
                let number : length found ≡ n = omega arith in
                subst (λ (k : ℕ). IsAt (found ++ place ∷ []) n k) (sym here) (IsAt-last found place n number)
          ];
        }

    -- none is
    pub starts_same : length (queue_after (take (place + 1) log)).args ≤ length found → AreStarts log (place + 1) found
    starts_same none =
        let count : length found ≡ length (queue_after (take place log)).args = h.count in
        let same : length (queue_after (take (place + 1) log)).args ≡ length (queue_after (take place log)).args =
        elim gives_one [ inl e ↦ e | inr e ↦ absurd (omega arith) ] in
        record {
          count = omega arith;
          from = λ p n i. let o = h.from p n i in let lt : p < place = o.0 in (omega arith, o.1);
          all = λ p n lt s. elim (cases_lt p place) [
            | inl early ↦ h.all p n early s
            | inr le ↦
                let here : p ≡ place = omega arith in
                let next : length (queue_after (take place log)).args + 1 ≡ n + 1 =
                subst (λ (k : ℕ). length (queue_after (take k log)).args + 1 ≡ n + 1) here s.next in
                let given : length (queue_after (take (place + 1) log)).args + 1 ≡ n + 1 + 1 =
                subst (λ (k : ℕ). length (queue_after (take (k + 1) log)).args + 1 ≡ n + 1 + 1) here s.given in
                absurd (omega arith)
          ];
        }

    -- and so are those that are noted
    pub starts_next : AreStarts log (place + 1) (started (queue_after (take (place + 1) log)) place found)
    starts_next =
        let q : WaitQueue = queue_after (take (place + 1) log) in
        cond_both (is_some (arg_of q (length found + 1))) (found ++ place ∷ []) found (AreStarts log (place + 1))
        (λ is. starts_more (given q (length found) is)) (λ isnt. starts_same (none_given q (length found) isnt))

pub starts_none : (log : List Entry) → AreStarts log 0 []
unfolding queue_after first_queue
starts_none log = record {
  count = refl;
  from = λ p n i. let lt = i.within in absurd (omega arith);
  all = λ p n lt s. absurd (omega arith);
}

-- the queue at first
pub queue_none : (log : List Entry) → queue_after (take 0 log) ≡ first_queue MOST_THREADS
unfolding queue_after
queue_none log = refl

-- a legal history has few threads, up to each place
pub few_started : (log : List Entry) (place : ℕ) (found : List ℕ) → IsQueueLegal log → AreStarts log place found → length found ≤ MOST_SPAWNED
few_started log place found legal h =
    let front : IsQueueLegal (take place log) =
    IsQueueLegal-prefix (take place log) (drop place log) (subst IsQueueLegal (sym (take-append-drop place log)) legal) in
    let few = few_spawned (queue_after (take place log)) (IsSound-after (take place log) front) in
    subst (λ (n : ℕ). n ≤ MOST_SPAWNED) (sym h.count) few
