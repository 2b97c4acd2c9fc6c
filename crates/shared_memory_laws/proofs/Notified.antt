-- Whom a notify wakes, and who sleeps on.
use Rattle.std.proofs.Common.{◌≡◌, ◌≢◌, ℕ, ◌<◌, ◌==◌, Bool, true, false, not, ◌||◌, cond, List, [], ◌∷◌, ◌++◌}
use Rattle.std.proofs.Common.{length, take, drop, Some, None, refl, sym, ◌∙◌, ap, subst, arith, get_or, set, get_or-set_same, get_or-set_other}
use Rattle.std.specs.List.{filter}
use Rattle.std.proofs.lemmas.Bool.{both_ways, cond-true, cond-false, or_parts, or_left, eq-eqb, eqb-false, ne_eqb}
use Rattle.std.proofs.lemmas.List.{take-append-drop, length-take}
use Rattle.types.specs.declared.event.Entry.{Entry}
use Rattle.types.specs.declared.event.Event.TheVariants.{Ask}
use Rattle.types.specs.declared.event.Question.TheVariants.{Notify}
use Rattle.types.specs.declared.event.Answer.TheVariants.{Number}
use Rattle.types.specs.declared.event.Reply.{Reply}
use Rattle.types.specs.declared.event.Reply.TheVariants.{Value, Done, OutOfBounds, Again, Full}
use Rattle.shared_memory.specs.declared.sleeper.Sleeper.{Sleeper}
use Rattle.shared_memory.specs.WaitQueue.{WaitQueue, is_among, is_asleep, next_id, tells, wakes, due_after, woken_at, asked, after_question, IsFree}
use Rattle.shared_memory.specs.History.{entry, queue_step, queue_after}
use Rattle.shared_memory.specs.Legal.{IsQueueLegal}
use Rattle.shared_memory.specs.Sound.{IsSound, SleepOnce}
use Rattle.shared_memory.proofs.Histories.{IsQueueLegal-prefix}
use Rattle.shared_memory.proofs.Sleepers.{list_any-filter, SleepOnce-filter, others_than, length-due_after, due_after-other, due_after-woken}
use Rattle.shared_memory.proofs.Soundness.{IsSound-after, has_place}
use Rattle.shared_memory.proofs.Settling.{awake_unstuck, settled_same}
use Rattle.shared_memory.proofs.Woken.{woken_sleeps}
use Rattle.shared_memory.proofs.Turns.{queue_after-one, last_allowed}
use Rattle.shared_memory_laws.specs.Laws.{asleep_at, WakesTheLongestAsleep}

-- filters

-- two filters come in either order
filter_both : {X : Type 0} (p q : X → Bool) (xs : List X) → filter p (filter q xs) ≡ filter q (filter p xs)
filter_both p q [] = refl
filter_both p q (x ∷ xs) = go (p x) (q x) refl refl (filter_both p q xs)
  where
    go : (b c : Bool) → p x ≡ b → q x ≡ c → filter p (filter q xs) ≡ filter q (filter p xs)
        → filter p (cond c (x ∷ filter q xs) (filter q xs)) ≡ filter q (cond b (x ∷ filter p xs) (filter p xs))
    go true true e d same =
        cond-true (p x) (x ∷ filter p (filter q xs)) (filter p (filter q xs)) e
        ∙ (ap (λ w. x ∷ w) same ∙ sym (cond-true (q x) (x ∷ filter q (filter p xs)) (filter q (filter p xs)) d))
    go true false e d same = same ∙ sym (cond-false (q x) (x ∷ filter q (filter p xs)) (filter q (filter p xs)) d)
    go false true e d same = cond-false (p x) (x ∷ filter p (filter q xs)) (filter p (filter q xs)) e ∙ same
    go false false e d same = same

-- where nobody is woken, all sleep on
none_woken : (sleepers : List Sleeper) → others_than [] sleepers ≡ sleepers
none_woken [] = refl
none_woken (s ∷ sleepers) = ap (λ w. s ∷ w) (none_woken sleepers)

-- one who doesn't sleep needn't be among the woken
one_fewer : (s : Sleeper) (woken sleepers : List Sleeper) → is_among s.thread sleepers ≡ false → others_than (s ∷ woken) sleepers ≡ others_than woken sleepers
one_fewer s woken [] isnt = refl
one_fewer s woken (t ∷ sleepers) isnt =
    let parts : ((t.thread == s.thread) ≡ false) × (is_among s.thread sleepers ≡ false) = or_parts (t.thread == s.thread) (is_among s.thread sleepers) isnt in
    let other : (s.thread == t.thread) ≡ false = ne_eqb s.thread t.thread (λ e. eqb-false t.thread s.thread parts.0 (sym e)) in
    let test : is_among t.thread (s ∷ woken) ≡ is_among t.thread woken = ap (λ b. b || is_among t.thread woken) other in
    ap (λ b. cond (not b) (t ∷ others_than (s ∷ woken) sleepers) (others_than (s ∷ woken) sleepers)) test
    ∙ ap (λ w. cond (not (is_among t.thread woken)) (t ∷ w) w) (one_fewer s woken sleepers parts.1)

-- of those who sleep once the first ones are woken
first_woken : (xs ys : List Sleeper) → SleepOnce (xs ++ ys) → others_than xs (xs ++ ys) ≡ ys
first_woken [] ys once = none_woken ys
first_woken (x ∷ xs) ys once =
    let is : not (is_among x.thread (x ∷ xs)) ≡ false = ap not (or_left (x.thread == x.thread) (is_among x.thread xs) (eq-eqb x.thread x.thread refl)) in
    cond-false (not (is_among x.thread (x ∷ xs))) (x ∷ others_than (x ∷ xs) (xs ++ ys)) (others_than (x ∷ xs) (xs ++ ys)) is
    ∙ (one_fewer x xs (xs ++ ys) once.0 ∙ first_woken xs ys once.1)

-- a notify

module _ (n addr count : ℕ) (q : WaitQueue) (sound : IsSound q) (free : IsFree q n) where
  left_there : filter (λ (s : Sleeper). s.addr == addr) (others_than (woken_at addr count q.sleepers) q.sleepers) ≡ drop count (asleep_at addr q)
  left_there =
      let split : take count (asleep_at addr q) ++ drop count (asleep_at addr q) ≡ asleep_at addr q = take-append-drop count (asleep_at addr q) in
      let once : SleepOnce (take count (asleep_at addr q) ++ drop count (asleep_at addr q)) =
      subst (λ w. SleepOnce w) (sym split) (SleepOnce-filter (λ (s : Sleeper). s.addr == addr) q.sleepers sound.once) in
      filter_both (λ (s : Sleeper). s.addr == addr) (λ (s : Sleeper). not (is_among s.thread (woken_at addr count q.sleepers))) q.sleepers
      ∙ (ap (λ w. others_than (woken_at addr count q.sleepers) w) (sym split)
      ∙ first_woken (take count (asleep_at addr q)) (drop count (asleep_at addr q)) once)

  within : n < length (due_after (woken_at addr count q.sleepers) (Number 0) q.due)
  within =
      let known : n < next_id q = sound.named n free.alive in
      omega (arith, sound.few, length-due_after (woken_at addr count q.sleepers) (Number 0) q.due)

  told_woken : (m : ℕ) → is_among m (woken_at addr count q.sleepers) ≡ true
      → get_or (set (due_after (woken_at addr count q.sleepers)
      (Number 0) q.due) n (Some (Number (length (woken_at addr count q.sleepers))))) m None ≡ Some (Number 0)
  told_woken m among =
      let asleep : is_asleep q m ≡ true = woken_sleeps m addr count q.sleepers among in
      get_or-set_other (due_after (woken_at addr count q.sleepers) (Number 0) q.due) n m (Some (Number (length (woken_at addr count q.sleepers)))) None
      (λ e. both_ways (is_asleep q n) free.awake (subst (λ (k : ℕ). is_asleep q k ≡ true) e asleep))
      ∙ due_after-woken m (woken_at addr count q.sleepers) (Number 0) q.due (has_place q sound m asleep) among

  notified : WakesTheLongestAsleep n addr count q (tells n (Number (length (woken_at addr count q.sleepers)))
      (wakes (woken_at addr count q.sleepers) (Number 0) q))
  notified = record {
    woken = woken_at addr count q.sleepers;
    left = drop count (asleep_at addr q);
    longest = sym (take-append-drop count (asleep_at addr q));
    as_many = length-take count (asleep_at addr q);
    rest = left_there;
    others = refl;
    told = told_woken;
    answer = get_or-set_same (due_after (woken_at addr count q.sleepers)
        (Number 0) q.due) n (Some (Number (length (woken_at addr count q.sleepers)))) None within;
    quiet = λ m apart isnt. get_or-set_other (due_after (woken_at addr count q.sleepers)
        (Number 0) q.due) n m (Some (Number (length (woken_at addr count q.sleepers)))) None apart
        ∙ due_after-other m (woken_at addr count q.sleepers) (Number 0) q.due isnt;
  }

  -- who notifies is awake, so there is nothing to settle
  unsettled_notify : (v : ℕ) → after_question q n (Notify addr count) v ≡ tells n
      (Number (length (woken_at addr count q.sleepers))) (wakes (woken_at addr count q.sleepers) (Number 0) q)
  unfolding after_question
  unsettled_notify v =
      settled_same (asked q n (Notify addr count) v)
      (awake_unstuck (asked q n (Notify addr count) v) n free.alive
      (list_any-filter (λ (s : Sleeper). not (is_among s.thread (woken_at addr count q.sleepers))) (λ (s : Sleeper). s.thread == n) q.sleepers free.awake))

  notify_question : (v : ℕ) → WakesTheLongestAsleep n addr count q (after_question q n (Notify addr count) v)
  notify_question v = subst (λ w. WakesTheLongestAsleep n addr count q w) (sym (unsettled_notify v)) notified

  notify_step : (reply : Reply) → reply ≢ OutOfBounds → WakesTheLongestAsleep n addr count q (queue_step q n (Ask (Notify addr count)) reply)
  notify_step OutOfBounds inside = absurd (inside refl)
  notify_step (Value v) inside = notify_question v
  notify_step Done inside = notify_question 0
  notify_step Again inside = notify_question 0
  notify_step Full inside = notify_question 0

pub notify_wakes : (history : List Entry) (n addr count : ℕ) (reply : Reply) → reply ≢ OutOfBounds
    → IsQueueLegal (history ++ entry n (Ask (Notify addr count)) reply ∷ [])
    → WakesTheLongestAsleep n addr count (queue_after history) (queue_after (history ++ entry n (Ask (Notify addr count)) reply ∷ []))
notify_wakes history n addr count reply inside legal =
    subst (λ w. WakesTheLongestAsleep n addr count (queue_after history) w) (sym (queue_after-one history n (Ask (Notify addr count)) reply))
    (notify_step n addr count (queue_after history) (IsSound-after history (IsQueueLegal-prefix history (entry n (Ask (Notify addr count)) reply ∷ []) legal))
    (last_allowed history n (Ask (Notify addr count)) reply legal) reply inside)
