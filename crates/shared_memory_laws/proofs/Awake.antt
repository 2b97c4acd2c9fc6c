-- After each legal history somebody alive is awake, and nothing is left to settle.
use Rattle.std.proofs.Common.{◌≡◌, ℕ, ◌==◌, Bool, true, false, ◌&&◌, List, [], ◌∷◌, length, refl, subst, inl, inr, arith}
use Rattle.std.specs.Prelude.{nat_lt}
use Rattle.std.specs.List.{list_any, list_all}
use Rattle.std.proofs.lemmas.Bool.{or_left, or_right, cases_Bool, eq-eqb, lt-ltb}
use Rattle.types.specs.declared.event.Entry.{Entry}
use Rattle.shared_memory.specs.WaitQueue.{is_alive, is_asleep, settled, after_answer}
use Rattle.shared_memory.specs.History.{queue_after}
use Rattle.shared_memory.specs.Legal.{IsQueueLegal}
use Rattle.shared_memory.proofs.Settling.{settled_same, unstuck_after, unstuck_answer}

-- where not all numbers pass a test, one fails it
one_fails : (test : ℕ → Bool) (ns : List ℕ) → list_all test ns ≡ false → (n : ℕ) × (list_any (λ m. m == n) ns ≡ true) × (test n ≡ false)
one_fails test [] none = absurd (cc none)
one_fails test (n ∷ ns) none =
    elim (cases_Bool (test n)) [
      | inl passes ↦
          let rest : list_all test ns ≡ false = subst (λ b. (b && list_all test ns) ≡ false) passes none in
          let one = one_fails test ns rest in
          (one.0, or_right (n == one.0) (list_any (λ m. m == one.0) ns) one.1, one.2)
      | inr fails ↦ (n, or_left (n == n) (list_any (λ m. m == n) ns) (eq-eqb n n refl), fails)
    ]

-- a list that has a number has some
has_some : (m : ℕ) (ns : List ℕ) → list_any (λ k. k == m) ns ≡ true → nat_lt 0 (length ns) ≡ true
has_some m [] is = absurd (cc is)
has_some m (n ∷ ns) is = lt-ltb 0 (length (n ∷ ns)) (omega arith)

module _ (history : List Entry) where
  pub somebody_awake : (m : ℕ) → IsQueueLegal history → is_alive (queue_after history) m ≡ true
      → (n : ℕ) × (is_alive (queue_after history) n ≡ true) × (is_asleep (queue_after history) n ≡ false)
  somebody_awake m legal alive =
      let some : nat_lt 0 (length (queue_after history).alive) ≡ true = has_some m (queue_after history).alive alive in
      one_fails (λ n. is_asleep (queue_after history) n) (queue_after history).alive
      (subst (λ b. (b && list_all (λ n. is_asleep (queue_after history) n) (queue_after history).alive) ≡ false) some (unstuck_after history legal))

  pub left_settled : (n : ℕ) → IsQueueLegal history → settled (after_answer (queue_after history) n) ≡ after_answer (queue_after history) n
  left_settled n legal = settled_same (after_answer (queue_after history) n) (unstuck_answer (queue_after history) n (unstuck_after history legal))
