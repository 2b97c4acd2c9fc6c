-- A sound wait queue has no more live threads than were given a number, and at most 64 sleepers.
use Rattle.std.proofs.Common.{◌≡◌, ℕ, ◌+◌, ◌≤◌, ◌==◌, eqb, Bool, true, false, ◌||◌, List, [], ◌∷◌, length, map, refl, sym, ◌∙◌, ap, arith}
use Rattle.std.specs.List.{list_any, IsDistinct, AllByRecursion}
use Rattle.std.proofs.lemmas.Bool.{true≢false}
use Rattle.std.proofs.lemmas.Bool.Decides.{nat_tests}
use Rattle.std.proofs.lemmas.List.{length-map}
use Rattle.std.proofs.lemmas.Map.Steps.{length-le_from_distinct_below}
use Rattle.types.specs.declared.limits.TheConstants.{MOST_THREADS}
use Rattle.shared_memory.specs.declared.sleeper.Sleeper.{Sleeper}
use Rattle.shared_memory.specs.WaitQueue.{WaitQueue, is_among}
use Rattle.shared_memory.specs.Sound.{AreDistinct, SleepOnce, IsSound}
use Rattle.shared_memory.proofs.Soundness.{alive_below}

-- no number stands twice

different : (m n : ℕ) → (m == n) ≡ false → eqb n m ≡ false
different m n h = grind (arith, nat_tests, h)

apart_by : (n m : ℕ) (ns : List ℕ) (b : Bool) → (m == n) ≡ b → (b || list_any (λ k. k == n) ns) ≡ false
    → (list_any (λ k. k == n) ns ≡ false → AllByRecursion (λ k. eqb n k ≡ false) ns) → AllByRecursion (λ k. eqb n k ≡ false) (m ∷ ns)
apart_by n m ns true e k rest = absurd (true≢false k)
apart_by n m ns false e k rest = (different m n e, rest k)

apart_from : (n : ℕ) (ns : List ℕ) → list_any (λ m. m == n) ns ≡ false → AllByRecursion (λ m. eqb n m ≡ false) ns
apart_from n [] h = tt
apart_from n (m ∷ ns) h = apart_by n m ns (m == n) refl h (apart_from n ns)

distinct_from : (ns : List ℕ) → AreDistinct ns → IsDistinct eqb ns
unfolding IsDistinct
distinct_from [] h = tt
distinct_from (n ∷ ns) h = (apart_from n ns h.0, distinct_from ns h.1)

-- the test for a number, turned round

same_test : (n m : ℕ) (b : Bool) → eqb n m ≡ b → (m == n) ≡ b
same_test n m true e = grind (arith, nat_tests, e)
same_test n m false e = grind (arith, nat_tests, e)

turned : (ns : List ℕ) (n : ℕ) → list_any (eqb n) ns ≡ list_any (λ m. m == n) ns
turned [] n = refl
turned (m ∷ ns) n = rw (same_test n m (eqb n m) refl, turned ns n) refl

-- the numbers of sleepers

numbers : List Sleeper → List ℕ
numbers sleepers = map (λ (s : Sleeper). s.thread) sleepers

among_numbers : (n : ℕ) (sleepers : List Sleeper) → list_any (λ m. m == n) (numbers sleepers) ≡ is_among n sleepers
unfolding numbers
among_numbers n [] = refl
among_numbers n (s ∷ sleepers) = ap (λ b. (s.thread == n) || b) (among_numbers n sleepers)

once_distinct : (sleepers : List Sleeper) → SleepOnce sleepers → AreDistinct (numbers sleepers)
unfolding numbers
once_distinct [] h = tt
once_distinct (s ∷ sleepers) h = (among_numbers s.thread sleepers ∙ h.0, once_distinct sleepers h.1)

-- no more are alive than were given a number
pub few_alive : (q : WaitQueue) → IsSound q → length q.alive ≤ length q.args + 1
few_alive q sound =
    length-le_from_distinct_below q.alive (length q.args + 1) (distinct_from q.alive sound.distinct)
    (λ n found. sound.named n (sym (turned q.alive n) ∙ found))

-- at most 64 sleep
pub few_asleep : (q : WaitQueue) → IsSound q → length q.sleepers ≤ MOST_THREADS
unfolding numbers
few_asleep q sound =
    let few : length (numbers q.sleepers) ≤ MOST_THREADS =
    length-le_from_distinct_below (numbers q.sleepers) MOST_THREADS (distinct_from (numbers q.sleepers) (once_distinct q.sleepers sound.once))
    (λ n found. alive_below q sound n (sound.living n (sym (among_numbers n q.sleepers) ∙ (sym (turned (numbers q.sleepers) n) ∙ found)))) in
    omega (arith, length-map q.sleepers (λ (s : Sleeper). s.thread), few)
