-- Whom a notify wakes and whom settling wakes: only those who sleep.
use Rattle.std.proofs.Common.{◌≡◌, ℕ, ◌==◌, true, false, ◌||◌, List, [], ◌∷◌, Option, Some, None, refl, subst, inl, inr}
use Rattle.std.specs.List.{filter}
use Rattle.std.specs.Option.{option_map_or}
use Rattle.std.proofs.lemmas.Bool.{both_ways, or_left, or_right, or_from, cond_both, cases_Bool, eqb-true, eq-eqb}
use Rattle.shared_memory.specs.declared.sleeper.Sleeper.{Sleeper}
use Rattle.shared_memory.specs.WaitQueue.{is_among, woken_at, has_timeout, ends_before, earlier, first_to_end, ended}
use Rattle.shared_memory.proofs.Sleepers.{list_any-filtered, list_any-take}

-- whom settling wakes

earlier_among : (s : Sleeper) (sleepers : List Sleeper) (o : Option Sleeper) → ((t : Sleeper) → o ≡ Some t → is_among t.thread sleepers ≡ true)
    → is_among (earlier s o).thread (s ∷ sleepers) ≡ true
earlier_among s sleepers None rest = or_left (s.thread == s.thread) (is_among s.thread sleepers) (eq-eqb s.thread s.thread refl)
earlier_among s sleepers (Some t) rest =
    cond_both (ends_before t s) t s (λ (w : Sleeper). is_among w.thread (s ∷ sleepers) ≡ true)
    (λ e. or_right (s.thread == t.thread) (is_among t.thread sleepers) (rest t refl))
    (λ e. or_left (s.thread == s.thread) (is_among s.thread sleepers) (eq-eqb s.thread s.thread refl))

-- whose timeout ends first is a sleeper
pub first_is_among : (sleepers : List Sleeper) (f : Sleeper) → first_to_end sleepers ≡ Some f → is_among f.thread sleepers ≡ true
first_is_among [] f is = absurd (cc is)
first_is_among (s ∷ sleepers) f is =
    cond_both (has_timeout s) (Some (earlier s (first_to_end sleepers))) (first_to_end sleepers)
    (λ w. w ≡ Some f → is_among f.thread (s ∷ sleepers) ≡ true)
    (λ timed here. let same : earlier s (first_to_end sleepers) ≡ f = cc here in
    subst (λ (w : Sleeper). is_among w.thread (s ∷ sleepers) ≡ true) same
    (earlier_among s sleepers (first_to_end sleepers) (λ t later. first_is_among sleepers t later)))
    (λ untimed here. or_right (s.thread == f.thread) (is_among f.thread sleepers) (first_is_among sleepers f here))
    is

ended_cases : (n : ℕ) (sleepers : List Sleeper) (o : Option Sleeper) → first_to_end sleepers ≡ o → is_among n (option_map_or (λ s. s ∷ []) o sleepers) ≡ true
    → is_among n sleepers ≡ true
ended_cases n sleepers None is among = among
ended_cases n sleepers (Some f) is among =
    elim (cases_Bool (f.thread == n)) [
      | inl e ↦ subst (λ (k : ℕ). is_among k sleepers ≡ true) (eqb-true f.thread n e) (first_is_among sleepers f is)
      | inr e ↦ (let none : ((f.thread == n) || false) ≡ false = or_from (f.thread == n) false e refl in
          absurd (both_ways ((f.thread == n) || false) none among))
    ]

-- whom settling wakes sleeps
pub ended_sleeps : (n : ℕ) (sleepers : List Sleeper) → is_among n (ended sleepers) ≡ true → is_among n sleepers ≡ true
ended_sleeps n sleepers among = ended_cases n sleepers (first_to_end sleepers) refl among

-- whom a notify wakes slept
pub woken_sleeps : (n addr count : ℕ) (sleepers : List Sleeper) → is_among n (woken_at addr count sleepers) ≡ true → is_among n sleepers ≡ true
woken_sleeps n addr count sleepers among =
    list_any-filtered (λ (s : Sleeper). s.addr == addr) (λ (s : Sleeper). s.thread == n) sleepers
    (list_any-take (λ (s : Sleeper). s.thread == n) count (filter (λ (s : Sleeper). s.addr == addr) sleepers) among)
