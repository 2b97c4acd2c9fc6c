-- Maps changed at one place, and lists of marks one after the other.
use Rattle.std.proofs.Common.{◌≡◌, ◌≢◌, ℕ, ◌==◌, ◌⊎◌, inl, inr, Bool, true, false, cond, List, [], ◌∷◌, ◌++◌, refl, sym, ◌∙◌, ap, subst, arith, append_assoc}
use Rattle.std.proofs.lemmas.Bool.Decides.{nat_tests}
use Rattle.schedule.specs.Scheduled.{after_mark, entries_at, entries_made, scheduled_run, steps_at, steps_made}
use Rattle.schedule.specs.System.{Mark, State, System, put}

pub same_is : (n : ℕ) → (n == n) ≡ true
same_is n = grind (arith, nat_tests)

pub other_is : (m n : ℕ) → m ≢ n → (m == n) ≡ false
other_is m n h = grind (arith, nat_tests)

same_of : (m n : ℕ) (b : Bool) → (m == n) ≡ b → (m ≡ n) ⊎ (m ≢ n)
same_of m n true e = let k : m ≡ n = grind (arith, nat_tests) in inl k
same_of m n false e = let k : m ≢ n = grind (arith, nat_tests) in inr k

pub same_or_not : (m n : ℕ) → (m ≡ n) ⊎ (m ≢ n)
same_or_not m n = same_of m n (m == n) refl

pub at_each : (n : ℕ) (Q : ℕ → Type 0) → Q n → ((m : ℕ) → m ≢ n → Q m) → (m : ℕ) → Q m
at_each n Q here others m = elim (same_or_not m n) [ inl e ↦ subst Q (sym e) here | inr h ↦ others m h ]

pub put-same : {B : Type 0} (f : ℕ → B) (n : ℕ) (t : B) → put f n t n ≡ t
unfolding put
put-same f n t = ap (λ b. cond b t (f n)) (same_is n)

pub put-other : {B : Type 0} (f : ℕ → B) (n : ℕ) (t : B) (m : ℕ) → m ≢ n → put f n t m ≡ f m
unfolding put
put-other f n t m h = ap (λ b. cond b t (f m)) (other_is m n h)

module _ {X T E V A : Type 0} (s : System X T E V A) where
  pub scheduled_run-append : (w : State X T) (S S' : List Mark) → scheduled_run s w (S ++ S') ≡ scheduled_run s (scheduled_run s w S) S'
  scheduled_run-append w [] S' = refl
  scheduled_run-append w (k ∷ S) S' = scheduled_run-append (after_mark s w k.thread k.kind) S S'

  pub entries_made-append : (w : State X T) (S S' : List Mark) → entries_made s w (S ++ S') ≡ entries_made s w S ++ entries_made s (scheduled_run s w S) S'
  entries_made-append w [] S' = refl
  entries_made-append w (k ∷ S) S' =
      ap (λ z. entries_at s w k.thread k.kind ++ z) (entries_made-append (after_mark s w k.thread k.kind) S S')
      ∙ sym (append_assoc (entries_at s w k.thread k.kind) (entries_made s (after_mark s w k.thread k.kind) S)
      (entries_made s (scheduled_run s (after_mark s w k.thread k.kind) S) S'))

  pub steps_made-append : (m : ℕ) (w : State X T) (S S' : List Mark)
      → steps_made s m w (S ++ S') ≡ steps_made s m w S ++ steps_made s m (scheduled_run s w S) S'
  steps_made-append m w [] S' = refl
  steps_made-append m w (k ∷ S) S' =
      ap (λ z. steps_at s m w k.thread k.kind ++ z) (steps_made-append m (after_mark s w k.thread k.kind) S S')
      ∙ sym (append_assoc (steps_at s m w k.thread k.kind) (steps_made s m (after_mark s w k.thread k.kind) S)
      (steps_made s m (scheduled_run s (after_mark s w k.thread k.kind) S) S'))
