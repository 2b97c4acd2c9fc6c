-- A list of threads of which one is changed.
use Rattle.std.proofs.Common.{◌≡◌, ◌≢◌, ℕ, ◌<◌, ◌≤◌, List, length, Option, Some, None, refl, sym, ◌∙◌, ap, subst, inl}
use Rattle.std.proofs.Common.{inr, arith, get_or, set, get_or-set_other, get_or-set_same, length-set}
use Rattle.std.specs.List.{slice_get}
use Rattle.std.proofs.lemmas.Bool.{cases_lt}
use Rattle.std.proofs.lemmas.Option.{slice_get-get_or, slice_get_past}
use Rattle.schedule.specs.System.{Want.Awaits, put}
use Rattle.schedule.specs.Machine.{Thread.Absent}
use Rattle.schedule.proofs.Basics.{put-same, put-other, at_each}
use Rattle.interp_trait.specs.Turns.{Running, wants_of, Meaning}
use Rattle.schedule_machine.specs.Threads.{Setting}
use Rattle.schedule_program.specs.Threads.{IsThread}
use Rattle.shared_memory.specs.WaitQueue.{WaitQueue, answer_due}
use Rattle.schedule.specs.Scheduled.{hears_any}
use Rattle.types.specs.declared.event.Answer.{Answer}
use Rattle.schedule_machine.specs.Runs.{MayHear, all_hear, system_by}
use Rattle.schedule_program.specs.Runs.{AreThreads, IsThreadAt}
use Rattle.schedule_program.specs.declared.stepped.Stepped.{Stepped}

pub get_set_same : {X : Type 0} (xs : List X) (i : ℕ) (y : X) → i < length xs → slice_get (set xs i y) i ≡ Some y
get_set_same xs i y within =
    slice_get-get_or (set xs i y) i y (omega (arith, length-set xs i y, within)) ∙ ap Some (get_or-set_same xs i y y within)

pub get_set_other : {X : Type 0} (xs : List X) (i j : ℕ) (y : X) → j ≢ i → slice_get (set xs i y) j ≡ slice_get xs j
get_set_other xs i j y apart =
    elim (cases_lt j (length xs)) [
      | inl within ↦ slice_get-get_or (set xs i y) j y (omega (arith, length-set xs i y, within))
          ∙ (ap Some (get_or-set_other xs i j y y apart) ∙ sym (slice_get-get_or xs j y within))
      | inr past ↦ slice_get_past (set xs i y) j (omega (arith, length-set xs i y, past)) ∙ sym (slice_get_past xs j past)
    ]

pub none_of : {X : Type 0} (o : Option X) → ((x : X) → o ≡ Some x → ⊥) → o ≡ None
none_of None h = refl
none_of (Some x) h = absurd (h x refl)

module _ {S : Type 0} (meaning : S → Meaning) (s : Setting) (xs : List (Stepped S)) where
  abbrev Are : List (Stepped S) → (ℕ → Running) → Type 0
  Are ys f = AreThreads meaning s ys f

  abbrev Is : Stepped S → Running → Type 0
  Is x t = IsThread meaning s x t

  -- the thread in a slot
  pub thread_in : (f : ℕ → Running) (n : ℕ) (d : Stepped S) → n < length xs → Are xs f → Is (get_or xs n d) (f n)
  thread_in f n d within are = subst (λ o. IsThreadAt meaning s o (f n)) (slice_get-get_or xs n d within) (are n)

  -- a slot past the last
  pub none_past : (f : ℕ → Running) (n : ℕ) → length xs ≤ n → Are xs f → f n ≡ Absent
  none_past f n past are = subst (λ o. IsThreadAt meaning s o (f n)) (slice_get_past xs n past) (are n)

  -- who is there has a slot
  pub there : (f : ℕ → Running) (n : ℕ) → Are xs f → (f n ≡ Absent → ⊥) → n < length xs
  there f n are is = elim (cases_lt n (length xs)) [ inl within ↦ within | inr past ↦ absurd (is (none_past f n past are)) ]

  -- to whom an answer is due is there
  pub told_there : (f : ℕ → Running) (q : WaitQueue) (n : ℕ) (a : Answer) → Are xs f → MayHear s f q → answer_due q n ≡ Some a → n < length xs
  told_there f q n a are may due = there f n are (λ gone. let w : wants_of s.program (f n) ≡ Awaits = may n a due in
      absurd (cc (sym w ∙ ap (wants_of s.program) gone)))

  -- one slot changed, and the family at its number
  pub are_set : (f g : ℕ → Running) (n : ℕ) (y : Stepped S) → n < length xs → Are xs f → Is y (g n) → ((m : ℕ) → m ≢ n → g m ≡ f m) → Are (set xs n y) g
  are_set f g n y within are is others =
      at_each n (λ m. IsThreadAt meaning s (slice_get (set xs n y) m) (g m))
      (subst (λ o. IsThreadAt meaning s o (g n)) (sym (get_set_same xs n y within)) is)
      (λ m apart. subst (λ o. IsThreadAt meaning s o (g m)) (sym (get_set_other xs n m y apart))
      (subst (λ t. IsThreadAt meaning s (slice_get xs m) t) (sym (others m apart)) (are m)))

  pub are_put : (f : ℕ → Running) (n : ℕ) (y : Stepped S) (t : Running) → n < length xs → Are xs f → Is y t → Are (set xs n y) (put f n t)
  are_put f n y t within are is = are_set f (put f n t) n y within are (subst (λ u. Is y u) (sym (put-same f n t)) is) (λ m apart. put-other f n t m apart)

  -- threads that are the same, one by one
  pub are_same : (f g : ℕ → Running) → ((m : ℕ) → g m ≡ f m) → Are xs f → Are xs g
  are_same f g same are m = subst (λ t. IsThreadAt meaning s (slice_get xs m) t) (sym (same m)) (are m)

  -- a thread hears the answer that is due to it, if one is
  pub none_heard : (f : ℕ → Running) (q : WaitQueue) (n : ℕ) → answer_due q n ≡ None → Are xs f → Are xs (put f n (all_hear s f q n))
  none_heard f q n none are =
      are_same f (put f n (all_hear s f q n))
      (at_each n (λ m. put f n (all_hear s f q n) m ≡ f m)
      (put-same f n (all_hear s f q n) ∙ ap (λ o. hears_any (system_by s) (f n) o) none)
      (λ m apart. put-other f n (all_hear s f q n) m apart)) are
