-- The threads of a machine before its first mark.
use Rattle.std.proofs.Common.{◌≡◌, ◌≢◌, ℕ, ◌+◌, ◌<◌, ◌≤◌, List, [], ◌∷◌, ◌++◌, length, Option, Some, sym, ◌∙◌, ap, subst, inl, inr, arith, length-append}
use Rattle.std.specs.List.{slice_get}
use Rattle.std.proofs.lemmas.Bool.{cases_eq, cases_lt}
use Rattle.std.proofs.lemmas.List.{get_or_append_left, get_or_push}
use Rattle.std.proofs.lemmas.Option.{slice_get-get_or, slice_get_past}
use Rattle.schedule.specs.Machine.{Thread.Absent}
use Rattle.schedule.proofs.Basics.{put-same, put-other, at_each}
use Rattle.interp_trait.specs.Turns.{Running, Meaning}
use Rattle.schedule_machine.specs.Threads.{Setting}
use Rattle.schedule_program.specs.Threads.{IsThread}
use Rattle.schedule_machine.specs.Runs.{first_thread}
use Rattle.schedule_program.specs.Runs.{AreThreads, IsThreadAt}
use Rattle.schedule_program.specs.declared.stepped.Stepped.{Stepped}

same_front : {X : Type 0} (xs : List X) (x : X) (m : ℕ) → m < length xs → slice_get xs m ≡ slice_get (xs ++ x ∷ []) m
same_front xs x m within =
    slice_get-get_or xs m x within ∙ (ap Some (sym (get_or_append_left xs (x ∷ []) x m within))
    ∙ sym (slice_get-get_or (xs ++ x ∷ []) m x (omega (arith, length-append xs (x ∷ []), within))))

new_last : {X : Type 0} (xs : List X) (x : X) (m : ℕ) → length xs ≡ m → slice_get (xs ++ x ∷ []) m ≡ Some x
new_last xs x m last = slice_get-get_or (xs ++ x ∷ []) m x (omega (arith, length-append xs (x ∷ []), last)) ∙ ap Some (get_or_push xs x x m last)

same_past : {X : Type 0} (xs : List X) (x : X) (m : ℕ) → length xs + 1 ≤ m → slice_get xs m ≡ slice_get (xs ++ x ∷ []) m
same_past xs x m past = slice_get_past xs m (omega (arith, past)) ∙ sym (slice_get_past (xs ++ x ∷ []) m (omega (arith, length-append xs (x ∷ []), past)))

module _ {S : Type 0} (meaning : S → Meaning) (s : Setting) where
  abbrev At : Option (Stepped S) → Running → Type 0
  At o t = IsThreadAt meaning s o t

  -- a thread that isn't started comes last
  pub are_pushed : (xs : List (Stepped S)) (x : Stepped S) (f : ℕ → Running) → AreThreads meaning s xs f → IsThread meaning s x Absent → f (length xs) ≡ Absent
      → AreThreads meaning s (xs ++ x ∷ []) f
  are_pushed xs x f are is absent m = elim (cases_lt m (length xs)) [
    | inl within ↦ subst (λ o. At o (f m)) (same_front xs x m within) (are m)
    | inr past ↦ elim (cases_eq m (length xs)) [
      | inl last ↦ subst (λ o. At o (f m)) (sym (new_last xs x m (sym last))) (subst (λ t. IsThread meaning s x t) (sym (ap f last ∙ absent)) is)
      | inr apart ↦ subst (λ o. At o (f m)) (same_past xs x m (omega (arith, past, apart))) (are m)
    ]
  ]

  -- thread 0 comes first
  pub are_first : (x : Stepped S) (t : Running) → IsThread meaning s x t → AreThreads meaning s (x ∷ []) (first_thread t)
  are_first x t is =
      at_each 0 (λ m. At (slice_get (x ∷ []) m) (first_thread t m))
      (subst (λ u. IsThread meaning s x u) (sym (put-same (λ (k : ℕ). Absent) 0 t)) is)
      (λ m apart. subst (λ o. At o (first_thread t m)) (sym (slice_get_past (x ∷ []) m (omega (arith, apart)))) (put-other (λ (k : ℕ). Absent) 0 t m apart))

  pub absent_past : (t : Running) (m : ℕ) → 1 ≤ m → first_thread t m ≡ Absent
  absent_past t m past = let apart : m ≢ 0 = λ e. absurd (omega (arith, past, e)) in put-other (λ (k : ℕ). Absent) 0 t m apart

  -- it is alone at first
  same_alone : (none xs : List (Stepped S)) (x : Stepped S) → none ≡ [] → xs ≡ none ++ x ∷ [] → xs ≡ x ∷ []
  same_alone none xs x empty is = is ∙ ap (λ ys. ys ++ x ∷ []) empty

  pub are_alone : (none xs : List (Stepped S)) (x : Stepped S) (t : Running) → none ≡ [] → xs ≡ none ++ x ∷ [] → IsThread meaning s x t
      → AreThreads meaning s xs (first_thread t)
  are_alone none xs x t empty is stands_so = subst (λ ys. AreThreads meaning s ys (first_thread t))
      (sym (same_alone none xs x empty is)) (are_first x t stands_so)

  pub count_alone : (none xs : List (Stepped S)) (x : Stepped S) → none ≡ [] → xs ≡ none ++ x ∷ [] → length xs ≡ 1
  count_alone none xs x empty is = ap length (same_alone none xs x empty is)
