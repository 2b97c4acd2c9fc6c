-- The laws of values, ends, the first five lines and whole records.
use Rattle.std.proofs.Common.{◌≡◌, ℕ, ◌-◌, ◌^◌, ◌<◌, ◌≤◌, Bool, true, false, cond, List, [], ◌∷◌, ◌++◌, Option, Some, None, refl, sym, ap, subst, ◌∙◌, arith}
use Rattle.std.specs.Prelude.{codes, ◌==◌}
use Rattle.std.specs.Fmt.{decimal}
use Rattle.std.proofs.lemmas.Bool.Decides.{nat_tests}
use Rattle.types.specs.declared.value.Value.{Value}
use Rattle.types.specs.declared.value.Value.TheVariants as values
use Rattle.types.specs.declared.outcome.Trap.{Trap}
use Rattle.types.specs.declared.outcome.Trap.TheVariants as traps
use Rattle.types.specs.declared.outcome.Stop.{Stop}
use Rattle.types.specs.declared.outcome.Stop.TheVariants as stops
use Rattle.types.specs.declared.outcome.Outcome.{Outcome}
use Rattle.types.specs.declared.outcome.Outcome.TheVariants as outcomes
use Rattle.types.specs.declared.outcome.ThreadReport.{ThreadReport}
use Rattle.types.specs.Values.{value_text}
use Rattle.types.specs.Outcomes.{trap_number, stop_number}
use Rattle.types.specs.declared.limits.TheConstants.{MOST_SPAWNED, MOST_FUEL}
use Rattle.replay_forms.specs.Reading.{◌>>=◌, after, number_within, number_then, behind, both, made, first}
use Rattle.replay_forms.specs.Texts.{line, spaced}
use Rattle.replay_forms.proofs.Laws.{Law, Takes, bind_some, move, after_takes, within_takes, within_again}
use Rattle.replay_forms.proofs.Laws.{begins_plain, number_text, number_law, behind_text, behind_law, both_text}
use Rattle.replay_forms.proofs.Laws.{both_law, made_takes, made_again, word_takes, first_takes, first_again, law_from}
use Rattle.replay_forms.proofs.Laws.{only_some, some_is}
use Rattle.replay_forms.proofs.Lines.{words_line_spaced}
use Rattle.replay_text.specs.Words.{outcome_words, end_words}
use Rattle.replay_text.specs.Conditions.{IsValue, IsOutcome, IsReport}
use Rattle.replay_text.specs.Reading.{value_at, result_at, trap_of, stop_of, trap_at, stop_at, outcome_at, report_of, end_at}

-- ---- values

abbrev pub value_front : Value → List ℕ → List ℕ
value_front v rest = value_text v ++ rest

typed_takes : (f : ℕ → Value) (word : List ℕ) (max : ℕ)
    → ((n : ℕ) (rest : List ℕ) → word ++ (decimal n ++ rest) ≡ value_front (f n) rest)
    → ((n : ℕ) → n ≤ max → IsValue (f n)) → Takes value_front IsValue (made (λ n. Some (f n))
    (behind word (number_within max)))
typed_takes f word max same fit = record {
  taken = λ bytes v rest e.
      let p = bind_some (behind word (number_within max) bytes) (λ x. Some (f x.0, x.1)) (v, rest) e in
      let q = bind_some (after word bytes) (λ r. number_within max r) p.0 p.1 in
      let w = within_takes max q.0 p.0.0 p.0.1 q.2 in
      move (λ x r. (bytes ≡ value_front x r) × IsValue x)
      (f p.0.0) v p.0.1 rest p.2 (
        after_takes word bytes q.0 q.1 ∙ ap (λ (t : List ℕ). word ++ t) w.0
            ∙ same p.0.0 p.0.1,
        fit p.0.0 w.1,
      );
}

pub value_taken : (bytes : List ℕ) (v : Value) (rest : List ℕ) → value_at bytes ≡ Some (v, rest) → (bytes ≡ value_front v rest) × IsValue v
value_taken bytes v rest e = (first_takes value_front IsValue
    (made (λ n. Some (values.I32 n)) (behind (codes "i32:") (number_within (2 ^ 32 - 1))))
    (made (λ n. Some (values.I64 n)) (behind (codes "i64:") (number_within (2 ^ 64 - 1))))
    (typed_takes values.I32 (codes "i32:") (2 ^ 32 - 1) (λ n rest. refl) (λ n h. h))
    (typed_takes values.I64 (codes "i64:") (2 ^ 64 - 1) (λ n rest. refl) (λ n h. h))).taken bytes v rest e

pub value_back : (v : Value) (rest : List ℕ) → begins_plain rest ≡ true → IsValue v → value_at (value_front v rest) ≡ Some (v, rest)
unfolding after
value_back (values.I32 n) rest plain fit =
    first_again (made (λ n. Some (values.I32 n)) (behind (codes "i32:") (number_within (2 ^ 32 - 1))))
    (made (λ n. Some (values.I64 n)) (behind (codes "i64:") (number_within (2 ^ 64 - 1))))
    (value_front (values.I32 n) rest) _ (ap (λ (o : Option (ℕ × List ℕ)). o >>= λ x. Some (values.I32 x.0, x.1))
    (within_again (2 ^ 32 - 1) n rest (omega arith) fit plain))
value_back (values.I64 n) rest plain fit = ap (λ (o : Option (ℕ × List ℕ)). o >>= λ x. Some (values.I64 x.0, x.1))
    (within_again (2 ^ 64 - 1) n rest (omega arith) fit plain)

-- a value, and the space behind it
abbrev outcome_text : Outcome → List ℕ → List ℕ
outcome_text o rest = spaced (outcome_words o) rest

result_takes : Takes outcome_text IsOutcome (behind (codes "ok ") result_at)
result_takes = record {
  taken = λ bytes o rest e.
      let p = bind_some (after (codes "ok ") bytes) (λ r. result_at r) (o, rest) e in
      let q = bind_some (value_at p.0) (λ v. after (32 ∷ []) v.1 >>= λ r. Some (outcomes.Done (Some v.0), r)) (o, rest) p.2 in
      let s = bind_some (after (32 ∷ []) q.0.1) (λ r. Some (outcomes.Done (Some q.0.0), r)) (o, rest) q.2 in
      let t = value_taken p.0 q.0.0 q.0.1 q.1 in
      let u = after_takes (32 ∷ []) q.0.1 s.0 s.1 in
      let whole : bytes ≡ outcome_text (outcomes.Done (Some q.0.0)) s.0 = after_takes (codes "ok ") bytes p.0 p.1
      ∙ ap (λ (z : List ℕ). codes "ok " ++ z) (t.0 ∙ ap (λ (z : List ℕ). value_text q.0.0 ++ z) u) in
      move (λ x r. (bytes ≡ outcome_text x r) × IsOutcome x) (outcomes.Done (Some q.0.0)) o s.0 rest s.2 (whole, t.1);
}

result_back : (v : Value) (rest : List ℕ) → IsValue v → result_at (value_text v ++ 32 ∷ rest) ≡ Some (outcomes.Done (Some v), rest)
unfolding after
result_back v rest fit = rw (value_back v (32 ∷ rest) refl fit) refl

no_dash : (v : Value) (bytes rest : List ℕ) → IsValue v
    → result_at (value_text v ++ 32 ∷ rest) ≡ Some (outcomes.Done (Some v), rest)
    → outcome_at (codes "ok " ++ (value_text v ++ 32 ∷ rest)) ≡ Some (outcomes.Done (Some v), rest)
unfolding after
no_dash (values.I32 n) bytes rest fit e = first_again (behind (codes "ok ") result_at) (first trap_at stop_at)
    (codes "ok " ++ (value_text (values.I32 n) ++ 32 ∷ rest)) _ e
no_dash (values.I64 n) bytes rest fit e = first_again (behind (codes "ok ") result_at) (first trap_at stop_at)
    (codes "ok " ++ (value_text (values.I64 n) ++ 32 ∷ rest)) _ e

-- ---- traps and stops

found_if : {A : Type 0} (P : A → Type 0) (b : Bool) (x y : A) (o : Option A) → (b ≡ true → P x) → (o ≡ Some y → P y) → cond b (Some x) o ≡ Some y → P y
found_if P true x y o f g e = subst P (some_is x y e) (f refl)
found_if P false x y o f g e = g e

is_number : (n k : ℕ) → (n == k) ≡ true → k ≡ n
is_number n k e = grind (arith, nat_tests, e)

trap_found : (n : ℕ) (t : Trap) → trap_of n ≡ Some t → trap_number t ≡ n
trap_found n t e =
    found_if (λ t. trap_number t ≡ n) (n == 1) traps.Unreachable t _ (is_number n 1) (λ e.
    found_if (λ t. trap_number t ≡ n) (n == 2) traps.DivideByZero t _ (is_number n 2) (λ e.
    found_if (λ t. trap_number t ≡ n) (n == 3) traps.IntegerOverflow t _ (is_number n 3) (λ e.
    found_if (λ t. trap_number t ≡ n) (n == 4) traps.OutOfBounds t _ (is_number n 4) (λ e.
    found_if (λ t. trap_number t ≡ n) (n == 5) traps.UnalignedAtomic t _ (is_number n 5) (λ e.
    found_if (λ t. trap_number t ≡ n) (n == 6) traps.NotShared t _ (is_number n 6) (λ e.
    found_if (λ t. trap_number t ≡ n) (n == 7) traps.UndefinedElement t _ (is_number n 7) (λ e.
    found_if (λ t. trap_number t ≡ n) (n == 8) traps.UninitializedElement t _ (is_number n 8) (λ e.
    found_if (λ t. trap_number t ≡ n) (n == 9) traps.SignatureMismatch t _ (is_number n 9) (λ e.
    found_if (λ t. trap_number t ≡ n) (n == 10) traps.StackExhausted t None (is_number n 10) (λ e. absurd cc) e) e) e) e) e) e) e) e) e) e

stop_found : (n : ℕ) (s : Stop) → stop_of n ≡ Some s → stop_number s ≡ n
stop_found n s e =
    found_if (λ s. stop_number s ≡ n) (n == 1) stops.OutOfFuel s _ (is_number n 1) (λ e.
    found_if (λ s. stop_number s ≡ n) (n == 2) stops.AsleepForGood s _ (is_number n 2) (λ e.
    found_if (λ s. stop_number s ≡ n) (n == 3) stops.RecordFull s None (is_number n 3) (λ e. absurd cc) e) e) e

trap_back : (t : Trap) → trap_of (trap_number t) ≡ Some t
trap_back traps.Unreachable = refl
trap_back traps.DivideByZero = refl
trap_back traps.IntegerOverflow = refl
trap_back traps.OutOfBounds = refl
trap_back traps.UnalignedAtomic = refl
trap_back traps.NotShared = refl
trap_back traps.UndefinedElement = refl
trap_back traps.UninitializedElement = refl
trap_back traps.SignatureMismatch = refl
trap_back traps.StackExhausted = refl

pub trap_small : (t : Trap) → trap_number t ≤ 10
trap_small traps.Unreachable = omega arith
trap_small traps.DivideByZero = omega arith
trap_small traps.IntegerOverflow = omega arith
trap_small traps.OutOfBounds = omega arith
trap_small traps.UnalignedAtomic = omega arith
trap_small traps.NotShared = omega arith
trap_small traps.UndefinedElement = omega arith
trap_small traps.UninitializedElement = omega arith
trap_small traps.SignatureMismatch = omega arith
trap_small traps.StackExhausted = omega arith

stop_back : (s : Stop) → stop_of (stop_number s) ≡ Some s
stop_back stops.OutOfFuel = refl
stop_back stops.AsleepForGood = refl
stop_back stops.RecordFull = refl

pub stop_small : (s : Stop) → stop_number s ≤ 3
stop_small stops.OutOfFuel = omega arith
stop_small stops.AsleepForGood = omega arith
stop_small stops.RecordFull = omega arith

abbrev number : ℕ → List ℕ → List ℕ
number = number_text (32 ∷ [])

coded_law : (max : ℕ) (word : List ℕ) → max < 2 ^ 64 → Law (behind_text word number) (λ n. n ≤ max) (behind word (number_then max (32 ∷ [])))
coded_law max word fits = behind_law _ _ _ _ (number_law max 32 [] fits refl)

trap_there : (n : ℕ) (o : Outcome) (rest : List ℕ) → n ≤ 10 → (trap_of n >>= λ t. Some (outcomes.Trap t)) ≡ Some o
    → (behind_text (codes "trap ") number n rest ≡ outcome_text o rest) × IsOutcome o
trap_there n o rest le e =
    let p = bind_some (trap_of n) (λ t. Some (outcomes.Trap t)) o e in
    subst (λ (z : Outcome). (behind_text (codes "trap ") number n rest ≡ outcome_text z rest) × IsOutcome z)
    (some_is (outcomes.Trap p.0) o p.2) (
      ap (λ (k : ℕ). behind_text (codes "trap ") number k rest)
          (sym (trap_found n p.0 p.1)),
      tt,
    )

stop_there : (n : ℕ) (o : Outcome) (rest : List ℕ) → n ≤ 3 → (stop_of n >>= λ t. Some (outcomes.Stop t)) ≡ Some o
    → (behind_text (codes "stop ") number n rest ≡ outcome_text o rest) × IsOutcome o
stop_there n o rest le e =
    let p = bind_some (stop_of n) (λ t. Some (outcomes.Stop t)) o e in
    subst (λ (z : Outcome). (behind_text (codes "stop ") number n rest ≡ outcome_text z rest) × IsOutcome z)
    (some_is (outcomes.Stop p.0) o p.2) (
      ap (λ (k : ℕ). behind_text (codes "stop ") number k rest)
          (sym (stop_found n p.0 p.1)),
      tt,
    )

outcome_back : (o : Outcome) (rest : List ℕ) → IsOutcome o → outcome_at (outcome_text o rest) ≡ Some (o, rest)
unfolding after
outcome_back (outcomes.Done None) rest fit = refl
outcome_back (outcomes.Done (Some v)) rest fit = no_dash v (value_text v ++ 32 ∷ rest) rest fit (result_back v rest fit)
outcome_back (outcomes.Trap t) rest fit =
    first_again trap_at stop_at (outcome_text (outcomes.Trap t) rest) _
    (made_again (λ n. trap_of n >>= λ t. Some (outcomes.Trap t)) _ _ _ (coded_law 10 (codes "trap ") (omega arith))
    (trap_number t) (outcomes.Trap t) rest (trap_small t) (rw (trap_back t) refl))
outcome_back (outcomes.Stop s) rest fit =
    made_again (λ n. stop_of n >>= λ t. Some (outcomes.Stop t)) _ _ _ (coded_law 3 (codes "stop ") (omega arith))
    (stop_number s) (outcomes.Stop s) rest (stop_small s) (rw (stop_back s) refl)

outcome_law : Law outcome_text IsOutcome outcome_at
outcome_law = law_from outcome_text IsOutcome outcome_at
    (first_takes _ _ _ _ (word_takes (outcomes.Done None) (codes "ok - ") _ _ (λ rest. refl) tt)
    (first_takes _ _ _ _ result_takes
    (first_takes _ _ _ _ (made_takes (λ n. trap_of n >>= λ t. Some (outcomes.Trap t)) _ _ _ outcome_text IsOutcome
    (coded_law 10 (codes "trap ") (omega arith)) trap_there)
    (made_takes (λ n. stop_of n >>= λ t. Some (outcomes.Stop t)) _ _ _ outcome_text IsOutcome (coded_law 3 (codes "stop ") (omega arith)) stop_there))))
    outcome_back

-- ---- ends

abbrev pub end_text : ℕ → ThreadReport → List ℕ → List ℕ
end_text thread r rest = line (end_words thread r) rest

abbrev pub EndFits : ℕ → ThreadReport → Type 0
EndFits thread r = IsReport r × (thread ≤ MOST_SPAWNED)

abbrev end_pieces : ℕ × (Outcome × ℕ) → List ℕ → List ℕ
end_pieces = behind_text (codes "end ") (both_text number (both_text outcome_text (number_text (10 ∷ []))))

end_pieces_law : Law end_pieces (λ x. (x.0 ≤ MOST_SPAWNED) × (IsOutcome (x.1).0 × ((x.1).1 ≤ MOST_FUEL)))
    (behind (codes "end ") (both (number_then MOST_SPAWNED (32 ∷ []))
    (both outcome_at (number_then MOST_FUEL (10 ∷ [])))))
end_pieces_law = behind_law _ _ _ _ (both_law _ _ _ _ _ _ (number_law MOST_SPAWNED 32 [] (omega arith) refl)
    (both_law _ _ _ _ _ _ outcome_law (number_law MOST_FUEL 10 [] (omega arith) refl)))

same_end : (thread : ℕ) (o : Outcome) (spent : ℕ) (rest : List ℕ)
    → end_pieces (thread, (o, spent)) rest ≡ end_text thread (record { outcome = o; spent = spent }) rest
same_end thread o spent rest = sym (ap (λ (t : List ℕ). codes "end " ++ (decimal thread ++ t)) (words_line_spaced (outcome_words o) (decimal spent) [] rest))

end_there : (thread : ℕ) (x : ℕ × (Outcome × ℕ)) (r : ThreadReport) (rest : List ℕ) → (x.0 ≤ MOST_SPAWNED)
    × (IsOutcome (x.1).0 × ((x.1).1 ≤ MOST_FUEL)) → report_of thread x ≡ Some r
    → (end_pieces x rest ≡ end_text thread r rest) × EndFits thread r
end_there thread x r rest fit e =
    let report : ThreadReport = record { outcome = (x.1).0; spent = (x.1).1 } in
    let p = only_some (x.0 == thread) (Some report) r e in
    let n : x.0 ≡ thread = grind (arith, nat_tests, p.0) in
    let good : IsReport report = record { outcome = (fit.1).0; spent = (fit.1).1 } in
    let low : thread ≤ MOST_SPAWNED = omega (arith, fit.0) in
    subst (λ (z : ThreadReport). (end_pieces x rest ≡ end_text thread z rest) × EndFits thread z)
    (some_is report r p.1) (
      ap (λ (k : ℕ). end_pieces (k, (x.1)) rest) n
          ∙ same_end thread (x.1).0 (x.1).1 rest,
      (good, low),
    )

pub end_takes : (thread : ℕ) (bytes : List ℕ) (r : ThreadReport) (rest : List ℕ)
    → end_at thread bytes ≡ Some (r, rest) → (bytes ≡ end_text thread r rest) × EndFits thread r
unfolding end_at
end_takes thread bytes r rest e = (made_takes (report_of thread) _ _ _ (end_text thread)
    (EndFits thread) end_pieces_law (end_there thread)).taken bytes r rest e

pub end_again : (thread : ℕ) (r : ThreadReport) (rest : List ℕ) → EndFits thread r → end_at thread (end_text thread r rest) ≡ Some (r, rest)
unfolding end_at
end_again thread r rest fit =
    let t : (thread == thread) ≡ true = grind (arith, nat_tests) in
    let to : report_of thread (thread, (r.outcome, r.spent)) ≡ Some r = rw t refl in
    ap (end_at thread) (sym (same_end thread r.outcome r.spent rest))
    ∙ made_again (report_of thread) _ _ _ end_pieces_law (thread, (r.outcome, r.spent)) r rest (
      fit.1,
      (fit.0.outcome, fit.0.spent),
    ) to
