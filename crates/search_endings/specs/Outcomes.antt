-- Equal outcomes are the same.
use Rattle.std.specs.Prelude.{◌≡◌, Bool, true, false, List, [], ◌∷◌, Option, Some, None, cond, refl}
use Rattle.std.proofs.Common.{sym, ap, ◌∙◌, true≢false}
use Rattle.std.proofs.lemmas.Bool.{eqb-true}
use Rattle.std.specs.Cmp.{first_so, second_so}
use Rattle.std.specs.Cmp.Lexicographic.{pointwise}
use Rattle.types.specs.declared.value.Value.{Value}
use Rattle.types.specs.declared.value.Value.TheVariants as values
use Rattle.types.specs.contracts.value.ValuePartialEq.TheImpl as value_eq
use Rattle.types.specs.declared.outcome.Trap.{Trap}
use Rattle.types.specs.declared.outcome.Trap.TheVariants as traps
use Rattle.types.specs.contracts.outcome.TrapPartialEq.TheImpl as trap_eq
use Rattle.types.specs.contracts.outcome.TrapEq.TheImpl.Laws.{laws-law}
use Rattle.types.specs.declared.outcome.Stop.{Stop}
use Rattle.types.specs.declared.outcome.Stop.TheVariants as stops
use Rattle.types.specs.contracts.outcome.StopPartialEq.TheImpl as stop_eq
use Rattle.types.specs.declared.outcome.Outcome.{Outcome}
use Rattle.types.specs.declared.outcome.Outcome.TheVariants as outcomes
use Rattle.types.specs.contracts.outcome.OutcomePartialEq.TheImpl as outcome_eq

pub untrue : {A : Type 0} → false ≡ true → A
untrue e = absurd (true≢false (sym e))

pub same_value : (x y : Value) → value_eq.eq-value.it x y ≡ true → x ≡ y
same_value (values.I32 a) (values.I32 b) e = ap values.I32 (eqb-true a b e)
same_value (values.I32 a) (values.I64 b) e = untrue e
same_value (values.I64 a) (values.I32 b) e = untrue e
same_value (values.I64 a) (values.I64 b) e = ap values.I64 (eqb-true a b e)

abbrev all_traps : List Trap
all_traps = traps.Unreachable ∷ traps.DivideByZero ∷ traps.IntegerOverflow ∷ traps.OutOfBounds ∷ traps.UnalignedAtomic
    ∷ traps.NotShared
    ∷ traps.UndefinedElement ∷ traps.UninitializedElement ∷ traps.SignatureMismatch ∷ traps.StackExhausted ∷ []

-- the first one of a list that is told to be it
abbrev found : (Trap → Bool) → List Trap → Trap
found is [] = traps.Unreachable
found is (t ∷ ts) = cond (is t) t (found is ts)

back : (x : Trap) → x ≡ found (trap_eq.eq-value.it x) all_traps
back traps.Unreachable = refl
back traps.DivideByZero = refl
back traps.IntegerOverflow = refl
back traps.OutOfBounds = refl
back traps.UnalignedAtomic = refl
back traps.NotShared = refl
back traps.UndefinedElement = refl
back traps.UninitializedElement = refl
back traps.SignatureMismatch = refl
back traps.StackExhausted = refl

pub same_trap : (x y : Trap) → trap_eq.eq-value.it x y ≡ true → x ≡ y
same_trap x y e = back x ∙ (ap (λ is. found is all_traps) (λ i z. laws-law.congr x y z e i) ∙ sym (back y))

pub same_stop : (x y : Stop) → stop_eq.eq-value.it x y ≡ true → x ≡ y
same_stop stops.OutOfFuel stops.OutOfFuel e = refl
same_stop stops.OutOfFuel stops.AsleepForGood e = untrue e
same_stop stops.OutOfFuel stops.RecordFull e = untrue e
same_stop stops.AsleepForGood stops.OutOfFuel e = untrue e
same_stop stops.AsleepForGood stops.AsleepForGood e = refl
same_stop stops.AsleepForGood stops.RecordFull e = untrue e
same_stop stops.RecordFull stops.OutOfFuel e = untrue e
same_stop stops.RecordFull stops.AsleepForGood e = untrue e
same_stop stops.RecordFull stops.RecordFull e = refl

pub same_done : (a b : Option Value) → outcome_eq.eq-value.it (outcomes.Done a) (outcomes.Done b) ≡ true → a ≡ b
same_done None None e = refl
same_done None (Some b) e = untrue e
same_done (Some a) None e = untrue e
same_done (Some a) (Some b) e = ap Some (same_value a b e)

pub same_outcome : (x y : Outcome) → outcome_eq.eq-value.it x y ≡ true → x ≡ y
same_outcome (outcomes.Done a) (outcomes.Done b) e = ap outcomes.Done (same_done a b e)
same_outcome (outcomes.Done a) (outcomes.Trap b) e = untrue e
same_outcome (outcomes.Done a) (outcomes.Stop b) e = untrue e
same_outcome (outcomes.Trap a) (outcomes.Done b) e = untrue e
same_outcome (outcomes.Trap a) (outcomes.Trap b) e = ap outcomes.Trap (same_trap a b e)
same_outcome (outcomes.Trap a) (outcomes.Stop b) e = untrue e
same_outcome (outcomes.Stop a) (outcomes.Done b) e = untrue e
same_outcome (outcomes.Stop a) (outcomes.Trap b) e = untrue e
same_outcome (outcomes.Stop a) (outcomes.Stop b) e = ap outcomes.Stop (same_stop a b e)

pub same_list : {A : Type 0} (eq : A → A → Bool) → ((x y : A) → eq x y ≡ true → x ≡ y) → (xs ys : List A)
    → pointwise eq xs ys ≡ true → xs ≡ ys
same_list eq same [] [] e = refl
same_list eq same [] (y ∷ ys) e = untrue e
same_list eq same (x ∷ xs) [] e = untrue e
same_list eq same (x ∷ xs) (y ∷ ys) e =
    let one = same x y (first_so (eq x y) (pointwise eq xs ys) e) in
    let rest = same_list eq same xs ys (second_so (eq x y) (pointwise eq xs ys) e) in
    λ i. one i ∷ rest i
