-- Places that are the same, and calls.
use Rattle.std.proofs.Common.{◌≡◌, ◌∙◌, Bool, true, false, Option, Some, None, refl, sym, ap, subst, eq-eqb, ℕ}
use Rattle.std.proofs.lemmas.Bool.{and_from, and_parts, both_ways, eqb-true}
use Rattle.interp.specs.declared.place.CodePlace.{CodePlace}
use Rattle.show_races.specs.declared.found.Places.{Places}
use Rattle.show_races.specs.Told.{is_same, is_alike}

same_is : (a b : Option CodePlace) → is_same a b ≡ true → a ≡ b
same_is None None e = refl
same_is None (Some b) e = absurd (both_ways false refl e)
same_is (Some a) None e = absurd (both_ways false refl e)
same_is (Some a) (Some b) e =
    let p = and_parts _ _ e in
    ap (λ (k : ℕ). Some (record { function = k; instr = a.instr })) (eqb-true a.function b.function p.0)
    ∙ ap (λ (k : ℕ). Some (record { function = b.function; instr = k })) (eqb-true a.instr b.instr p.1)

itself : (a : Option CodePlace) → is_same a a ≡ true
itself None = refl
itself (Some a) = and_from _ _ (eq-eqb a.function a.function refl) (eq-eqb a.instr a.instr refl)

pub alike_yes : (x y : Places) (b : Bool) → b ≡ is_alike x y → b ≡ true → x ≡ y
alike_yes x y b is holds =
    let all = and_parts _ _ (sym is ∙ holds) in
    let three = and_parts _ _ all.0 in
    let two = and_parts _ _ three.0 in
    ap (λ (k : Option CodePlace). record x { first = k }) (same_is x.first y.first two.0)
    ∙ (ap (λ (k : Option CodePlace). record x { first = y.first; second = k }) (same_is x.second y.second two.1)
    ∙ (ap (λ (k : Option CodePlace). record y { first_call = k; second_call = x.second_call })
    (same_is x.first_call y.first_call three.1)
    ∙ ap (λ (k : Option CodePlace). record y { second_call = k }) (same_is x.second_call y.second_call all.1)))

alike_itself : (x : Places) → is_alike x x ≡ true
alike_itself x = and_from _ _ (and_from _ _ (and_from (is_same x.first x.first) (is_same x.second x.second) (itself x.first)
    (itself x.second)) (itself x.first_call)) (itself x.second_call)

pub alike_no : (x y : Places) (b : Bool) → b ≡ is_alike x y → b ≡ false → x ≡ y → ⊥
alike_no x y b is fails same = both_ways b fails (is ∙ subst (λ (z : Places). is_alike x z ≡ true) same (alike_itself x))
