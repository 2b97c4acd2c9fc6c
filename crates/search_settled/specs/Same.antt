-- Flat states that are equal are the same state.
use Rattle.std.specs.Prelude.{ℕ, ◌≡◌, ◌&&◌, zero, suc, Bool, true, List, [], ◌∷◌, length, Some, refl}
use Rattle.std.proofs.Common.{sym, ap, ◌∙◌, true≢false}
use Rattle.std.specs.Cmp.{first_so, second_so, IsEquivalence, partial_equiv_from_equiv}
use Rattle.std.specs.Cmp.Lexicographic.{pointwise, lists_per}
use Rattle.std.specs.List.{slice_get}
use Rattle.schedule.specs.System.{State}
use Rattle.search_settled.specs.declared.flat.RestingState.{RestingState}
use Rattle.search_settled.specs.Threads.{ThreadSystem, IsFlat}
use Rattle.search_settled.specs.Next.{StandsForState}

module _ {H : Type 0} (eq : H → H → Bool) where
  pub same_length : (xs ys : List H) → pointwise eq xs ys ≡ true → length xs ≡ length ys
  same_length [] [] e = refl
  same_length [] (y ∷ ys) e = absurd (true≢false (sym e))
  same_length (x ∷ xs) [] e = absurd (true≢false (sym e))
  same_length (x ∷ xs) (y ∷ ys) e = ap suc (same_length xs ys (second_so (eq x y) (pointwise eq xs ys) e))

  -- what stands in one list stands in the other, as an equal one
  pub one_at : (xs ys : List H) (m : ℕ) (y : H) → pointwise eq xs ys ≡ true → slice_get ys m ≡ Some y
      → (x : H) × (slice_get xs m ≡ Some x) × (eq x y ≡ true)
  one_at [] [] m y e at = absurd (cc at)
  one_at [] (z ∷ ys) m y e at = absurd (true≢false (sym e))
  one_at (x ∷ xs) [] m y e at = absurd (true≢false (sym e))
  one_at (x ∷ xs) (z ∷ ys) zero y e at =
      let same : z ≡ y = cc at in
      (x, refl, ap (eq x) (sym same) ∙ first_so (eq x z) (pointwise eq xs ys) e)
  one_at (x ∷ xs) (z ∷ ys) (suc m) y e at = one_at xs ys m y (second_so (eq x z) (pointwise eq xs ys) e) at

-- Flat states that are equal.
abbrev pub flat_eq : {G H : Type 0} → (G → G → Bool) → (H → H → Bool) → RestingState G H → RestingState G H → Bool
flat_eq eq_shared eq_thread x y = eq_shared x.shared y.shared && pointwise eq_thread x.threads.items y.threads.items

-- the other way round
pub flat_eq_back : {G H : Type 0} (eq_shared : G → G → Bool) (eq_thread : H → H → Bool) → IsEquivalence eq_shared → IsEquivalence eq_thread
    → (x y : RestingState G H) → flat_eq eq_shared eq_thread x y ≡ true → flat_eq eq_shared eq_thread y x ≡ true
flat_eq_back eq_shared eq_thread shared thread x y e =
    let per = lists_per (partial_equiv_from_equiv thread) in
    let a = shared.symm y.shared x.shared ∙ first_so (eq_shared x.shared y.shared) (pointwise eq_thread x.threads.items y.threads.items) e in
    let b = per.symm y.threads.items x.threads.items ∙ second_so (eq_shared x.shared y.shared) (pointwise eq_thread x.threads.items y.threads.items) e in
    ap (λ t. t && pointwise eq_thread y.threads.items x.threads.items) a ∙ b

pub flat_alike : {X T E V A G H M : Type 0} (eq_shared : G → G → Bool) (eq_thread : H → H
    → Bool) (k : ThreadSystem X T E V A G H M)
    → ((x y : G) → eq_shared x y ≡ true → (w : X) → k.shares x w → k.shares y w)
    → ((x y : H) → eq_thread x y ≡ true → (w : T) → k.is_thread x w → k.is_thread y w)
    → (x y : RestingState G H) → flat_eq eq_shared eq_thread x y ≡ true
    → (z : State X T) → IsFlat k x z → IsFlat k y z
flat_alike eq_shared eq_thread k same_shared same_thread x y e z is =
    let a = first_so (eq_shared x.shared y.shared) (pointwise eq_thread x.threads.items y.threads.items) e in
    let b = second_so (eq_shared x.shared y.shared) (pointwise eq_thread x.threads.items y.threads.items) e in
    record {
      shared = same_shared x.shared y.shared a z.shared is.shared;
      len = sym (same_length eq_thread x.threads.items y.threads.items b) ∙ is.len;
      each = λ m t at. (let o = one_at eq_thread x.threads.items y.threads.items m t b at in
          same_thread o.0 t o.2 (z.threads m) (is.each m o.0 o.1));
      others = is.others;
    }

-- What is the same settled state stands for the same.
pub stands_alike : {X T E V A G H M : Type 0} (k : ThreadSystem X T E V A G H M) (x y : RestingState G H)
    → ((z : State X T) → IsFlat k x z → IsFlat k y z) → (w : State X T) (turns : ℕ → ℕ)
    → StandsForState k x w turns → StandsForState k y w turns
stands_alike k x y same w turns st =
    record { reached = st.reached; settled = st.settled; rest = st.rest; settled_is = same st.settled st.settled_is }
