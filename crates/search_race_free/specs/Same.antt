-- Equal states with what is owned stand for the same.
use Rattle.std.specs.Prelude.{ℕ, ◌≡◌, ◌&&◌, Bool, true, List, [], ◌∷◌, Contains, refl}
use Rattle.std.proofs.Common.{ap, sym, ◌∙◌, subst, inl, inr, true≢false}
use Rattle.std.proofs.lemmas.Bool.{eqb-true}
use Rattle.std.specs.Cmp.{first_so, second_so, booleans_Decides, IsEquivalence}
use Rattle.std.specs.Cmp.Lexicographic.{pointwise}
use Rattle.schedule.specs.System.{State}
use Rattle.search_settled.specs.declared.access.NextAccess.{NextAccess}
use Rattle.search_settled.specs.declared.flat.RestingState.{RestingState}
use Rattle.search_settled.specs.contracts.access.NextAccessPartialEq.TheImpl as accesses
use Rattle.search_settled.specs.Threads.{ThreadSystem, IsFlat}
use Rattle.search_settled.specs.Same.{flat_eq, flat_eq_back, flat_alike}
use Rattle.search_race_free.specs.declared.owning.Owning.{Owning}
use Rattle.search_race_free.specs.declared.owning.Touch.{Touch}
use Rattle.search_race_free.specs.contracts.owning.TouchPartialEq.TheImpl as touches
use Rattle.search_race_free.specs.Owned.{IsSafe}
use Rattle.search_race_free.specs.Reduced.{Rest, IsResting, HasTouched, IsMissed, WasMade, IsKept, StandsBefore}

-- The same settled state, and the same touches.
abbrev pub owning_eq : {G H : Type 0} → (G → G → Bool) → (H → H → Bool) → Owning (RestingState G H)
    → Owning (RestingState G H) → Bool
owning_eq eq_shared eq_thread x y =
    flat_eq eq_shared eq_thread x.flat y.flat && pointwise touches.eq-value.it x.owned.items y.owned.items

same_access : (x y : NextAccess) → accesses.eq-value.it x y ≡ true → x ≡ y
same_access x y e =
    let b = second_so _ _ e in
    let c = second_so _ _ b in
    let d = second_so _ _ c in
    let f = second_so _ _ d in
    let g = second_so _ _ f in
    let plain = (booleans_Decides x.plain y.plain).0 (first_so _ _ e) in
    let reads = (booleans_Decides x.reads y.reads).0 (first_so _ _ b) in
    let writes = (booleans_Decides x.writes y.writes).0 (first_so _ _ c) in
    let is_conditional = (booleans_Decides x.is_conditional y.is_conditional).0 (first_so _ _ d) in
    let h = second_so _ _ g in
    let is_timed = (booleans_Decides x.is_timed y.is_timed).0 (first_so _ _ f) in
    let is_allowed = (booleans_Decides x.is_allowed y.is_allowed).0 (first_so _ _ g) in
    let addr = eqb-true x.addr y.addr (first_so _ _ h) in
    let width = eqb-true x.width y.width (second_so _ _ h) in
    λ i. record {
      plain = plain i;
      reads = reads i;
      writes = writes i;
      is_conditional = is_conditional i;
      is_timed = is_timed i;
      is_allowed = is_allowed i;
      addr = addr i;
      width = width i;
    }

same_touch : (x y : Touch) → touches.eq-value.it x y ≡ true → x ≡ y
same_touch x y e =
    let thread = eqb-true x.thread y.thread (first_so _ _ e) in
    let access = same_access x.access y.access (second_so _ _ e) in
    λ i. record { thread = thread i; access = access i }

pub same_touches : (xs ys : List Touch) → pointwise touches.eq-value.it xs ys ≡ true → xs ≡ ys
same_touches [] [] e = refl
same_touches [] (y ∷ ys) e = absurd (true≢false (sym e))
same_touches (x ∷ xs) [] e = absurd (true≢false (sym e))
same_touches (x ∷ xs) (y ∷ ys) e = λ i. same_touch x y (first_so _ _ e) i ∷ same_touches xs ys (second_so _ _ e) i

-- the other way round
pub owning_eq_back : {G H : Type 0} (eq_shared : G → G → Bool) (eq_thread : H → H → Bool) → IsEquivalence eq_shared → IsEquivalence eq_thread
    → (x y : Owning (RestingState G H)) → owning_eq eq_shared eq_thread x y ≡ true
    → owning_eq eq_shared eq_thread y x ≡ true
owning_eq_back eq_shared eq_thread shared thread x y e =
    let xs = x.owned.items in
    let ys = y.owned.items in
    let a = flat_eq_back eq_shared eq_thread shared thread x.flat y.flat
    (first_so (flat_eq eq_shared eq_thread x.flat y.flat) (pointwise touches.eq-value.it xs ys) e) in
    let b = second_so (flat_eq eq_shared eq_thread x.flat y.flat) (pointwise touches.eq-value.it xs ys) e in
    let same = same_touches xs ys b in
    ap (λ t. t && pointwise touches.eq-value.it ys xs) a
    ∙ subst (λ l. pointwise touches.eq-value.it l xs ≡ true) same (subst (λ l. pointwise touches.eq-value.it xs l ≡ true) (sym same) b)

module _ {X T E V A G H M : Type 0} (k : ThreadSystem X T E V A G H M) (x y : Owning (RestingState G H))
    (there : (z : State X T) → IsFlat k x.flat z → IsFlat k y.flat z)
    (back : (z : State X T) → IsFlat k y.flat z → IsFlat k x.flat z) (same : x.owned.items ≡ y.owned.items) where
  rests-back : (z : State X T) → IsResting k y.flat z → IsResting k x.flat z
  rests-back z at = record { reached = at.reached; rests = at.rests; settled_is = back z at.settled_is }

  touched-there : (t : Touch) (byte : ℕ) → HasTouched k x.flat t byte → HasTouched k y.flat t byte
  touched-there t byte h =
      let is = h.is in
      record {
        state = h.state;
        is = record { reached = is.reached; rests = is.rests; settled_is = there h.state is.settled_is };
        access = h.access;
        made = h.made;
        has = h.has;
        writes = h.writes;
      }

  missed-there : (t : Touch) → IsMissed k x.flat t → IsMissed k y.flat t
  missed-there t h =
      let is = h.is in
      record {
        state = h.state;
        is = record { reached = is.reached; rests = is.rests; settled_is = there h.state is.settled_is };
        was = h.was;
      }

  pub made-there : (t : Touch) → WasMade k x.flat t → WasMade k y.flat t
  made-there t (inl h) = inl (λ byte has. touched-there t byte (h byte has))
  made-there t (inr h) = inr (missed-there t h)

  kept-there : IsKept k x → IsKept k y
  kept-there kept = record {
    safe = λ z at. subst (λ l. IsSafe k.system k.accesses l z) same (kept.safe z (rests-back z at));
    made = λ t among. made-there t (kept.made t (subst (λ l. Contains l t) (sym same) among));
  }

  pub stands-there : (w : State X T) (turns : ℕ → ℕ) → StandsBefore k x w turns → StandsBefore k y w turns
  stands-there w turns st = record {
    kept = kept-there st.kept;
    reached = st.reached;
    order = st.order;
    settled = st.settled;
    makes = subst (λ l. Rest k l st.order w st.settled) same st.makes;
    rests = st.rests;
    settled_is = there st.settled st.settled_is;
    turns_are = st.turns_are;
  }

pub owning_alike : {X T E V A G H M : Type 0} (eq_shared : G → G → Bool) (eq_thread : H → H → Bool) → IsEquivalence eq_shared → IsEquivalence eq_thread
    → (k : ThreadSystem X T E V A G H M)
    → ((x y : G) → eq_shared x y ≡ true → (w : X) → k.shares x w → k.shares y w)
    → ((x y : H) → eq_thread x y ≡ true → (w : T) → k.is_thread x w → k.is_thread y w)
    → (x y : Owning (RestingState G H)) → owning_eq eq_shared eq_thread x y ≡ true
    → (w : State X T) (turns : ℕ → ℕ) → StandsBefore k x w turns → StandsBefore k y w turns
owning_alike eq_shared eq_thread shared thread k same_shared same_thread x y e =
    let flat = first_so (flat_eq eq_shared eq_thread x.flat y.flat) (pointwise touches.eq-value.it x.owned.items y.owned.items) e in
    let owned = second_so (flat_eq eq_shared eq_thread x.flat y.flat) (pointwise touches.eq-value.it x.owned.items y.owned.items) e in
    stands-there k x y
    (flat_alike eq_shared eq_thread k same_shared same_thread x.flat y.flat flat)
    (flat_alike eq_shared eq_thread k same_shared same_thread y.flat x.flat (flat_eq_back eq_shared eq_thread shared thread x.flat y.flat flat))
    (same_touches x.owned.items y.owned.items owned)
