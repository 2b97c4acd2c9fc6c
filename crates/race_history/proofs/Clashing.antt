-- The places with which an entry clashes, in order.
use Rattle.std.proofs.Common.{◌≡◌, ◌∙◌, ◌⊎◌, ◌<◌, ◌≤◌, ◌+◌, ◌-◌, ◌++◌, ℕ, List, [], ◌∷◌, true, false, length, get_or}
use Rattle.std.proofs.Common.{take, drop, inl, inr, refl, sym, ap, subst, arith}
use Rattle.std.specs.List.{Contains, insert}
use Rattle.std.proofs.lemmas.Bool.{both_ways, cases_eq, cases_lt}
use Rattle.std.proofs.lemmas.List.{get_or_default, take-append-drop}
use Rattle.std.proofs.lemmas.List.Edits.{get_or-insert_above, get_or-insert_at, get_or-insert_below, length-insert}
use Rattle.std.proofs.lemmas.List.Elements.{Contains-append_cases, Contains-append_left, Contains-append_right}
use Rattle.race_history.specs.declared.access.ThreadAccess.{ThreadAccess}
use Rattle.race_history.specs.declared.lasts.Last.{Last}
use Rattle.race_history.specs.Lasts.{list_for}
use Rattle.race_history.specs.Found.{AreAscending, HaveMore, IsClash, IsClashOf, clashes}
use Rattle.race_history.proofs.Lists.{Contains-cons_cases, Contains-here, Contains-more, Contains-none, Contains-there, more-Contains}

-- a number is put where it belongs
module _ (xs : List ℕ) (i y : ℕ) (within : i ≤ length xs) where
  insert_from : (p : ℕ) → Contains (insert xs i y) p → Contains xs p ⊎ (p ≡ y)
  insert_from p c =
      let whole : take i xs ++ drop i xs ≡ xs = take-append-drop i xs in
      elim (Contains-append_cases (take i xs) (y ∷ drop i xs) p c) [
        | inl front ↦ inl (subst (λ (l : List ℕ). Contains l p) whole (Contains-append_left (take i xs) (drop i xs) p front))
        | inr more ↦ elim (Contains-cons_cases y (drop i xs) p more) [
          | inl e ↦ inr (sym e)
          | inr back ↦ inl (subst (λ (l : List ℕ). Contains l p) whole (Contains-append_right (take i xs) (drop i xs) p back))
        ]
      ]

  insert_old : (p : ℕ) → Contains xs p → Contains (insert xs i y) p
  insert_old p c =
      elim (Contains-append_cases (take i xs) (drop i xs) p (subst (λ (l : List ℕ). Contains l p) (sym (take-append-drop i xs)) c)) [
        | inl front ↦ Contains-append_left (take i xs) (y ∷ drop i xs) p front
        | inr back ↦ Contains-append_right (take i xs) (y ∷ drop i xs) p (Contains-there y (drop i xs) p back)
      ]

  insert_new : Contains (insert xs i y) y
  insert_new = Contains-append_right (take i xs) (y ∷ drop i xs) y (Contains-here y (drop i xs))

  module _ (h : AreAscending xs) (below : (k : ℕ) → k < i → get_or xs k 0 < y) (above : (k : ℕ) → i ≤ k → k < length xs → y < get_or xs k 0) where
    less : (p q d : ℕ) → p < q → q < length (insert xs i y) → get_or (insert xs i y) p d < get_or (insert xs i y) q d
    less p q d lt end =
        let long : length (insert xs i y) ≡ length xs + 1 = length-insert xs i y within in
        elim (cases_lt q i) [
          | inl q_before ↦
              let p_before : p < i = omega arith in
              let pe = get_or-insert_below xs i y d p p_before within in
              let qe = get_or-insert_below xs i y d q q_before within in
              let is : get_or xs p d < get_or xs q d = h p q d lt (omega arith) in
              omega arith
          | inr q_past ↦ elim (cases_eq q i) [
            | inl q_at ↦
                let p_before : p < i = omega arith in
                let p_within : p < length xs = omega arith in
                let pe = get_or-insert_below xs i y d p p_before within in
                let pd : get_or xs p d ≡ get_or xs p 0 = get_or_default xs p d 0 p_within in
                let qe : get_or (insert xs i y) q d ≡ y = ap (λ (k : ℕ). get_or (insert xs i y) k d) q_at ∙ get_or-insert_at xs i y d within in
                let is : get_or xs p 0 < y = below p p_before in
                omega arith
            | inr q_other ↦
                let k : ℕ = q - 1 in
                let q_is : q ≡ k + 1 = omega arith in
                let k_past : i ≤ k = omega arith in
                let k_within : k < length xs = omega arith in
                let qe : get_or (insert xs i y) q d ≡ get_or xs k d =
                ap (λ (n : ℕ). get_or (insert xs i y) n d) q_is ∙ get_or-insert_above xs i y d k k_past within in
                elim (cases_lt p i) [
                  | inl p_before ↦
                      let pe = get_or-insert_below xs i y d p p_before within in
                      let is : get_or xs p d < get_or xs k d = h p k d (omega arith) k_within in
                      omega arith
                  | inr p_past ↦ elim (cases_eq p i) [
                    | inl p_at ↦
                        let pe : get_or (insert xs i y) p d ≡ y =
                        ap (λ (n : ℕ). get_or (insert xs i y) n d) p_at ∙ get_or-insert_at xs i y d within in
                        let kd : get_or xs k d ≡ get_or xs k 0 = get_or_default xs k d 0 k_within in
                        let is : y < get_or xs k 0 = above k k_past k_within in
                        omega arith
                    | inr p_other ↦
                        let m : ℕ = p - 1 in
                        let p_is : p ≡ m + 1 = omega arith in
                        let m_past : i ≤ m = omega arith in
                        let pe : get_or (insert xs i y) p d ≡ get_or xs m d =
                        ap (λ (n : ℕ). get_or (insert xs i y) n d) p_is ∙ get_or-insert_above xs i y d m m_past within in
                        let is : get_or xs m d < get_or xs k d = h m k d (omega arith) k_within in
                        omega arith
                  ]
                ]
          ]
        ]

    pub inserted : HaveMore xs (insert xs i y) (λ p. p ≡ y)
    inserted = record {
      in_order = less;
      from = insert_from;
      all = λ p c. elim c [
        | inl old ↦ insert_old p old
        | inr e ↦ subst (λ (k : ℕ). Contains (insert xs i y) k) (sym e) insert_new
      ];
    }

-- ascending numbers rise
pub rising : (xs : List ℕ) → AreAscending xs → (i j : ℕ) → i ≤ j → j < length xs → get_or xs i 0 ≤ get_or xs j 0
rising xs h i j le within = elim (cases_lt i j) [
  | inl lt ↦ let is : get_or xs i 0 < get_or xs j 0 = h i j 0 lt within in omega arith
  | inr ge ↦
      let e : i ≡ j = omega arith in
      let same : get_or xs i 0 ≡ get_or xs j 0 = ap (λ (k : ℕ). get_or xs k 0) e in
      omega arith
]

-- it is there
pub found_there : (xs : List ℕ) (i y : ℕ) → AreAscending xs → i < length xs → get_or xs i 0 ≡ y → HaveMore xs xs (λ p. p ≡ y)
found_there xs i y h lt is =
    let has : Contains xs y = (i, lt, get_or_default xs i y 0 lt ∙ is) in
    record {
      in_order = h;
      from = λ p c. inl c;
      all = λ p c. elim c [ inl old ↦ old | inr e ↦ subst (λ (k : ℕ). Contains xs k) (sym e) has ];
    }

-- nothing more, and more after that
pub more_none : (xs : List ℕ) (P : ℕ → Type 0) → AreAscending xs → ((p : ℕ) → P p → ⊥) → HaveMore xs xs P
more_none xs P h none = record {
  in_order = h;
  from = λ p c. inl c;
  all = λ p c. elim c [ inl old ↦ old | inr is ↦ absurd (none p is) ];
}

pub none_ascends : AreAscending []
none_ascends i j d lt within = absurd (omega arith)

pub more_same : (old new : List ℕ) (P R : ℕ → Type 0) → ((p : ℕ) → P p → R p) → ((p : ℕ) → R p → P p) → HaveMore old new P → HaveMore old new R
more_same old new P R to from h = record {
  in_order = h.in_order;
  from = λ p c. elim (h.from p c) [ inl o ↦ inl o | inr is ↦ inr (to p is) ];
  all = λ p c. elim c [ inl o ↦ h.all p (inl o) | inr is ↦ h.all p (inr (from p is)) ];
}

pub more_more : (old mid new : List ℕ) (P Q : ℕ → Type 0) → HaveMore old mid P → HaveMore mid new Q → HaveMore old new (λ p. P p ⊎ Q p)
more_more old mid new P Q h i = record {
  in_order = i.in_order;
  from = λ p c. elim (i.from p c) [
    | inr is ↦ inr (inr is)
    | inl m ↦ elim (h.from p m) [ inl o ↦ inl o | inr is ↦ inr (inl is) ]
  ];
  all = λ p c. elim c [
    | inl o ↦ i.all p (inl (h.all p (inl o)))
    | inr is ↦ elim is [ inl a ↦ i.all p (inl (h.all p (inr a))) | inr b ↦ i.all p (inr b) ]
  ];
}

-- one more of a list
module _ (a : ThreadAccess) (clock : List ℕ) (list : List Last) (i : ℕ) (d : Last) (within : i < length list) where
  abbrev next : Last
  next = get_or list i d

  clash_old : (p : ℕ) → IsClash a clock (take i list) p → IsClash a clock (take (i + 1) list) p
  clash_old p c = (c.0, (more-Contains list i d c.0 within (inl c.1.0), c.1.1))

  clash_cases : (p : ℕ) → IsClash a clock (take (i + 1) list) p → IsClash a clock (take i list) p ⊎ ((clashes a clock next ≡ true) × (next.place ≡ p))
  clash_cases p c = elim (Contains-more list i d c.0 within c.1.0) [
    | inl old ↦ inl (c.0, (old, c.1.1))
    | inr e ↦
        inr (subst (λ (x : Last). clashes a clock x ≡ true) (sym e) c.1.1.0, subst (λ (x : Last). x.place ≡ p) (sym e) c.1.1.1)
  ]

  pub clash_more : (old mid new : List ℕ) → clashes a clock next ≡ true → HaveMore old mid (IsClash a clock (take i list))
      → HaveMore mid new (λ p. p ≡ next.place) → HaveMore old new (IsClash a clock (take (i + 1) list))
  clash_more old mid new is h more =
      more_same old new (λ p. IsClash a clock (take i list) p ⊎ (p ≡ next.place)) (IsClash a clock (take (i + 1) list))
      (λ p c. elim c [
        | inl was ↦ clash_old p was
        | inr e ↦ (next, (more-Contains list i d next within (inr refl), (is, sym e)))
      ])
      (λ p c. elim (clash_cases p c) [ inl was ↦ inl was | inr is ↦ inr (sym is.1) ])
      (more_more old mid new (IsClash a clock (take i list)) (λ p. p ≡ next.place) h more)

  pub clash_skip : (old mid : List ℕ) → clashes a clock next ≡ false → HaveMore old mid (IsClash a clock (take i list))
      → HaveMore old mid (IsClash a clock (take (i + 1) list))
  clash_skip old mid isnt h =
      more_same old mid (IsClash a clock (take i list)) (IsClash a clock (take (i + 1) list)) clash_old
      (λ p c. elim (clash_cases p c) [ inl was ↦ was | inr is ↦ absurd (both_ways (clashes a clock next) isnt is.0) ]) h

pub clash_none : (a : ThreadAccess) (clock : List ℕ) (p : ℕ) → IsClash a clock [] p → ⊥
clash_none a clock p c = Contains-none c.0 c.1.0

-- one more access
pub clashes_more : (accesses : List ThreadAccess) (clock : List ℕ) (lists : List (List Last)) (i : ℕ) (d : ThreadAccess) → i < length accesses
    → (old mid new : List ℕ) → HaveMore old mid (IsClashOf (take i accesses) clock lists)
    → HaveMore mid new (IsClash (get_or accesses i d) clock (list_for lists (get_or accesses i d).addr))
    → HaveMore old new (IsClashOf (take (i + 1) accesses) clock lists)
clashes_more accesses clock lists i d within old mid new h more =
    let a : ThreadAccess = get_or accesses i d in
    more_same old new (λ p. IsClashOf (take i accesses) clock lists p ⊎ IsClash a clock (list_for lists a.addr) p)
    (IsClashOf (take (i + 1) accesses) clock lists)
    (λ p c. elim c [
      | inl was ↦ (was.0, (more-Contains accesses i d was.0 within (inl was.1.0), was.1.1))
      | inr is ↦ (a, (more-Contains accesses i d a within (inr refl), is))
    ])
    (λ p c. elim (Contains-more accesses i d c.0 within c.1.0) [
      | inl was ↦ inl (c.0, (was, c.1.1))
      | inr e ↦ inr (subst (λ (b : ThreadAccess). IsClash b clock (list_for lists b.addr) p) (sym e) c.1.1)
    ])
    (more_more old mid new (IsClashOf (take i accesses) clock lists) (IsClash a clock (list_for lists a.addr)) h more)

pub clashes_none : (clock : List ℕ) (lists : List (List Last)) (p : ℕ) → IsClashOf [] clock lists p → ⊥
clashes_none clock lists p c = Contains-none c.0 c.1.0
