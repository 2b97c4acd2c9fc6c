-- Lists: what they contain, and what stands where.
use Rattle.std.proofs.Common.{◌≡◌, ◌∙◌, ◌⊎◌, ◌<◌, ◌≤◌, ◌+◌, ◌-◌, ◌++◌, ℕ, zero, suc, List, [], ◌∷◌, Bool, true, length, Option, Some, None}
use Rattle.std.proofs.Common.{get_or, map, filter, take, inl, inr, refl, sym, ap, subst, arith}
use Rattle.std.specs.List.{AllPairs, Contains, fold}
use Rattle.std.specs.Option.{option_to_list}
use Rattle.std.proofs.lemmas.Bool.{cases_Bool, cases_lt, cond-true, cond-false, cond_both}
use Rattle.std.proofs.lemmas.List.{get_or-append_right, get_or-map, get_or-take, get_or_append_left, get_or_default}
use Rattle.std.proofs.lemmas.List.{get_or_past, get_or_push, length-append, length-map, length-take-le, length_push, take_more}
use Rattle.std.proofs.lemmas.List.Elements.{Contains-append_cases, Contains-append_left, Contains-append_right, Contains-push}
use Rattle.std.proofs.lemmas.List.Elements.{Contains-push_cases}
use Rattle.std.proofs.lemmas.Option.{none-some, same_Some}
use Rattle.race_history.specs.Places.{IsAt}

module _ {X : Type 0} where
  pub IsAt-same : (xs : List X) (k : ℕ) (x y : X) → IsAt xs k x → IsAt xs k y → x ≡ y
  IsAt-same xs k x y h i = sym h.is ∙ (get_or_default xs k x y h.within ∙ i.is)

  pub IsAt-get : (xs : List X) (k : ℕ) (d : X) → k < length xs → IsAt xs k (get_or xs k d)
  IsAt-get xs k d lt = record { within = lt; is = get_or_default xs k (get_or xs k d) d lt }

  pub IsAt-any : (xs : List X) (k : ℕ) (x d : X) → IsAt xs k x → get_or xs k d ≡ x
  IsAt-any xs k x d h = get_or_default xs k d x h.within ∙ h.is

  pub IsAt-left : (xs : List X) (y : X) (k : ℕ) (x : X) → IsAt xs k x → IsAt (xs ++ y ∷ []) k x
  IsAt-left xs y k x h =
      let long = length_push xs y in
      let lt = h.within in
      record { within = omega arith; is = get_or_append_left xs (y ∷ []) x k lt ∙ h.is }

  pub IsAt-last : (xs : List X) (y : X) (k : ℕ) → length xs ≡ k → IsAt (xs ++ y ∷ []) k y
  IsAt-last xs y k e =
      let long = length_push xs y in
      record { within = omega arith; is = get_or_push xs y y k e }

  pub IsAt-push_cases : (xs : List X) (y : X) (k : ℕ) (x : X) → IsAt (xs ++ y ∷ []) k x → IsAt xs k x ⊎ ((k ≡ length xs) × (y ≡ x))
  IsAt-push_cases xs y k x h =
      let long = length_push xs y in
      let lt = h.within in
      elim (cases_lt k (length xs)) [
        | inl below ↦ inl (record { within = below; is = sym (get_or_append_left xs (y ∷ []) x k below) ∙ h.is })
        | inr above ↦ let e : k ≡ length xs = omega arith in inr (e, sym (get_or_push xs y x k (sym e)) ∙ h.is)
      ]

  pub Contains-at : (xs : List X) (k : ℕ) (x : X) → IsAt xs k x → Contains xs x
  Contains-at xs k x h = (k, h.within, h.is)

  cons_cases_at : (x : X) (xs : List X) (y : X) (k : ℕ) → k < length (x ∷ xs) → get_or (x ∷ xs) k y ≡ y → (x ≡ y) ⊎ Contains xs y
  cons_cases_at x xs y zero lt e = inl e
  cons_cases_at x xs y (suc k) lt e = let within : k < length xs = omega arith in inr (k, within, e)

  pub Contains-cons_cases : (x : X) (xs : List X) (y : X) → Contains (x ∷ xs) y → (x ≡ y) ⊎ Contains xs y
  Contains-cons_cases x xs y h = cons_cases_at x xs y h.0 h.1 h.2

  pub Contains-here : (x : X) (xs : List X) → Contains (x ∷ xs) x
  Contains-here x xs = let lt : 0 < length (x ∷ xs) = omega arith in (0, lt, refl)

  pub Contains-there : (x : X) (xs : List X) (y : X) → Contains xs y → Contains (x ∷ xs) y
  Contains-there x xs y h = let lt = h.1 in let more : suc h.0 < length (x ∷ xs) = omega arith in (suc h.0, more, h.2)

  pub Contains-none : (x : X) → Contains [] x → ⊥
  Contains-none x h = let lt : h.0 < 0 = h.1 in omega arith

  pub Contains-filter : (p : X → Bool) (xs : List X) (y : X) → Contains (filter p xs) y → Contains xs y × (p y ≡ true)
  Contains-filter p [] y h = absurd (Contains-none y h)
  Contains-filter p (x ∷ xs) y h =
      elim (cases_Bool (p x)) [
        | inl is ↦
            let kept = subst (λ (ys : List X). Contains ys y) (cond-true (p x) (x ∷ filter p xs) (filter p xs) is) h in
            elim (Contains-cons_cases x (filter p xs) y kept) [
              | inl e ↦ (subst (λ (z : X). Contains (x ∷ xs) z) e (Contains-here x xs), subst (λ (z : X). p z ≡ true) e is)
              | inr r ↦ let q = Contains-filter p xs y r in (Contains-there x xs y q.0, q.1)
            ]
        | inr isnt ↦
            let kept = subst (λ (ys : List X). Contains ys y) (cond-false (p x) (x ∷ filter p xs) (filter p xs) isnt) h in
            let q = Contains-filter p xs y kept in (Contains-there x xs y q.0, q.1)
      ]

  pub filter-Contains : (p : X → Bool) (xs : List X) (y : X) → Contains xs y → p y ≡ true → Contains (filter p xs) y
  filter-Contains p [] y h passes = absurd (Contains-none y h)
  filter-Contains p (x ∷ xs) y h passes =
      elim (Contains-cons_cases x xs y h) [
        | inl e ↦
            let here : p x ≡ true = subst (λ (z : X). p z ≡ true) (sym e) passes in
            subst (λ (ys : List X). Contains ys y) (sym (cond-true (p x) (x ∷ filter p xs) (filter p xs) here))
            (subst (λ (z : X). Contains (x ∷ filter p xs) z) e (Contains-here x (filter p xs)))
        | inr r ↦
            let q = filter-Contains p xs y r passes in
            cond_both (p x) (x ∷ filter p xs) (filter p xs) (λ (ys : List X). Contains ys y)
            (λ is. Contains-there x (filter p xs) y q) (λ isnt. q)
      ]

  -- pairs of places in a list
  module _ (R : X → X → Type 0) where
    pub all_pairs_none : AllPairs R []
    all_pairs_none i j d lt within = absurd (omega arith)

    pub all_pairs_take : (n : ℕ) (xs : List X) → n ≤ length xs → AllPairs R xs → AllPairs R (take n xs)
    all_pairs_take n xs le h i j d lt within =
        let long : length (take n xs) ≡ n = length-take-le n xs le in
        let jn : j < n = omega arith in
        let in_n : i < n = omega arith in
        subst (λ (x : X). R x (get_or (take n xs) j d)) (sym (get_or-take n xs i d in_n))
        (subst (λ (y : X). R (get_or xs i d) y) (sym (get_or-take n xs j d jn)) (h i j d lt (omega arith)))

    pub all_pairs_append : (xs ys : List X) → AllPairs R xs → AllPairs R ys → ((x y : X) → Contains xs x → Contains ys y → R x y)
        → AllPairs R (xs ++ ys)
    all_pairs_append xs ys left right across i j d lt within =
        let long : length (xs ++ ys) ≡ length xs + length ys = length-append xs ys in
        elim (cases_lt j (length xs)) [
          | inl jx ↦
              let ix : i < length xs = omega arith in
              subst (λ (x : X). R x (get_or (xs ++ ys) j d)) (sym (get_or_append_left xs ys d i ix))
              (subst (λ (y : X). R (get_or xs i d) y) (sym (get_or_append_left xs ys d j jx)) (left i j d lt jx))
          | inr past ↦
              let jy : j - length xs < length ys = omega arith in
              subst (λ (y : X). R (get_or (xs ++ ys) i d) y) (sym (get_or-append_right xs ys (length xs) j d refl past))
              (elim (cases_lt i (length xs)) [
                | inl ix ↦
                    subst (λ (x : X). R x (get_or ys (j - length xs) d)) (sym (get_or_append_left xs ys d i ix))
                    (across (get_or xs i d) (get_or ys (j - length xs) d) (Contains-at xs i (get_or xs i d) (IsAt-get xs i d ix))
                    (Contains-at ys (j - length xs) (get_or ys (j - length xs) d) (IsAt-get ys (j - length xs) d jy)))
                | inr past_i ↦
                    let less : i - length xs < j - length xs = omega arith in
                    subst (λ (x : X). R x (get_or ys (j - length xs) d)) (sym (get_or-append_right xs ys (length xs) i d refl past_i))
                    (right (i - length xs) (j - length xs) d less jy)
              ])
        ]

  -- a list with one more at its end
  pub grown : (P : List X → Type 0) (xs : List X) (k : ℕ) (x : X) → k < length xs → x ≡ get_or xs k x → P (take k xs ++ x ∷ []) → P (take (k + 1) xs)
  grown P xs k x lt is h = subst P (sym (take_more xs k x lt ∙ ap (λ (y : X). take k xs ++ y ∷ []) (sym is))) h

  -- an option's list
  pub some_in : (o : Option X) (x : X) → Contains (option_to_list o) x → o ≡ Some x
  some_in None x c = absurd (Contains-none x c)
  some_in (Some y) x c = elim (Contains-cons_cases y [] x c) [ inl e ↦ ap (λ (z : X). Some z) e | inr r ↦ absurd (Contains-none x r) ]

  pub in_some : (o : Option X) (x : X) → o ≡ Some x → Contains (option_to_list o) x
  in_some None x e = absurd (none-some x e)
  in_some (Some y) x e = subst (λ (z : X). Contains (y ∷ []) z) (same_Some y x e) (Contains-here y [])

  -- a list that is one longer has what it had, and the last
  pub Contains-more : (xs : List X) (k : ℕ) (d x : X) → k < length xs → Contains (take (k + 1) xs) x
      → Contains (take k xs) x ⊎ (get_or xs k d ≡ x)
  Contains-more xs k d x lt c =
      Contains-push_cases (take k xs) (get_or xs k d) x (subst (λ (l : List X). Contains l x) (take_more xs k d lt) c)

  pub more-Contains : (xs : List X) (k : ℕ) (d x : X) → k < length xs → Contains (take k xs) x ⊎ (get_or xs k d ≡ x)
      → Contains (take (k + 1) xs) x
  more-Contains xs k d x lt h =
      subst (λ (l : List X). Contains l x) (sym (take_more xs k d lt))
      (elim h [
        | inl old ↦ Contains-append_left (take k xs) (get_or xs k d ∷ []) x old
        | inr e ↦ subst (λ (z : X). Contains (take k xs ++ get_or xs k d ∷ []) z) e (Contains-push (take k xs) (get_or xs k d))
      ])

-- lists that are put one behind the other
module _ {X Y : Type 0} (f : X → List Y) where
  abbrev joining : List Y → X → List Y
  joining ys x = ys ++ f x

  pub fold_from : (xs : List X) (ys : List Y) (y : Y) → Contains (fold joining ys xs) y
      → Contains ys y ⊎ ((x : X) × (Contains xs x × Contains (f x) y))
  fold_from [] ys y c = inl c
  fold_from (x ∷ xs) ys y c = elim (fold_from xs (ys ++ f x) y c) [
    | inl before ↦ elim (Contains-append_cases ys (f x) y before) [
      | inl old ↦ inl old
      | inr new ↦ inr (x, (Contains-here x xs, new))
    ]
    | inr r ↦ inr (r.0, (Contains-there x xs r.0 r.1.0, r.1.1))
  ]

  pub fold_old : (xs : List X) (ys : List Y) (y : Y) → Contains ys y → Contains (fold joining ys xs) y
  fold_old [] ys y c = c
  fold_old (x ∷ xs) ys y c = fold_old xs (ys ++ f x) y (Contains-append_left ys (f x) y c)

  pub fold_to : (xs : List X) (ys : List Y) (x : X) (y : Y) → Contains xs x → Contains (f x) y → Contains (fold joining ys xs) y
  fold_to [] ys x y c d = absurd (Contains-none x c)
  fold_to (z ∷ xs) ys x y c d = elim (Contains-cons_cases z xs x c) [
    | inl e ↦
        fold_old xs (ys ++ f z) y (Contains-append_right ys (f z) y (subst (λ (w : X). Contains (f w) y) (sym e) d))
    | inr r ↦ fold_to xs (ys ++ f z) x y r d
  ]

-- a list of lists with one more, whose lists have what stands in a relation to their places
module _ {X : Type 0} (R : X → ℕ → Type 0) (end : ℕ) (ws : List (List X)) (l : List X) (count : length ws ≡ end) where
  pub lists_from : ((x : X) (k : ℕ) → Contains (get_or ws k []) x → R x k) → ((x : X) → Contains l x → R x end)
      → (x : X) (k : ℕ) → Contains (get_or (ws ++ l ∷ []) k []) x → R x k
  lists_from old new x k c = elim (cases_lt k end) [
    | inl before ↦
        let lt : k < length ws = omega arith in
        old x k (subst (λ (y : List X). Contains y x) (get_or_append_left ws (l ∷ []) [] k lt) c)
    | inr le ↦ elim (cases_lt end k) [
      | inl after ↦
          let long : length (ws ++ l ∷ []) ≡ length ws + 1 = length_push ws l in
          let past : length (ws ++ l ∷ []) ≤ k = omega arith in
          absurd (Contains-none x (subst (λ (y : List X). Contains y x) (get_or_past (ws ++ l ∷ []) k [] past) c))
      | inr ge ↦
          let e : k ≡ end = omega arith in
          subst (R x) (sym e) (new x (subst (λ (y : List X). Contains y x) (get_or_push ws l [] k (count ∙ sym e)) c))
    ]
  ]

  pub lists_all : ((x : X) (k : ℕ) → k < end → R x k → Contains (get_or ws k []) x) → ((x : X) → R x end → Contains l x)
      → (x : X) (k : ℕ) → k < end + 1 → R x k → Contains (get_or (ws ++ l ∷ []) k []) x
  lists_all old new x k lt r = elim (cases_lt k end) [
    | inl before ↦
        let within : k < length ws = omega arith in
        subst (λ (y : List X). Contains y x) (sym (get_or_append_left ws (l ∷ []) [] k within)) (old x k before r)
    | inr le ↦
        let e : k ≡ end = omega arith in
        subst (λ (y : List X). Contains y x) (sym (get_or_push ws l [] k (count ∙ sym e))) (new x (subst (R x) e r))
  ]

module _ {X Y : Type 0} (f : X → Y) where
  pub Contains-map : (xs : List X) (y : Y) → Contains (map f xs) y → (x : X) × (Contains xs x × (f x ≡ y))
  Contains-map [] y h = absurd (Contains-none y h)
  Contains-map (x ∷ xs) y h =
      elim (Contains-cons_cases (f x) (map f xs) y h) [
        | inl e ↦ (x, (Contains-here x xs, e))
        | inr r ↦ let q = Contains-map xs y r in (q.0, (Contains-there x xs q.0 q.1.0, q.1.1))
      ]

  pub map-Contains : (xs : List X) (x : X) → Contains xs x → Contains (map f xs) (f x)
  map-Contains [] x h = absurd (Contains-none x h)
  map-Contains (w ∷ xs) x h =
      elim (Contains-cons_cases w xs x h) [
        | inl e ↦ subst (λ (z : X). Contains (f w ∷ map f xs) (f z)) e (Contains-here (f w) (map f xs))
        | inr r ↦ Contains-there (f w) (map f xs) (f x) (map-Contains xs x r)
      ]

  pub map-at : (xs : List X) (k : ℕ) (x : X) (d : Y) → IsAt xs k x → get_or (map f xs) k d ≡ f x
  map-at xs k x d h = get_or-map f xs k x d h.within ∙ ap f h.is

  pub all_pairs_map : (S : X → X → Type 0) (R : Y → Y → Type 0) → ((x y : X) → S x y → R (f x) (f y)) → (xs : List X) → AllPairs S xs
      → AllPairs R (map f xs)
  all_pairs_map S R imp [] h i j d lt within = absurd (omega arith)
  all_pairs_map S R imp (x ∷ xs) h i j d lt within =
      let long : length (map f (x ∷ xs)) ≡ length (x ∷ xs) = length-map (x ∷ xs) f in
      let jx : j < length (x ∷ xs) = omega arith in
      let ix : i < length (x ∷ xs) = omega arith in
      subst (λ (y : Y). R y (get_or (map f (x ∷ xs)) j d)) (sym (get_or-map f (x ∷ xs) i x d ix))
      (subst (λ (y : Y). R (f (get_or (x ∷ xs) i x)) y) (sym (get_or-map f (x ∷ xs) j x d jx))
      (imp (get_or (x ∷ xs) i x) (get_or (x ∷ xs) j x) (h i j x lt jx)))
