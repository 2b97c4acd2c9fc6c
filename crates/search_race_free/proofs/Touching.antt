-- Touches, and lists of what threads do next.
use Rattle.std.specs.Prelude.{◌≡◌, ◌≢◌, ◌⊎◌, ◌↔◌, ◌+◌, ◌<◌, ◌≤◌, ℕ, zero, suc, Option, Some, None, List, [], ◌∷◌, ◌++◌, length, take, Contains, refl, get_or}
use Rattle.std.specs.List.{insert}
use Rattle.std.proofs.Common.{subst, sym, ◌∙◌, inl, inr, arith}
use Rattle.std.proofs.lemmas.Bool.{cases_lt}
use Rattle.std.proofs.lemmas.Option.{none-some}
use Rattle.std.proofs.lemmas.List.{take_more}
use Rattle.std.proofs.lemmas.List.Elements.{Contains-append_left, Contains-append_right, Contains-append_cases, Contains-push, Contains-push_cases}
use Rattle.std.proofs.lemmas.List.Sorted.{IsPermutation-insert, Contains-permutation, IsPermutation-sym}
use Rattle.schedule.proofs.Basics.{same_or_not}
use Rattle.search_settled.specs.declared.access.NextAccess.{NextAccess}
use Rattle.search_race_free.specs.declared.owning.Touch.{Touch}
use Rattle.search_race_free.specs.Touches.{access_at, AreOfOthers}

-- What holds of all but the next one, and of it.
pub one_more : {X : Type 0} (P : X → Type 0) (xs : List X) (i : ℕ) (d : X) → i < length xs → ((x : X) → Contains (take i xs) x → P x) → P (get_or xs i d)
    → (x : X) → Contains (take (i + 1) xs) x → P x
one_more P xs i d h all next x c = by (Contains-push_cases (take i xs) (get_or xs i d) x (subst (λ l. Contains l x) (take_more xs i d h) c))
  where
    by : Contains (take i xs) x ⊎ (get_or xs i d ≡ x) → P x
    by (inl k) = all x k
    by (inr e) = subst P e next

pub below_one_more : (P : ℕ → Type 0) (n : ℕ) → ((t : ℕ) → t < n → P t) → P n → (t : ℕ) → t < n + 1 → P t
below_one_more P n all next t h = by (same_or_not t n)
  where
    by : (t ≡ n) ⊎ (t ≢ n) → P t
    by (inl e) = subst P (sym e) next
    by (inr d) = all t (omega (arith, d, h))

pub Contains-inserted : {X : Type 0} (xs : List X) (i : ℕ) (y x : X) → Contains (insert xs i y) x ↔ (Contains xs x ⊎ (x ≡ y))
Contains-inserted xs i y x = (there, back)
  where
    first : Contains (y ∷ []) x ⊎ Contains xs x → Contains xs x ⊎ (x ≡ y)
    first (inr c) = inl c
    first (inl c) = by (Contains-push_cases [] y x c)
      where
        by : Contains [] x ⊎ (y ≡ x) → Contains xs x ⊎ (x ≡ y)
        by (inl d) = absurd (omega (arith, d.1))
        by (inr e) = inr (sym e)

    there : Contains (insert xs i y) x → Contains xs x ⊎ (x ≡ y)
    there c = first (Contains-append_cases (y ∷ []) xs x
        (Contains-permutation (insert xs i y) (y ∷ xs) x (IsPermutation-sym (y ∷ xs) (insert xs i y) (IsPermutation-insert xs i y)) c))

    back : Contains xs x ⊎ (x ≡ y) → Contains (insert xs i y) x
    back (inl c) = Contains-permutation (y ∷ xs) (insert xs i y) x (IsPermutation-insert xs i y) (Contains-append_right (y ∷ []) xs x c)
    back (inr e) = Contains-permutation (y ∷ xs) (insert xs i y) x (IsPermutation-insert xs i y)
        (subst (λ z. Contains (y ∷ xs) z) (sym e) (0, omega arith, refl))

pub access-here : (xs : List (Option NextAccess)) (i : ℕ) (d : Option NextAccess) → i < length xs → access_at xs i ≡ get_or xs i d
access-here [] i d h = absurd (omega (arith, h))
access-here (x ∷ xs) zero d h = refl
access-here (x ∷ xs) (suc i) d h = access-here xs i d (omega (arith, h))

pub access-past : (xs : List (Option NextAccess)) (i : ℕ) → length xs ≤ i → access_at xs i ≡ None
access-past [] i h = refl
access-past (x ∷ xs) zero h = absurd (omega (arith, h))
access-past (x ∷ xs) (suc i) h = access-past xs i (omega (arith, h))

-- Of all places: those below the length, and none beyond.
pub at_all : (P : ℕ → NextAccess → Type 0) (xs : List (Option NextAccess)) (n : ℕ) → length xs ≤ n
    → ((t : ℕ) → t < n → (a : NextAccess) → access_at xs t ≡ Some a → P t a) → (t : ℕ) (a : NextAccess) → access_at xs t ≡ Some a → P t a
at_all P xs n long all t a h = by (cases_lt t (length xs))
  where
    by : (t < length xs) ⊎ (length xs ≤ t) → P t a
    by (inl low) = all t (omega (arith, low, long)) a h
    by (inr past) = absurd (none-some a (sym (access-past xs t past) ∙ h))

-- Those of others, of one more.
pub others-none : (t : ℕ) → AreOfOthers [] t []
others-none t x = (λ c. (c, absurd (omega (arith, c.1))), λ c. c.0)

pub others-more : (t : ℕ) (ts us vs : List Touch) (i : ℕ) (d : Touch) → i < length ts → AreOfOthers (take i ts) t us
    → ((x : Touch) → Contains vs x ↔ (Contains us x ⊎ (get_or ts i d ≡ x) × (x.thread ≢ t))) → AreOfOthers (take (i + 1) ts) t vs
others-more t ts us vs i d h before new x = (
  λ c. there ((new x).0 c),
  λ c. back c.1 (Contains-push_cases (take i ts) (get_or ts i d) x (subst (λ l. Contains l x) (take_more ts i d h) c.0)),
)
  where
    there : Contains us x ⊎ (get_or ts i d ≡ x) × (x.thread ≢ t) → Contains (take (i + 1) ts) x × (x.thread ≢ t)
    there (inl c) =
        let k = (before x).0 c in
        (subst (λ l. Contains l x) (sym (take_more ts i d h)) (Contains-append_left (take i ts) (get_or ts i d ∷ []) x k.0), k.1)
    there (inr c) = (
      subst (λ l. Contains l x) (sym (take_more ts i d h)) (subst (λ y. Contains (take i ts ++ get_or ts i d ∷ []) y) c.0
          (Contains-push (take i ts) (get_or ts i d))),
      c.1,
    )

    back : (x.thread ≢ t) → Contains (take i ts) x ⊎ (get_or ts i d ≡ x) → Contains vs x
    back p (inl c) = (new x).1 (inl ((before x).1 (c, p)))
    back p (inr q) = (new x).1 (inr (q, p))

-- It is pushed, or goes.
pub pushed-new : (t : ℕ) (us vs : List Touch) (y : Touch) → vs ≡ us ++ y ∷ [] → (y.thread ≢ t)
    → (x : Touch) → Contains vs x ↔ (Contains us x ⊎ (y ≡ x) × (x.thread ≢ t))
pushed-new t us vs y is p x = (λ c. there (Contains-push_cases us y x (subst (λ l. Contains l x) is c)), λ c. subst (λ l. Contains l x) (sym is) (back c))
  where
    there : Contains us x ⊎ (y ≡ x) → Contains us x ⊎ (y ≡ x) × (x.thread ≢ t)
    there (inl c) = inl c
    there (inr q) = inr (q, subst (λ (z : Touch). z.thread ≢ t) q p)

    back : Contains us x ⊎ (y ≡ x) × (x.thread ≢ t) → Contains (us ++ y ∷ []) x
    back (inl c) = Contains-append_left us (y ∷ []) x c
    back (inr c) = subst (λ z. Contains (us ++ y ∷ []) z) c.0 (Contains-push us y)

pub gone-new : (t : ℕ) (us : List Touch) (y : Touch) → (y.thread ≡ t) → (x : Touch) → Contains us x ↔ (Contains us x ⊎ (y ≡ x) × (x.thread ≢ t))
gone-new t us y p x = (λ c. inl c, back)
  where
    back : Contains us x ⊎ (y ≡ x) × (x.thread ≢ t) → Contains us x
    back (inl c) = c
    back (inr c) = absurd (c.1 (subst (λ (z : Touch). z.thread ≡ t) c.0 p))

pub no_other : (t u : ℕ) → (t ≢ u → ⊥) → t ≡ u
no_other t u h = by (same_or_not t u)
  where
    by : (t ≡ u) ⊎ (t ≢ u) → t ≡ u
    by (inl e) = e
    by (inr d) = absurd (h d)
