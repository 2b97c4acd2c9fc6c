-- What each thread does next, of one thread after the other.
use Rattle.std.proofs.Common.{◌≡◌, inl, inr, ℕ, zero, suc, ◌+◌, ◌<◌, ◌≤◌, List, [], ◌∷◌, ◌++◌, length, Option, Some}
use Rattle.std.proofs.Common.{None, refl, sym, ◌∙◌, ap, subst, arith, length-append}
use Rattle.std.specs.List.{slice_get}
use Rattle.std.proofs.lemmas.Bool.{cases_lt}
use Rattle.schedule.specs.System.{Want.Gone, State}
use Rattle.search_settled.specs.declared.access.NextAccess.{NextAccess}
use Rattle.search_settled.specs.declared.flat.RestingState.{RestingState}
use Rattle.search_settled.specs.Threads.{ThreadSystem}
use Rattle.search_settled.specs.Flat.{IsThreadOf}
use Rattle.search_settled.specs.Next.{IsSomewhere}
use Rattle.search_race_free.specs.Wanted.{access_by}
use Rattle.search_race_free.specs.Touches.{access_at}
use Rattle.search_race_free.specs.Reduced.{wanted_in, IsResting, RestsSomewhere}
use Rattle.search_race_free.specs.Search.{IsAccessOf, AreWanted}
use Rattle.search_race_free.proofs.Touching.{access-past, below_one_more}

push-below : (xs : List (Option NextAccess)) (x : Option NextAccess) (t : ℕ) → t < length xs → access_at (xs ++ x ∷ []) t ≡ access_at xs t
push-below [] x t h = absurd (omega (arith, h))
push-below (y ∷ xs) x zero h = refl
push-below (y ∷ xs) x (suc t) h = push-below xs x t (omega (arith, h))

push-at : (xs : List (Option NextAccess)) (x : Option NextAccess) → access_at (xs ++ x ∷ []) (length xs) ≡ x
push-at [] x = refl
push-at (y ∷ xs) x = push-at xs x

module _ {X T E V A G H M : Type 0} (k : ThreadSystem X T E V A G H M) where
  pub is-somewhere : (c : RestingState G H) → RestsSomewhere k c → IsSomewhere k c
  is-somewhere c at = (at.0, record { reached = at.1.reached; settled_is = at.1.settled_is })

  pub thread-at : (c : RestingState G H) (z : State X T) → IsResting k c z → (n : ℕ) (t : H) → slice_get c.threads.items n ≡ Some t →
      IsThreadOf k c.shared t n z
  thread-at c z at n t h = let is = at.settled_is in (at.reached, is.shared, is.each n t h)

  pub gone-next : (z : State X T) (n : ℕ) → k.system.wants (z.threads n) ≡ Gone → wanted_in k z n ≡ None
  gone-next z n gone = ap (access_by k.system k.accesses z.shared (z.threads n)) gone

  pub past-next : (c : RestingState G H) (z : State X T) → IsResting k c z → (n : ℕ) → length c.threads.items ≤ n → wanted_in k z n ≡ None
  past-next c z at n past =
      let is = at.settled_is in
      let len = is.len in
      gone-next z n (is.others n (omega (arith, past, len)))

  -- so far
  pub record WantedSoFar (c : RestingState G H) (n : ℕ) (xs : List (Option NextAccess)) : Type 0 where
    pub len : length xs ≡ n
    pub each : (z : State X T) → IsResting k c z → (t : ℕ) → t < n → access_at xs t ≡ wanted_in k z t

  pub wanted-none : (c : RestingState G H) → WantedSoFar c 0 []
  wanted-none c = record { len = refl; each = λ z at t low. absurd (omega (arith, low)) }

  pub wanted-more : (c : RestingState G H) (n : ℕ) (xs : List (Option NextAccess)) (t : H) (o : Option NextAccess) → WantedSoFar c n xs →
      slice_get c.threads.items n ≡ Some t
      → IsAccessOf k c.shared t n o → WantedSoFar c (n + 1) (xs ++ o ∷ [])
  wanted-more c n xs t o so at of = record {
    len = length-append xs (o ∷ []) ∙ ap (λ m. m + 1) so.len;
    each = λ z rests. below_one_more (λ m. access_at (xs ++ o ∷ []) m ≡ wanted_in k z m) n
        (λ m low. (let len = so.len in push-below xs o m (omega (arith, low, len)) ∙ so.each z rests m low))
        (subst (λ m. access_at (xs ++ o ∷ []) m ≡ o) so.len (push-at xs o) ∙ of z (thread-at c z rests n t at));
  }

  pub wanted-all : (c : RestingState G H) (n : ℕ) (xs : List (Option NextAccess)) → WantedSoFar c n xs → length c.threads.items ≤ n → AreWanted k c xs
  wanted-all c n xs so past z at t = elim (cases_lt t n) [
    | inl low ↦ so.each z at t low
    | inr high ↦ (let len = so.len in access-past xs t (omega (arith, high, len)) ∙ sym (past-next c z at t (omega (arith, past, high))))
  ]
