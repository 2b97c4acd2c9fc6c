-- The threads after an event, one by one.
use Rattle.std.proofs.Common.{◌≡◌, ◌⊎◌, inl, inr, ℕ, zero, suc, ◌+◌, ◌<◌, ◌≤◌, List, [], ◌∷◌, ◌++◌, length, Option}
use Rattle.std.proofs.Common.{Some, None, refl, sym, ◌∙◌, ap, subst, arith, length-append, get_or}
use Rattle.std.specs.Prelude.{Result, IfOk, IfSome}
use Rattle.std.specs.List.{slice_get}
use Rattle.std.proofs.lemmas.Option.{slice_get-get_or}
use Rattle.std.proofs.lemmas.Result.{IfOk-weaker}
use Rattle.schedule.specs.System.{State}
use Rattle.schedule.specs.Scheduled.{after_event}
use Rattle.search_reach.proofs.Paths.{onward}
use Rattle.search_settled.specs.Settled.{StepsBy}
use Rattle.search_settled.proofs.Reaching.{by_event}
use Rattle.search_settled.proofs.Laws.{if-some}
use Rattle.search_settled.specs.Threads.{ThreadSystem}
use Rattle.search_settled.specs.Flat.{AreBounded, IsMadeBy, RestsAfter, AreBefore, RestsBehind, IsMove, AllComeAfter}
use Rattle.search_settled.specs.Flat.{ComesAfter, BeginsAfter, IsStuckBy, IsStuckByStart, IsStuckBehind}

pub if-some-at : {B : Type 0} (P : B → Type 0) (o : Option B) (x : B) → o ≡ Some x → IfSome o P → P x
if-some-at P None x is h = absurd (cc is)
if-some-at P (Some y) x is h = let same : y ≡ x = cc is in subst P same h

-- what holds of what there may be, where there is no error
pub if-ok-some : {B F : Type 0} (r : Result (Option B) F) (P Q : B → Type 0) → ((x : B) → P x → Q x)
    → IfOk r (λ o. IfSome o P) → IfOk r (λ o. IfSome o Q)
if-ok-some r P Q f h = IfOk-weaker r (λ o. IfSome o P) (λ o. IfSome o Q) (if-some P Q f) h

pub at-get : {B : Type 0} (xs : List B) (m : ℕ) (x : B) → m < length xs → x ≡ get_or xs m x → slice_get xs m ≡ Some x
at-get xs m x within is = slice_get-get_or xs m x within ∙ ap (λ y. Some y) (sym is)

pub at-end : {B : Type 0} (xs ys : List B) (m : ℕ) → xs ≡ ys → length xs ≤ m → length ys ≤ m
at-end xs ys m same past = subst (λ l. length l ≤ m) same past

-- what stands at a place of a list with one more
pub slice_get_push : {B : Type 0} (xs : List B) (x : B) (m : ℕ) (t : B) → slice_get (xs ++ x ∷ []) m ≡ Some t →
    (slice_get xs m ≡ Some t) ⊎ ((m ≡ length xs) × (x ≡ t))
slice_get_push [] x zero t h = inr (refl, cc h)
slice_get_push [] x (suc m) t h = absurd (cc h)
slice_get_push (y ∷ xs) x zero t h = inl h
slice_get_push (y ∷ xs) x (suc m) t h = by (slice_get_push xs x m t h)
  where
    by : (slice_get xs m ≡ Some t) ⊎ ((m ≡ length xs) × (x ≡ t)) → (slice_get xs m ≡ Some t) ⊎ ((suc m ≡ suc (length xs)) × (x ≡ t))
    by (inl h) = inl h
    by (inr h) = inr (ap suc h.0, h.1)

module _ {X T E V A G H M : Type 0} (k : ThreadSystem X T E V A G H M) where
  abbrev Move : G → M → ℕ → List H → State X T → E → Type 0
  Move after made n threads z e = IsMove k after made n threads z e

  abbrev Rests : State X T → ℕ → E → ℕ → H → Type 0
  Rests z n e m t = RestsAfter k z n e m t

  -- so far
  pub record SoFar (after : G) (made : M) (n : ℕ) (threads : List H) (m : ℕ) (rested : List H) : Type 0 where
    pub len : length rested ≡ m
    pub each : (z : State X T) (e : E) → Move after made n threads z e → (k : ℕ) (t : H) → slice_get rested k ≡ Some t → Rests z n e k t

  pub none-yet : (after : G) (made : M) (n : ℕ) (threads : List H) → SoFar after made n threads 0 []
  none-yet after made n threads = record { len = refl; each = λ z e move k t h. absurd (cc h) }

  pub one-more : (after : G) (made : M) (n : ℕ) (threads : List H) (m : ℕ) (rested : List H) (new : H) → SoFar after made n threads m rested
      → ((z : State X T) (e : E) → Move after made n threads z e → Rests z n e m new) → SoFar after made n threads (m + 1) (rested ++ new ∷ [])
  one-more after made n threads m rested new so comes = record {
    len = length-append rested (new ∷ []) ∙ ap (λ k. k + 1) so.len;
    each = λ z e move k t h. here z e move k t (slice_get_push rested new k t h);
  }
    where
      here : (z : State X T) (e : E) → Move after made n threads z e
          → (k : ℕ) (t : H) → (slice_get rested k ≡ Some t) ⊎ ((k ≡ length rested) × (new ≡ t)) → Rests z n e k t
      here z e move k t (inl h) = so.each z e move k t h
      here z e move k t (inr h) =
          let place : m ≡ k = sym (h.0 ∙ so.len) in
          subst (λ j. Rests z n e j t) place (subst (λ r. Rests z n e m r) h.1 (comes z e move))

  abbrev Before : M → ℕ → List H → State X T → E → Type 0
  Before made n threads z e = AreBefore k made n threads z e

  abbrev Behind : M → ℕ → List H → ℕ → H → Type 0
  Behind made n threads m new = RestsBehind k made n threads m new

  -- the threads before an event
  pub before-move : (after : G) (made : M) (n : ℕ) (threads : List H) (z : State X T) (e : E) → Move after made n threads z e → Before made n threads z e
  before-move after made n threads z e move = record { made_by = move.made_by; len = move.len; each = move.each }

  pub behind-move : (after : G) (made : M) (n : ℕ) (threads : List H) (m : ℕ) (new : H) → Behind made n threads m new
      → (z : State X T) (e : E) → Move after made n threads z e → Rests z n e m new
  behind-move after made n threads m new comes z e move = comes z e (before-move after made n threads z e move)

  -- a thread that was there, and one that begins
  pub came : {F : Type 0} (made : M) (n : ℕ) (threads : List H) (m : ℕ) (thread : H) → slice_get threads m ≡ Some thread
      → (r : Result (Option H) F) → IfOk r (λ o. IfSome o (ComesAfter k made n thread m))
      → IfOk r (λ o. IfSome o (Behind made n threads m))
  came made n threads m thread at r = if-ok-some r (ComesAfter k made n thread m) (Behind made n threads m)
      (λ new comes z e before. comes z e before.made_by (before.each m thread at))

  pub begun : {F : Type 0} (made : M) (n : ℕ) (threads : List H) (m : ℕ) → length threads ≤ m
      → (r : Result (Option H) F) → IfOk r (λ o. IfSome o (BeginsAfter k made n m))
      → IfOk r (λ o. IfSome o (Behind made n threads m))
  begun made n threads m past r = if-ok-some r (BeginsAfter k made n m) (Behind made n threads m)
      (λ new begins z e before. begins z e before.made_by (let len = before.len in omega (arith, len, past)))

  -- where it cannot be told
  pub came-not : {F : Type 0} (stuck : State X T → Type 0) (made : M) (n : ℕ) (threads : List H) (m : ℕ) (thread : H) → slice_get threads m ≡ Some thread
      → (r : Result (Option H) F)
      → IfOk r (λ o. o ≡ None → IsStuckBy k stuck made n thread m)
      → IfOk r (λ o. o ≡ None → IsStuckBehind k stuck made n threads)
  came-not stuck made n threads m thread at r =
      IfOk-weaker r (λ o. o ≡ None → IsStuckBy k stuck made n thread m)
      (λ o. o ≡ None → IsStuckBehind k stuck made n threads)
      (λ o gives none z e before. gives none z e before.made_by (before.each m thread at))

  pub begun-not : {F : Type 0} (stuck : State X T → Type 0) (made : M) (n : ℕ) (threads : List H) (m : ℕ) → length threads ≤ m
      → (r : Result (Option H) F)
      → IfOk r (λ o. o ≡ None → IsStuckByStart k stuck made n m)
      → IfOk r (λ o. o ≡ None → IsStuckBehind k stuck made n threads)
  begun-not stuck made n threads m past r =
      IfOk-weaker r (λ o. o ≡ None → IsStuckByStart k stuck made n m)
      (λ o. o ≡ None → IsStuckBehind k stuck made n threads)
      (λ o gives none z e before. gives none z e before.made_by (let len = before.len in omega (arith, len, past)))

  -- how many there can be after it
  pub after-few : AreBounded k.system k.first k.count k.most → (z : State X T) (n : ℕ) (e : E) → (made : M)
      → IsMadeBy k made z n e → k.count (k.system.after z.shared n e) ≤ k.most
  after-few bounded z n e made by = bounded.few (after_event k.system z n e)
      (onward (StepsBy k.system) k.first z (after_event k.system z n e) by.reached (by_event k.system z n e by.wants))

  pub all-done : (after : G) (made : M) (n : ℕ) (threads : List H) (m : ℕ) (rested : List H) (total : ℕ)
      → SoFar after made n threads m rested → ((x : X) → k.shares after x → total ≡ k.count x) → m ≡ total
      → AllComeAfter k after made n threads rested
  all-done after made n threads m rested total so is done = record {
    len = λ z e move. so.len ∙ (done ∙ is (k.system.after z.shared n e) move.shared);
    each = so.each;
  }

  pub all-come : (after : G) (made : M) (n : ℕ) (threads others rested : List H) → threads ≡ others
      → AllComeAfter k after made n threads rested
      → AllComeAfter k after made n others rested
  all-come after made n threads others rested same come = subst (λ l. AllComeAfter k after made n l rested) same come
