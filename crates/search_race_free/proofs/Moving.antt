-- Plain accesses of threads, each its thread's own, in another order.
use Rattle.std.specs.Prelude.{◌≡◌, ◌≢◌, ◌⊎◌, ◌+◌, ◌<◌, ◌==◌, cond, ℕ, suc, Option, Some, None, List, [], ◌∷◌, ◌++◌, refl}
use Rattle.std.proofs.Common.{ap, subst, sym, ◌∙◌, inl, inr, arith}
use Rattle.schedule.proofs.Basics.{same_is, other_is, same_or_not}
use Rattle.search_settled.specs.declared.access.NextAccess.{NextAccess}
use Rattle.search_settled.specs.Accesses.{IsPlain, Conflict}
use Rattle.search_race_free.specs.Orders.{times, MakesOwn, MakesPlain}

pub times-here : (t u : ℕ) (us : List ℕ) → u ≡ t → times t (u ∷ us) ≡ suc (times t us)
times-here t u us e = ap (λ b. cond b (suc (times t us)) (times t us)) (subst (λ v. (v == t) ≡ (t == t)) (sym e) refl ∙ same_is t)

pub times-other : (t u : ℕ) (us : List ℕ) → u ≢ t → times t (u ∷ us) ≡ times t us
times-other t u us d = ap (λ b. cond b (suc (times t us)) (times t us)) (other_is u t d)

pub times-append : (t : ℕ) (us vs : List ℕ) → times t (us ++ vs) ≡ times t us + times t vs
times-append t [] vs = omega arith
times-append t (u ∷ us) vs = by (times-append t us vs) (same_or_not u t)
  where
    by : times t (us ++ vs) ≡ times t us + times t vs → (u ≡ t) ⊎ (u ≢ t) → times t (u ∷ us ++ vs) ≡ times t (u ∷ us) + times t vs
    by c (inl e) =
        let a = times-here t u (us ++ vs) e in
        let b = times-here t u us e in
        omega (arith, a, b, c)
    by c (inr d) =
        let a = times-other t u (us ++ vs) d in
        let b = times-other t u us d in
        omega (arith, a, b, c)

-- Laws of plain turns, of worlds R.
pub record PlainLaws {W : Type 0} (wants : W → ℕ → Option NextAccess) (next : W → ℕ → W) (R : W → Type 0) : Type 0 where
  pub on : (w : W) (t : ℕ) (e : NextAccess) → R w → wants w t ≡ Some e → R (next w t)
  pub same : (w : W) (t u : ℕ) (e f : NextAccess) → R w → u ≢ t → wants w t ≡ Some e → IsPlain e → wants w u ≡ Some f → (Conflict f e → ⊥)
      → wants (next w t) u ≡ Some f
  pub back : (w : W) (t u : ℕ) (e f : NextAccess) → R w → u ≢ t → wants w t ≡ Some e → IsPlain e → wants (next w t) u ≡ Some f → (Conflict f e → ⊥)
      → wants w u ≡ Some f
  pub goes : (w : W) (t u : ℕ) (e f : NextAccess) → R w → u ≢ t → wants w t ≡ Some e → IsPlain e → wants w u ≡ Some f
      → (g : NextAccess) × (wants (next w t) u ≡ Some g)
  pub none : (w : W) (t u : ℕ) (e : NextAccess) → R w → u ≢ t → wants w t ≡ Some e → IsPlain e → wants w u ≡ None → wants (next w t) u ≡ None
  pub stays : (w : W) (t u : ℕ) (e : NextAccess) → R w → u ≢ t → wants w t ≡ Some e → IsPlain e → wants (next w u) t ≡ Some e
  pub swap : (w : W) (t u : ℕ) (e f : NextAccess) → R w → u ≢ t → wants w t ≡ Some e → IsPlain e → wants w u ≡ Some f → (Conflict f e → ⊥)
      → next (next w t) u ≡ next (next w u) t

-- What one thread owns doesn't conflict with what another one does.
abbrev pub AreApart : (ℕ → NextAccess → Type 0) → Type 0
AreApart own = (t u : ℕ) (e f : NextAccess) → u ≢ t → own t e → own u f → Conflict f e → ⊥

module _ {W : Type 0} (wants : W → ℕ → Option NextAccess) (next : W → ℕ → W) (R : W → Type 0) (laws : PlainLaws wants next R) where
  abbrev Own : Type 1
  Own = ℕ → NextAccess → Type 0

  pub reached-along : (own : Own) (ts : List ℕ) (w z : W) → R w → MakesPlain wants next own ts w z → R z
  reached-along own [] w z r p = subst R p r
  reached-along own (t ∷ ts) w z r p = reached-along own ts (next w t) z (laws.on w t p.0.access r p.0.wanted) p.1

  pub along-both : (own : Own) (ts us : List ℕ) (w v z : W) → MakesPlain wants next own ts w v → MakesPlain wants next own us v z
      → MakesPlain wants next own (ts ++ us) w z
  along-both own [] us w v z p q = subst (λ x. MakesPlain wants next own us x z) (sym p) q
  along-both own (t ∷ ts) us w v z p q = (p.0, along-both own ts us (next w t) v z p.1 q)

  -- After other threads' turns a thread can go on that could before.
  pub goes-along : (own : Own) (n : ℕ) (f : NextAccess) (ts : List ℕ) (w z : W) → R w → MakesPlain wants next own ts w z → times n ts ≡ 0 → wants w n ≡ Some f
      → (g : NextAccess) × (wants z n ≡ Some g)
  goes-along own n f [] w z r p none wanted = (f, ap (λ x. wants x n) (sym p) ∙ wanted)
  goes-along own n f (t ∷ ts) w z r p none wanted = elim (same_or_not t n) [
    | inl e ↦ (let h = times-here n t ts e in absurd (omega (arith, h, none)))
    | inr d ↦
        (let g = laws.goes w t n p.0.access f r (λ e. d (sym e)) p.0.wanted p.0.plain wanted in
        goes-along own n g.0 ts (next w t) z (laws.on w t p.0.access r p.0.wanted) p.1 (sym (times-other n t ts d) ∙ none) g.1)
  ]

  -- What it does then it would have done before, where that conflicts with nothing that is theirs.
  pub back-along : (own : Own) (n : ℕ) (f : NextAccess) (ts : List ℕ) (w z : W) → R w → MakesPlain wants next own ts w z → times n ts ≡ 0 → wants z n ≡ Some f
      → ((t : ℕ) (e : NextAccess) → n ≢ t → own t e → Conflict f e → ⊥) → wants w n ≡ Some f
  back-along own n f [] w z r p none wanted clear = ap (λ x. wants x n) p ∙ wanted
  back-along own n f (t ∷ ts) w z r p none wanted clear = elim (same_or_not t n) [
    | inl e ↦ (let h = times-here n t ts e in absurd (omega (arith, h, none)))
    | inr d ↦
        (let other : n ≢ t = λ e. d (sym e) in
        laws.back w t n p.0.access f r other p.0.wanted p.0.plain
        (back-along own n f ts (next w t) z (laws.on w t p.0.access r p.0.wanted) p.1 (sym (times-other n t ts d) ∙ none) wanted clear)
        (clear t p.0.access other p.0.is_own))
  ]

  -- A thread with a turn to come makes it next, whatever the others do before.
  pub wanted-along : (own : Own) → AreApart own → (n : ℕ) (ts : List ℕ) (w z : W) → R w → MakesPlain wants next own ts w z → 0 < times n ts
      → MakesOwn wants next own w n
  wanted-along own apart n [] w z r p some = absurd (omega (arith, some))
  wanted-along own apart n (t ∷ ts) w z r p some = elim (same_or_not t n) [
    | inl e ↦ subst (λ x. MakesOwn wants next own w x) e p.0
    | inr d ↦
        (let h = times-other n t ts d in
        let m = wanted-along own apart n ts (next w t) z (laws.on w t p.0.access r p.0.wanted) p.1 (omega (arith, h, some)) in
        let other : n ≢ t = λ e. d (sym e) in
        record {
          access = m.access;
          wanted = laws.back w t n p.0.access m.access r other p.0.wanted p.0.plain m.wanted (apart t n p.0.access m.access other p.0.is_own m.is_own);
          plain = m.plain;
          is_own = m.is_own;
        })
  ]

  -- The same without one turn of a thread, from after it.
  pub record Sooner (own : Own) (n : ℕ) (ts : List ℕ) (w z : W) : Type 0 where
    pub others : List ℕ
    pub makes : MakesPlain wants next own others (next w n) z
    pub once : times n ts ≡ suc (times n others)
    pub same : (u : ℕ) → u ≢ n → times u others ≡ times u ts

  with_first : (own : Own) → AreApart own → (n t : ℕ) (ts : List ℕ) (w z : W) → R w → (p : MakesPlain wants next own (t ∷ ts) w z) → t ≢ n
      → MakesOwn wants next own w n → Sooner own n ts (next w t) z → Sooner own n (t ∷ ts) w z
  with_first own apart n t ts w z r p d mine q = record {
    others = t ∷ q.others;
    makes = (
      record {
        access = p.0.access;
        wanted = laws.stays w t n p.0.access r other p.0.wanted p.0.plain;
        plain = p.0.plain;
        is_own = p.0.is_own;
      },
      subst (λ x. MakesPlain wants next own q.others x z)
          (laws.swap w t n p.0.access mine.access r other p.0.wanted p.0.plain mine.wanted (apart t n p.0.access mine.access other p.0.is_own mine.is_own))
          q.makes,
    );
    once = times-other n t ts d ∙ (q.once ∙ ap suc (sym (times-other n t q.others d)));
    same = λ u e. both u (q.same u e) (same_or_not t u);
  }
    where
      other : n ≢ t
      other e = d (sym e)

      both : (u : ℕ) → times u q.others ≡ times u ts → (t ≡ u) ⊎ (t ≢ u) → times u (t ∷ q.others) ≡ times u (t ∷ ts)
      both u e (inl a) = times-here u t q.others a ∙ (ap suc e ∙ sym (times-here u t ts a))
      both u e (inr a) = times-other u t q.others a ∙ (e ∙ sym (times-other u t ts a))

  pub sooner : (own : Own) → AreApart own → (n : ℕ) (ts : List ℕ) (w z : W) → R w → MakesPlain wants next own ts w z → 0 < times n ts
      → Sooner own n ts w z
  sooner own apart n [] w z r p some = absurd (omega (arith, some))
  sooner own apart n (t ∷ ts) w z r p some = elim (same_or_not t n) [
    | inl e ↦ record {
      others = ts;
      makes = subst (λ x. MakesPlain wants next own ts (next w x) z) e p.1;
      once = times-here n t ts e;
      same = λ u d. sym (times-other u t ts (λ q. d (sym q ∙ e)));
    }
    | inr d ↦
        (let h = times-other n t ts d in
        let later = laws.on w t p.0.access r p.0.wanted in
        let q = sooner own apart n ts (next w t) z later p.1 (omega (arith, h, some)) in
        with_first own apart n t ts w z r p d (wanted-along own apart n (t ∷ ts) w z r p some) q)
  ]

  -- The turns of the others, after a turn of a thread that has none among them.
  pub past : (own : Own) (n : ℕ) (f : NextAccess) (ts : List ℕ) (w z : W) → R w → MakesPlain wants next own ts w z → times n ts ≡ 0 → wants w n ≡ Some f
      → ((t : ℕ) (e : NextAccess) → n ≢ t → own t e → Conflict f e → ⊥) → MakesPlain wants next own ts (next w n) (next z n)
  past own n f [] w z r p none wanted clear = ap (λ x. next x n) p
  past own n f (t ∷ ts) w z r p none wanted clear = elim (same_or_not t n) [
    | inl e ↦ (let h = times-here n t ts e in absurd (omega (arith, h, none)))
    | inr d ↦
        (let other : n ≢ t = λ e. d (sym e) in
        let apart = clear t p.0.access other p.0.is_own in
        let same = laws.same w t n p.0.access f r other p.0.wanted p.0.plain wanted apart in
        let on = past own n f ts (next w t) z (laws.on w t p.0.access r p.0.wanted) p.1 (sym (times-other n t ts d) ∙ none) same clear in
        let swapped = laws.swap w t n p.0.access f r other p.0.wanted p.0.plain wanted apart in (
          record {
            access = p.0.access;
            wanted = laws.stays w t n p.0.access r other p.0.wanted p.0.plain;
            plain = p.0.plain;
            is_own = p.0.is_own;
          },
          subst (λ x. MakesPlain wants next own ts x (next z n)) swapped on,
        ))
  ]
