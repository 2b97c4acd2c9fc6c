-- Where threads can race, two next accesses race somewhere.
use Rattle.std.specs.Prelude.{◌≡◌, ◌≢◌, ◌⊎◌, ℕ, zero, suc, true, Option, Some, None, List, [], ◌∷◌, ◌++◌, refl}
use Rattle.std.proofs.Common.{ap, subst, sym, ◌∙◌, inl, inr, true≢false}
use Rattle.std.proofs.lemmas.Option.{none-some}
use Rattle.schedule.proofs.Basics.{same_or_not}
use Rattle.search_graph.specs.Paths.{Goes, Reaches}
use Rattle.search_settled.specs.declared.access.NextAccess.{NextAccess}
use Rattle.search_settled.specs.Accesses.{IsPlain, Conflict, AreMatched, HaveSameBytes, Race, WritesOver}
use Rattle.search_race_free.specs.Orders.{StepsPlainly}
use Rattle.search_race_free.proofs.Moving.{PlainLaws}

pub conflict-swap : (a b : NextAccess) → Conflict a b → Conflict b a
conflict-swap a b c = let m = c.meet in record { meet = (m.0, (m.1.1, m.1.0)); write = by c.write }
  where
    by : (a.writes ≡ true) ⊎ (b.writes ≡ true) → (b.writes ≡ true) ⊎ (a.writes ≡ true)
    by (inl h) = inr h
    by (inr h) = inl h

-- What conflicts with a plain access races with it.
pub plain-race : (a b : NextAccess) → IsPlain a → Conflict a b → Race a b
plain-race a b p c = record { conflict = c; unmatched = λ m. true≢false (sym p ∙ m.first) }

pub plain-race-other : (a b : NextAccess) → IsPlain b → Conflict a b → Race a b
plain-race-other a b p c = record { conflict = c; unmatched = λ m. true≢false (sym p ∙ m.second) }

pub race-swap : (a b : NextAccess) → Race a b → Race b a
race-swap a b r = record {
  conflict = conflict-swap a b r.conflict;
  unmatched = λ m. r.unmatched (matched-swap m);
}
  where
    same : (b.is_allowed ≡ a.is_allowed) → (b.is_allowed ≡ true) ⊎ HaveSameBytes b a → (a.is_allowed ≡ true) ⊎ HaveSameBytes a b
    same alike (inl h) = inl (sym alike ∙ h)
    same alike (inr h) = inr (sym h.0, sym h.1)

    matched-swap : AreMatched b a → AreMatched a b
    matched-swap m = record { first = m.second; second = m.first; alike = sym m.alike; bytes = same m.alike m.bytes }

-- Two that are written over by the same are matched.
pub over-matched : (k a b : NextAccess) → WritesOver k a → WritesOver k b → AreMatched a b
over-matched k a b x y =
    let m = x.matched in
    let n = y.matched in
    record { first = m.first; second = n.first; alike = m.alike ∙ sym n.alike; bytes = by m.bytes n.bytes }
  where
    by : (a.is_allowed ≡ true) ⊎ HaveSameBytes a k → (b.is_allowed ≡ true) ⊎ HaveSameBytes b k → (a.is_allowed ≡ true) ⊎ HaveSameBytes a b
    by (inl h) other = inl h
    by (inr h) (inl o) = inl (x.matched.alike ∙ (sym y.matched.alike ∙ o))
    by (inr h) (inr o) = inr (h.0 ∙ sym o.0, h.1 ∙ sym o.1)

module _ {W : Type 0} (wants : W → ℕ → Option NextAccess) (next : W → ℕ → W) (R : W → Type 0) (laws : PlainLaws wants next R) where
  -- One thread makes these plain accesses, alone.
  abbrev Lead : ℕ → List NextAccess → W → W → Type 0
  Lead one [] w v = w ≡ v
  Lead one (e ∷ es) w v = (wants w one ≡ Some e) × IsPlain e × Lead one es (next w one) v

  -- Nowhere do two next accesses race.
  abbrev pub NoneMeetIn : Type 0
  NoneMeetIn = (w : W) → R w → (t u : ℕ) (e f : NextAccess) → u ≢ t → wants w t ≡ Some e → wants w u ≡ Some f → Race e f → ⊥

  -- what conflicts with none of them another thread does before as after
  clear-of : NoneMeetIn → (one u : ℕ) (e g : NextAccess) (w : W) → R w → u ≢ one → wants w one ≡ Some e → IsPlain e → wants w u ≡ Some g → Conflict g e → ⊥
  clear-of never one u e g w r d wanted p h c = never w r one u e g d wanted h (plain-race e g p (conflict-swap g e c))

  lead-same : NoneMeetIn → (one u : ℕ) (g : NextAccess) (es : List NextAccess) (w v : W) → R w → u ≢ one → Lead one es w v → wants w u ≡ Some g →
      wants v u ≡ Some g
  lead-same never one u g [] w v r d l h = ap (λ x. wants x u) (sym l) ∙ h
  lead-same never one u g (e ∷ es) w v r d l h =
      lead-same never one u g es (next w one) v (laws.on w one e r l.0) d l.2
      (laws.same w one u e g r d l.0 l.1 h (clear-of never one u e g w r d l.0 l.1 h))

  lead-none : (one u : ℕ) (es : List NextAccess) (w v : W) → R w → u ≢ one → Lead one es w v → wants w u ≡ None → wants v u ≡ None
  lead-none one u [] w v r d l h = ap (λ x. wants x u) (sym l) ∙ h
  lead-none one u (e ∷ es) w v r d l h = lead-none one u es (next w one) v (laws.on w one e r l.0) d l.2 (laws.none w one u e r d l.0 l.1 h)

  lead-back : NoneMeetIn → (one u : ℕ) (f : NextAccess) (es : List NextAccess) (w v : W) → R w → u ≢ one → Lead one es w v → wants v u ≡ Some f →
      wants w u ≡ Some f
  lead-back never one u f es w v r d l h = by (wants w u) refl
    where
      by : (o : Option NextAccess) → wants w u ≡ o → wants w u ≡ Some f
      by None is = absurd (none-some f (sym (lead-none one u es w v r d l is) ∙ h))
      by (Some g) is = is ∙ (sym (lead-same never one u g es w v r d l is) ∙ h)

  lead-more : (one : ℕ) (es : List NextAccess) (x : NextAccess) (w v : W) → Lead one es w v → wants v one ≡ Some x → IsPlain x
      → Lead one (es ++ x ∷ []) w (next v one)
  lead-more one [] x w v l h p = (ap (λ y. wants y one) l ∙ h, p, ap (λ y. next y one) l)
  lead-more one (e ∷ es) x w v l h p = (l.0, l.1, lead-more one es x (next w one) v l.2 h p)

  -- Another thread's turn comes before.
  lead-after : NoneMeetIn → (one u : ℕ) (g : NextAccess) (es : List NextAccess) (w v : W) → R w → u ≢ one → Lead one es w v → wants w u ≡ Some g
      → Lead one es (next w u) (next v u)
  lead-after never one u g [] w v r d l h = ap (λ x. next x u) l
  lead-after never one u g (e ∷ es) w v r d l h =
      let clear = clear-of never one u e g w r d l.0 l.1 h in
      let later = lead-after never one u g es (next w one) v (laws.on w one e r l.0) d l.2 (laws.same w one u e g r d l.0 l.1 h clear) in
      let swapped = laws.swap w one u e g r d l.0 l.1 h clear in
      (laws.stays w one u e r d l.0 l.1, l.1, subst (λ x. Lead one es x (next v u)) swapped later)

  no-race : NoneMeetIn → (n one other : ℕ) (e f : NextAccess) (es : List NextAccess) (w v z : W) → other ≢ one → R w → Lead one (e ∷ es) w v
      → Goes (StepsPlainly wants next one) n v z → wants z other ≡ Some f → Conflict f e → ⊥
  no-race never zero one other e f es w v z d r l p h c =
      let here : wants w other ≡ Some f = lead-back never one other f (e ∷ es) w v r d l (ap (λ x. wants x other) p ∙ h) in
      never w r one other e f d l.0 here (plain-race e f l.1 (conflict-swap f e c))
  no-race never (suc n) one other e f es w v z d r l p h c =
      let step = p.1 in
      let t = step.thread in
      let on = subst (λ x. Goes (StepsPlainly wants next one) n x z) step.leads p.2 in
      elim (same_or_not t one) [
        | inl same ↦
            no-race never n one other e f (es ++ step.access ∷ []) w (next v one) z d r
            (lead-more one (e ∷ es) step.access w v l (subst (λ x. wants v x ≡ Some step.access) same step.wanted) (step.plain same))
            (subst (λ x. Goes (StepsPlainly wants next one) n (next v x) z) same on) h c
        | inr apart ↦
            (let here : wants w t ≡ Some step.access = lead-back never one t step.access (e ∷ es) w v r apart l step.wanted in
            no-race never n one other e f es (next w t) (next v t) z d (laws.on w t step.access r here)
            (lead-after never one t step.access (e ∷ es) w v r apart l here) on h c)
      ]

  -- One thread makes a plain access, and nothing since that isn't plain, up to where another one's conflicts with it.
  pub none-race : NoneMeetIn → (one other : ℕ) (e f : NextAccess) (w z : W) → other ≢ one → R w → wants w one ≡ Some e → IsPlain e
      → Reaches (StepsPlainly wants next one) (next w one) z → wants z other ≡ Some f → Conflict f e → ⊥
  none-race never one other e f w z d r h p since g c =
      no-race never since.count one other e f [] w (next w one) z d r (h, p, refl) since.path g c
