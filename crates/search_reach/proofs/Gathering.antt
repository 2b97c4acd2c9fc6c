-- How the endings are gathered.
use Rattle.std.specs.Prelude.{◌≡◌, ◌+◌, ◌<◌, ◌≤◌, ◌⊎◌, ℕ, Bool, true, false, List, [], ◌∷◌, ◌++◌, length, take, get_or}
use Rattle.std.specs.Prelude.{Contains, Option, Some, None, refl, if◌then◌else◌}
use Rattle.std.proofs.Common.{ap, subst, sym, ◌∙◌, inl, inr}
use Rattle.std.proofs.lemmas.List.{take_more, take_all}
use Rattle.std.proofs.lemmas.List.Elements.{Contains-push, Contains-push_cases}
use Rattle.std.proofs.lemmas.Option.{none-some}
use Rattle.std.specs.List.{list_any, AllZip}
use Rattle.std.specs.Option.{is_some}
use Rattle.std.proofs.lemmas.Slice.Zip.{all_zipped_more}
use Rattle.indexmap.specs.IndexSet.{insert_key}
use Rattle.search_reach.specs.Search.{StepSystem, Steps, StandsFor, IsMet, IsEnding, IsMarkedSo, HasEqual, AllEnds, HasAllEnds, IsAll, IsEnd, Ended}
use Rattle.search_reach.proofs.Paths.{onward}
use Rattle.search_reach.proofs.Searching.{Begins, Begins-self, found, Begins-insert_key, holds-insert_key, Contains-longer}

module _ {E : Type 0} (eq : E → E → Bool) (self : (e : E) → eq e e ≡ true) where
  has-longer : (es fs : List E) (e : E) → Begins es fs → HasEqual eq es e → HasEqual eq fs e
  has-longer es fs e b h = record { key = h.key; among = Contains-longer es fs h.key b h.among; is = h.is }

  has-insert_key : (es : List E) (e : E) → HasEqual eq (insert_key eq es e) e
  has-insert_key es e = by (list_any (eq e) es) refl
    where
      by : (b : Bool) → list_any (eq e) es ≡ b → HasEqual eq (if list_any (eq e) es then es else es ++ e ∷ []) e
      by true h =
          let f = found eq es e h in
          subst (λ c. HasEqual eq (if c then es else es ++ e ∷ []) e) (sym h) (record { key = f.0; among = f.1; is = f.2 })
      by false h =
          subst (λ c. HasEqual eq (if c then es else es ++ e ∷ []) e) (sym h) (record { key = e; among = Contains-push es e; is = self e })

  module _ {S W : Type 0} (k : StepSystem S W E) where
    abbrev Goes-on : List S → ℕ → List E → List Bool → Type 0
    Goes-on = Ended k eq

    taken : (ks : List S) (i : ℕ) (s : S) → i < length ks → s ≡ get_or ks i s → take (i + 1) ks ≡ take i ks ++ s ∷ []
    taken ks i s h is = take_more ks i s h ∙ ap (λ y. take i ks ++ y ∷ []) (sym is)

    all-more : (ks : List S) (i : ℕ) (s : S) (es fs : List E) → i < length ks → s ≡ get_or ks i s → AllEnds k eq (take i ks) es → Begins es fs
        → ((w : W) (e : E) → StandsFor k s w → k.ends w e → HasEqual eq fs e) → AllEnds k eq (take (i + 1) ks) fs
    all-more ks i s es fs h is all b here x c w e t d = by (Contains-push_cases (take i ks) s x (subst (λ l. Contains l x) (taken ks i s h is) c))
      where
        by : Contains (take i ks) x ⊎ (s ≡ x) → HasEqual eq fs e
        by (inl a) = has-longer es fs e b (all x a w e t d)
        by (inr q) = here w e (subst (λ y. StandsFor k y w) (sym q) t) d

    -- a mark more
    marks-more : (ks : List S) (i : ℕ) (s : S) (r : Option E) (marks : List Bool) → i < length ks → s ≡ get_or ks i s → AllZip (IsMarkedSo k) (take i ks) marks
        → IsEnding k s r → AllZip (IsMarkedSo k) (take (i + 1) ks) (marks ++ is_some r ∷ [])
    marks-more ks i s r marks h is before n =
        subst (λ l. AllZip (IsMarkedSo k) l (marks ++ is_some r ∷ [])) (sym (taken ks i s h is))
        (all_zipped_more (IsMarkedSo k) (take i ks) marks s (is_some r) before (record { ending = r; is = n; mark_is = refl }))

    is-end : (s : S) (r : Option E) (e : E) → IsMet k s → IsEnding k s r → r ≡ Some e → IsEnd k e
    is-end s r e m n q =
        let can = n.sound m.comes.end e m.comes.is q in
        record {
          from = m.from;
          begun = m.begun;
          can = record {
            end = can.end;
            path = onward (Steps k) m.from m.comes.end can.end m.comes.path can.path;
            is = can.is;
          };
        }

    ended-insert : (ks : List S) (i : ℕ) (s : S) (r : Option E) (e : E) (es : List E) (marks : List Bool) → i < length ks → s ≡ get_or ks i s →
        Goes-on ks i es marks
        → IsMet k s → IsEnding k s r → r ≡ Some e → Goes-on ks (i + 1) (insert_key eq es e) (marks ++ is_some r ∷ [])
    ended-insert ks i s r e es marks h is d m n q = record {
      all = all-more ks i s es (insert_key eq es e) h is d.all (Begins-insert_key eq es e)
          (λ w f t x. subst (λ y. HasEqual eq (insert_key eq es e) y) (one f (n.all w f t x)) (has-insert_key es e));
      sound = holds-insert_key eq (IsEnd k) es e d.sound (is-end s r e m n q);
      of = holds-insert_key eq (λ x. (y : S) × Contains ks y × IsEnding k y (Some x)) es e d.of (s, (i, h, sym is), subst (λ o. IsEnding k s o) q n);
      marks_are = marks-more ks i s r marks h is d.marks_are n;
    }
      where
        one : (f : E) → r ≡ Some f → e ≡ f
        one f p = let both : Some e ≡ Some f = sym q ∙ p in cc

    -- A state that has ended.
    pub ended-some : (ks : List S) (i : ℕ) (s : S) (r : Option E) (e : E) (es fs : List E) (marks : List Bool) → i < length ks → s ≡ get_or ks i s →
        Goes-on ks i es marks
        → IsMet k s → IsEnding k s r → r ≡ Some e → fs ≡ insert_key eq es e → Goes-on ks (i + 1) fs (marks ++ is_some r ∷ [])
    ended-some ks i s r e es fs marks h is d m n q f =
        subst (λ l. Goes-on ks (i + 1) l (marks ++ is_some r ∷ [])) (sym f) (ended-insert ks i s r e es marks h is d m n q)

    -- One that has not.
    pub ended-none : (ks : List S) (i : ℕ) (s : S) (r : Option E) (es fs : List E) (marks : List Bool) → i < length ks → s ≡ get_or ks i s →
        Goes-on ks i es marks
        → IsEnding k s r → r ≡ None → fs ≡ es → Goes-on ks (i + 1) fs (marks ++ is_some r ∷ [])
    ended-none ks i s r es fs marks h is d n q f = subst (λ l. Goes-on ks (i + 1) l (marks ++ is_some r ∷ [])) (sym f) (record {
      all = all-more ks i s es es h is d.all (Begins-self es) (λ w e t x. absurd (none-some e (sym q ∙ n.all w e t x)));
      sound = d.sound;
      of = d.of;
      marks_are = marks-more ks i s r marks h is d.marks_are n;
    })

    -- The last one was looked at.
    pub ended-all : (ks : List S) (i : ℕ) (es : List E) (marks : List Bool) → Goes-on ks i es marks → length ks ≤ i → AllEnds k eq ks es
    ended-all ks i es marks d h s c = d.all s (subst (λ l. Contains l s) (sym (take_all i ks h)) c)

    pub marks-all : (ks : List S) (i : ℕ) (es : List E) (marks : List Bool) → Goes-on ks i es marks → length ks ≤ i → AllZip (IsMarkedSo k) ks marks
    marks-all ks i es marks d h = subst (λ l. AllZip (IsMarkedSo k) l marks) (take_all i ks h) d.marks_are

module _ {S W E : Type 0} (k : StepSystem S W E) (eq : E → E → Bool) where
  -- The endings of all states are all.
  pub endings-of_all : (ks ls : List S) (es : List E) → ls ≡ ks → IsAll k ks → AllEnds k eq ls es → HasAllEnds k eq es
  endings-of_all ks ls es same all each w z e b r d =
      let c = all w z b r in
      each c.state (subst (λ l. Contains l c.state) (sym same) c.among) z e c.is d
