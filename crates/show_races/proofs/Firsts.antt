-- Of races each one that is like none before it.
use Rattle.std.proofs.Common.{ℕ, ◌≡◌, ◌∙◌, ◌⊎◌, ◌≤◌, ◌<◌, ◌+◌, ◌||◌, Bool, true, false, List, [], ◌∷◌, ◌++◌, All}
use Rattle.std.proofs.Common.{length, get_or, take, inl, inr, refl, sym, subst, arith}
use Rattle.std.specs.List.{Contains}
use Rattle.std.proofs.lemmas.Bool.{both_ways, cases_lt}
use Rattle.std.proofs.lemmas.List.{get_or-take, get_or_default, length-take-le, take_all, take_more}
use Rattle.std.proofs.lemmas.List.Elements.{All-contains, All-nil, All-push, Contains-append_left, Contains-get_or, Contains-push}
use Rattle.std.proofs.lemmas.List.Quantifiers.{all_pairs_push}
use Rattle.allowed_races.specs.declared.allowed.Allowed.{Allowed}
use Rattle.race_history.specs.declared.race.Race.{Race}
use Rattle.race_history.specs.Races.{AreInOrder, AreRaces, HasEach, IsCut, IsEarlier}
use Rattle.show_rows.specs.declared.listing.Shown.{Shown}
use Rattle.show_rows.specs.declared.listing.Story.{Story}
use Rattle.show_races.specs.declared.found.TheConstants.{MOST_PAIRS}
use Rattle.show_races.specs.Sites.{opening_shown, sites_shown}
use Rattle.show_races.specs.Told.{AreAlike, AreApart, AreMany, IsFirstAmong, IsFirstThere, IsLeftOut, IsMore, IsTold, TellsEach}
use Rattle.show_races.proofs.Laws.{named_it}

module _ (shown : Shown) (story : Story) where
  -- It is among the first so many.
  abbrev pub IsFirstBefore : List Race → ℕ → Race → Type 0
  IsFirstBefore all n r = (h : IsFirstAmong shown story all r) × (h.at < n)

  -- What was found among the first so many.
  pub record AreFirsts (all : List Race) (n : ℕ) (told : List Race) : Type 0 where
    pub from : All (IsFirstBefore all n) told
    pub in_order : AreInOrder all → AreInOrder told
    pub once : AreApart shown story told
    pub each : All (IsTold shown story told) (take n all)

  told_more : (told : List Race) (x r : Race) → IsTold shown story told r → IsTold shown story (told ++ x ∷ []) r
  told_more told x r h = (h.0, Contains-append_left told (x ∷ []) h.0 h.1, h.2)

  later_on : (all told : List Race) (n : ℕ) → All (IsFirstBefore all n) told → All (IsFirstBefore all (n + 1)) told
  later_on all told n from k d lt = let h = from k d lt in (h.0, omega (arith, h.1))

  pub none_yet : (all : List Race) → AreFirsts all 0 []
  none_yet all = record {
    from = All-nil (IsFirstBefore all 0);
    in_order = λ o i j d lt within. absurd (omega (arith, within));
    once = λ i j d lt within. absurd (omega (arith, within));
    each = All-nil (IsTold shown story []);
  }

  module _ (all told : List Race) (n : ℕ) (d : Race) (lt : n < length all) (h : AreFirsts all n told) where
    -- it was told before
    pub known_next : IsTold shown story told (get_or all n d) → AreFirsts all (n + 1) told
    known_next known = record {
      from = later_on all told n h.from;
      in_order = h.in_order;
      once = h.once;
      each = subst (All (IsTold shown story told)) (sym (take_more all n d lt))
          (All-push (IsTold shown story told) (take n all) (get_or all n d) h.each known);
    }

    module _ (untold : IsTold shown story told (get_or all n d) → ⊥) where
      none_before : (k : ℕ) → k < n → AreAlike shown story (get_or all k (get_or all n d)) (get_or all n d) → ⊥
      none_before k below alike =
          let long : length (take n all) ≡ n = length-take-le n all (omega (arith, lt)) in
          let t : IsTold shown story told (get_or all k (get_or all n d)) =
          subst (IsTold shown story told) (get_or-take n all k (get_or all n d) below)
          (h.each k (get_or all n d) (omega (arith, below, long))) in
          untold (t.0, t.1, t.2 ∙ alike)

      here : IsFirstBefore all (n + 1) (get_or all n d)
      here = (record { at = n; within = lt; is = get_or_default all n (get_or all n d) d lt; first = none_before }, omega arith)

      ahead : AreInOrder all → (k : ℕ) (e : Race) → k < length told → IsEarlier (get_or told k e) (get_or all n d)
      ahead order k e within =
          let f = h.from k e within in
          subst (λ (r : Race). IsEarlier r (get_or all n d)) (get_or_default all (f.0).at d (get_or told k e) (f.0).within ∙ (f.0).is)
          (order (f.0).at n d f.1 lt)

      pub told_next : AreFirsts all (n + 1) (told ++ get_or all n d ∷ [])
      told_next = record {
        from = All-push (IsFirstBefore all (n + 1)) told (get_or all n d) (later_on all told n h.from) here;
        in_order = λ order. all_pairs_push IsEarlier told (get_or all n d) (h.in_order order) (ahead order);
        once = all_pairs_push (λ r s. AreAlike shown story r s → ⊥) told (get_or all n d) h.once
            (λ k e within alike. untold (get_or told k e, Contains-get_or told k e within, alike));
        each = subst (All (IsTold shown story (told ++ get_or all n d ∷ []))) (sym (take_more all n d lt))
            (All-push (IsTold shown story (told ++ get_or all n d ∷ [])) (take n all) (get_or all n d)
            (λ k e within. told_more told (get_or all n d) (get_or (take n all) k e) (h.each k e within))
            (get_or all n d, Contains-push told (get_or all n d), refl));
      }

  pub firsts_among : (all told : List Race) (n : ℕ) → AreFirsts all n told → All (IsFirstAmong shown story all) told
  firsts_among all told n h k d lt = (h.from k d lt).0

  pub each_told : (all told : List Race) (n : ℕ) → length all ≤ n → AreFirsts all n told → All (IsTold shown story told) all
  each_told all told n le h = subst (All (IsTold shown story told)) (take_all n all le) h.each

  -- Of all races of the run.
  module _ (all told : List Race) (order : AreInOrder all) (from : All (IsFirstAmong shown story all) told) where
    -- one that is among them comes no earlier
    among : (r s : Race) → IsFirstAmong shown story all r → Contains all s → AreAlike shown story s r → (r ≡ s) ⊎ IsEarlier r s
    among r s f c alike = elim (cases_lt c.0 f.at) [
      | inl before ↦ absurd (f.first c.0 before (subst (λ (x : Race). AreAlike shown story x r) (sym (get_or_default all c.0 r s c.1 ∙ c.2)) alike))
      | inr ge ↦ elim (cases_lt f.at c.0) [
        | inl after ↦ inr (subst (λ (x : Race). IsEarlier x s) f.is
            (subst (λ (x : Race). IsEarlier (get_or all f.at r) x) (get_or_default all c.0 r s c.1 ∙ c.2) (order f.at c.0 r after c.1)))
        | inr le ↦ inl (let e : f.at ≡ c.0 = omega arith in
            sym f.is ∙ (subst (λ (k : ℕ). get_or all f.at r ≡ get_or all k r) e refl ∙ (get_or_default all c.0 r s c.1 ∙ c.2)))
      ]
    ]

    contained : (r : Race) → IsFirstAmong shown story all r → Contains all r
    contained r f = subst (Contains all) f.is (Contains-get_or all f.at r f.within)

    pub firsts_whole : (allowed : Allowed) → AreRaces shown.record.now.log (sites_shown allowed shown) (opening_shown shown) all
        → HasEach shown.record.now.log (sites_shown allowed shown) (opening_shown shown) all → All (IsFirstThere allowed shown story) told
    firsts_whole allowed races each k d lt s last alike = among (get_or told k d) s (from k d lt)
        (named_it shown.record.now.log (sites_shown allowed shown) (opening_shown shown) all each s last) alike

    pub firsts_cut : (allowed : Allowed) (most : ℕ) → IsCut shown.record.now.log (sites_shown allowed shown) (opening_shown shown) all most → All (IsFirstThere allowed shown story) told
    firsts_cut allowed most cut k d lt s last alike = elim (cut.first s last) [
      | inl has ↦ among (get_or told k d) s (from k d lt) has alike
      | inr behind ↦ inr (behind (get_or told k d) (contained (get_or told k d) (from k d lt)))
    ]

  pub tells_each : (allowed : Allowed) (all told : List Race) → AreRaces shown.record.now.log (sites_shown allowed shown) (opening_shown shown) all
      → HasEach shown.record.now.log (sites_shown allowed shown) (opening_shown shown) all → All (IsTold shown story told) all → TellsEach allowed shown story told
  tells_each allowed all told races each h first second a b racing =
      let n = each first second a b racing in
      record {
        race = record { first = n.first; second = second };
        is = n.is;
        met = refl;
        is_told = All-contains (IsTold shown story told) all (record { first = n.first; second = second }) h n.named;
      }

  pub is_more : (allowed : Allowed) (all told : List Race) (most : ℕ) → AreRaces shown.record.now.log (sites_shown allowed shown) (opening_shown shown) all
      → IsLeftOut shown story all told most → IsMore allowed shown story told most
  is_more allowed all told most races left = record {
    full = left.full;
    other = left.other;
    races = races left.other left.among;
    untold = left.untold;
  }

  pub untold : (known : List Race) (n : ℕ) (r : Race) → length known ≤ n
      → All (λ s. AreAlike shown story s r → ⊥) (take n known) → IsTold shown story known r → ⊥
  untold known n r le apart h = All-contains (λ s. AreAlike shown story s r → ⊥) (take n known) h.0 apart
      (subst (λ (xs : List Race). Contains xs h.0) (sym (take_all n known le)) h.1) h.2

  pub among_all : (all told : List Race) → All (IsFirstAmong shown story all) told → All (Contains all) told
  among_all all told from k d lt = let f = from k d lt in
      subst (Contains all) f.is (Contains-get_or all f.at (get_or told k d) f.within)

  pub firsts_all : (allowed : Allowed) (all told : List Race) (is_cut : Bool) (most : ℕ) → AreInOrder all → All (IsFirstAmong shown story all) told
      → AreRaces shown.record.now.log (sites_shown allowed shown) (opening_shown shown) all
      → (is_cut ≡ false → HasEach shown.record.now.log (sites_shown allowed shown) (opening_shown shown) all)
      → (is_cut ≡ true → IsCut shown.record.now.log (sites_shown allowed shown) (opening_shown shown) all most) → All (IsFirstThere allowed shown story) told
  firsts_all allowed all told false most order from races each cut = firsts_whole all told order from allowed races (each refl)
  firsts_all allowed all told true most order from races each cut = firsts_cut all told order from allowed most (cut refl)

  pub each_all : (allowed : Allowed) (all told : List Race) (a b : Bool) → (a || b) ≡ false → AreRaces shown.record.now.log (sites_shown allowed shown) (opening_shown shown) all
      → (a ≡ false → HasEach shown.record.now.log (sites_shown allowed shown) (opening_shown shown) all) → (b ≡ false → All (IsTold shown story told) all)
      → TellsEach allowed shown story told
  each_all allowed all told false false none races each told_each = tells_each allowed all told races (each refl) (told_each refl)
  each_all allowed all told false true none races each told_each = absurd (both_ways true none refl)
  each_all allowed all told true b none races each told_each = absurd (both_ways true none refl)

  pub cut_all : (allowed : Allowed) (all told : List Race) (a b : Bool) (most : ℕ) → (a || b) ≡ true
      → AreRaces shown.record.now.log (sites_shown allowed shown) (opening_shown shown) all
      → (a ≡ true → IsCut shown.record.now.log (sites_shown allowed shown) (opening_shown shown) all MOST_PAIRS) → (b ≡ true → IsLeftOut shown story all told most)
      → IsMore allowed shown story told most ⊎ AreMany allowed shown
  cut_all allowed all told true b most some races cut left = inr (all, cut refl)
  cut_all allowed all told false true most some races cut left = inl (is_more allowed all told most races (left refl))
  cut_all allowed all told false false most some races cut left = absurd (both_ways false refl some)

  pub some_told : (all told : List Race) (is_cut : Bool) (most : ℕ) → 1 ≤ most → (is_cut ≡ false → All (IsTold shown story told) all)
      → (is_cut ≡ true → IsLeftOut shown story all told most) → 1 ≤ length all → 1 ≤ length told
  some_told all told true most room each left some = omega (arith, room, (left refl).full)
  some_told [] told false most room each left some = absurd (omega (arith, some))
  some_told (r ∷ all) told false most room each left some =
      let t = each refl 0 r (omega arith) in omega (arith, (t.1).1)

  pub untold_next : (known : List Race) (r : Race) (n : ℕ) (d : Race) → n < length known → (AreAlike shown story (get_or known n d) r → ⊥)
      → All (λ s. AreAlike shown story s r → ⊥) (take n known) → All (λ s. AreAlike shown story s r → ⊥) (take (n + 1) known)
  untold_next known r n d lt apart all = subst (All (λ s. AreAlike shown story s r → ⊥)) (sym (take_more known n d lt))
      (All-push (λ s. AreAlike shown story s r → ⊥) (take n known) (get_or known n d) all apart)

  pub told_here : (known : List Race) (r : Race) (n : ℕ) (d : Race) → n < length known → AreAlike shown story (get_or known n d) r
      → IsTold shown story known r
  told_here known r n d lt alike = (get_or known n d, Contains-get_or known n d lt, alike)

  pub told_by : (a b : List Race) (r : Race) → a ≡ b → IsTold shown story a r → IsTold shown story b r
  told_by a b r same h = subst (λ (l : List Race). IsTold shown story l r) same h

  pub untold_by : (a b : List Race) (r : Race) → a ≡ b → (IsTold shown story a r → ⊥) → IsTold shown story b r → ⊥
  untold_by a b r same none h = none (told_by b a r (sym same) h)

  pub left_out : (all told : List Race) (most n : ℕ) (d : Race) → n < length all → length told ≡ most
      → (IsTold shown story told (get_or all n d) → ⊥) → IsLeftOut shown story all told most
  left_out all told most n d lt full none = record {
    full = full;
    other = get_or all n d;
    among = Contains-get_or all n d lt;
    untold = none;
  }
