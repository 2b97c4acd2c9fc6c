-- The last accesses stay the last ones where more are kept.
use Rattle.std.proofs.Common.{◌≡◌, ◌∙◌, ◌<◌, ◌≤◌, ◌+◌, ◌/◌, ◌%◌, ◌⊎◌, ℕ, zero, suc, List, [], ◌∷◌, Bool, not, length}
use Rattle.std.proofs.Common.{filter, map, get_or, set, replicate, inl, inr, refl, sym, ap, subst, arith}
use Rattle.std.proofs.Common.{get_or-set_same, get_or-set_other}
use Rattle.std.proofs.Math.Nat.{mod-lt}
use Rattle.std.specs.Global.{Vec}
use Rattle.std.specs.List.{AllPairs, Contains, fold}
use Rattle.std.proofs.lemmas.Bool.{both_ways, cases_Bool, cases_eq, cases_lt, not-true, not_from_false}
use Rattle.std.proofs.lemmas.List.{get_or-map, get_or_default, length-map, length-set, map-set}
use Rattle.std.proofs.lemmas.List.Elements.{Contains-append_left, Contains-push, Contains-push_cases}
use Rattle.std.proofs.lemmas.List.Kept.{AllPairs-filter}
use Rattle.std.proofs.lemmas.List.Quantifiers.{all_pairs_push}
use Rattle.types.specs.declared.event.Entry.{Entry}
use Rattle.race_history.specs.declared.access.ThreadAccess.{ThreadAccess}
use Rattle.race_history.specs.declared.access.Site.{Site}
use Rattle.race_history.specs.declared.lasts.Last.{Last}
use Rattle.race_history.specs.Accesses.{accesses_of}
use Rattle.race_history.specs.Places.{IsAccess, IsAt}
use Rattle.race_history.specs.Lasts.{AreLasts, AreLastsOf, AreOther, IsMadeBefore, keeping, kept, list_for, with_last}
use Rattle.race_history.specs.Tests.{is_same}
use Rattle.race_history.proofs.Lists.{Contains-at, Contains-cons_cases, Contains-filter, Contains-here, Contains-none, Contains-there}
use Rattle.race_history.proofs.Lists.{IsAt-get, filter-Contains}
use Rattle.race_history.proofs.Places.{access_made, made_here}
use Rattle.race_history.proofs.Words.{same_from, same_to}

-- what a list has once one more is in it

module _ (xs : List Last) (y : Last) where
  abbrev other : Last → Bool
  other = λ x. not (is_same x.access y.access)

  pub put_has : Contains (with_last y xs) y
  put_has = Contains-push (filter other xs) y

  pub put_from : (x : Last) → Contains (with_last y xs) x → Contains xs x ⊎ (x ≡ y)
  put_from x h = elim (Contains-push_cases (filter other xs) y x h) [
    | inl old ↦ inl (Contains-filter other xs x old).0
    | inr e ↦ inr (sym e)
  ]

  pub put_kept : (x : Last) → Contains xs x → Contains (with_last y xs) x ⊎ (x.access ≡ y.access)
  put_kept x h = elim (cases_Bool (is_same x.access y.access)) [
    | inl same ↦ inr (same_from x.access y.access same)
    | inr isnt ↦
        inl (Contains-append_left (filter other xs) (y ∷ []) x
        (filter-Contains other xs x h (not_from_false (is_same x.access y.access) isnt)))
  ]

  pub put_once : AllPairs AreOther xs → AllPairs AreOther (with_last y xs)
  put_once h =
      all_pairs_push AreOther (filter other xs) y (AllPairs-filter AreOther other xs h)
      (λ k d lt e.
      let x : Last = get_or (filter other xs) k d in
      let q = Contains-filter other xs x (Contains-at (filter other xs) k x (IsAt-get (filter other xs) k d lt)) in
      both_ways (is_same x.access y.access) (not-true (is_same x.access y.access) q.1) (same_to x.access y.access e))

-- an access stands once
pub once : (xs : List Last) (x y : Last) → AllPairs AreOther xs → Contains xs x → Contains xs y → x.access ≡ y.access → x ≡ y
once xs x y h c d e =
    let i : ℕ = c.0 in
    let j : ℕ = d.0 in
    let xi : get_or xs i x ≡ x = c.2 in
    let yj : get_or xs j x ≡ y = get_or_default xs j x y d.1 ∙ d.2 in
    elim (cases_lt i j) [
      | inl lt ↦ absurd ((h i j x lt d.1) (ap (λ (z : Last). z.access) xi ∙ (e ∙ ap (λ (z : Last). z.access) (sym yj))))
      | inr ge ↦ elim (cases_lt j i) [
        | inl lt ↦ absurd ((h j i x lt c.1) (ap (λ (z : Last). z.access) yj ∙ (sym e ∙ ap (λ (z : Last). z.access) (sym xi))))
        | inr le ↦ let same : i ≡ j = omega arith in sym xi ∙ (ap (λ (k : ℕ). get_or xs k x) same ∙ yj)
      ]
    ]

-- where each list is after one is put in its place
module _ (lists : List (List Last)) (x : Last) (some : 0 < length lists) where
  abbrev at : ℕ
  at = x.access.addr / 8 % length lists

  pub kept_length : length (kept lists x) ≡ length lists
  kept_length = length-set lists at (with_last x (list_for lists x.access.addr))

  pub kept_list : (addr : ℕ) → list_for (kept lists x) addr ≡ get_or (kept lists x) (addr / 8 % length lists) []
  kept_list addr = ap (λ (n : ℕ). get_or (kept lists x) (addr / 8 % n) []) kept_length

  pub kept_here : (k : ℕ) → k ≡ at → get_or (kept lists x) k [] ≡ with_last x (list_for lists x.access.addr)
  kept_here k e =
      ap (λ (j : ℕ). get_or (kept lists x) j []) e
      ∙ get_or-set_same lists at (with_last x (list_for lists x.access.addr)) [] (mod-lt (x.access.addr / 8) some)

  pub kept_others : (k : ℕ) → (k ≡ at → ⊥) → get_or (kept lists x) k [] ≡ get_or lists k []
  kept_others k ne = get_or-set_other lists at k (with_last x (list_for lists x.access.addr)) [] ne

abbrev pub no_list : List Last
no_list = []

empty_at : (n k : ℕ) → get_or (replicate n no_list) k [] ≡ []
empty_at zero k = refl
empty_at (suc n) zero = refl
empty_at (suc n) (suc k) = empty_at n k

some_lists : (n : ℕ) → 0 < n → 0 < length (replicate n no_list)
some_lists zero some = absurd (omega arith)
some_lists (suc n) some = omega arith

-- one more access is made, at a place that is behind all those before
module _ (IsMade : ℕ → ThreadAccess → Type 0) (lists : List (List Last)) (place : ℕ) (a : ThreadAccess) (h : AreLastsOf IsMade lists)
    (behind : (p : ℕ) (b : ThreadAccess) → IsMade p b → p ≤ place) where
  abbrev last : Last
  last = record { place = place; access = a }

  abbrev IsMadeOr : ℕ → ThreadAccess → Type 0
  IsMadeOr p b = IsMade p b ⊎ ((p ≡ place) × (b ≡ a))

  abbrev at_last : ℕ
  at_last = a.addr / 8 % length lists

  once_more : (k : ℕ) → AllPairs AreOther (get_or (kept lists last) k [])
  once_more k = elim (cases_eq k at_last) [
    | inl e ↦
        subst (λ (l : List Last). AllPairs AreOther l) (sym (kept_here lists last h.some k e))
        (put_once (list_for lists a.addr) last (h.once at_last))
    | inr ne ↦ subst (λ (l : List Last). AllPairs AreOther l) (sym (kept_others lists last h.some k ne)) (h.once k)
  ]

  made_more : (k : ℕ) (x : Last) → Contains (get_or (kept lists last) k []) x → IsMadeOr x.place x.access
  made_more k x c = elim (cases_eq k at_last) [
    | inl e ↦
        elim (put_from (list_for lists a.addr) last x (subst (λ (l : List Last). Contains l x) (kept_here lists last h.some k e) c)) [
          | inl old ↦ inl (h.made at_last x old)
          | inr f ↦ inr (ap (λ (z : Last). z.place) f, ap (λ (z : Last). z.access) f)
        ]
    | inr ne ↦ inl (h.made k x (subst (λ (l : List Last). Contains l x) (kept_others lists last h.some k ne) c))
  ]

  abbrev Has : ℕ → ThreadAccess → Type 0
  Has p b = (x : Last) × (Contains (list_for (kept lists last) b.addr) x × (x.access ≡ b) × (p ≤ x.place))

  -- the list of the word has the new one
  has_new : (b : ThreadAccess) → b.addr / 8 % length lists ≡ at_last → Contains (list_for (kept lists last) b.addr) last
  has_new b e =
      subst (λ (l : List Last). Contains l last)
      (sym (kept_list lists last h.some b.addr ∙ kept_here lists last h.some (b.addr / 8 % length lists) e))
      (put_has (list_for lists a.addr) last)

  old_more : (p : ℕ) (b : ThreadAccess) → IsMade p b → Has p b
  old_more p b is =
      let o = h.all p b is in
      let x : Last = o.0 in
      elim (cases_eq (b.addr / 8 % length lists) at_last) [
        | inl e ↦
            let same : list_for lists b.addr ≡ list_for lists a.addr = ap (λ (j : ℕ). get_or lists j []) e in
            let back : with_last last (list_for lists a.addr) ≡ list_for (kept lists last) b.addr =
            sym (kept_list lists last h.some b.addr ∙ kept_here lists last h.some (b.addr / 8 % length lists) e) in
            elim (put_kept (list_for lists a.addr) last x (subst (λ (l : List Last). Contains l x) same o.1.0)) [
              | inl stays ↦ (x, (subst (λ (l : List Last). Contains l x) back stays, o.1.1, o.1.2))
              | inr f ↦ (last, (has_new b e, sym f ∙ o.1.1, behind p b is))
            ]
        | inr ne ↦
            let same : list_for (kept lists last) b.addr ≡ list_for lists b.addr =
            kept_list lists last h.some b.addr ∙ kept_others lists last h.some (b.addr / 8 % length lists) ne in
            (x, (subst (λ (l : List Last). Contains l x) (sym same) o.1.0, o.1.1, o.1.2))
      ]

  all_more : (p : ℕ) (b : ThreadAccess) → IsMadeOr p b → Has p b
  all_more p b is = elim is [
    | inl old ↦ old_more p b old
    | inr new ↦
        let same : p ≡ place = new.0 in
        let word : b.addr / 8 % length lists ≡ at_last = ap (λ (c : ThreadAccess). c.addr / 8 % length lists) new.1 in
        let le : p ≤ place = omega arith in
        (last, (has_new b word, sym new.1, le))
  ]

  pub kept_more : AreLastsOf IsMadeOr (kept lists last)
  kept_more =
      let some : 0 < length lists = h.some in
      let count : length (kept lists last) ≡ length lists = kept_length lists last some in
      record { some = omega arith; once = once_more; made = made_more; all = all_more }

-- what says the same of accesses
pub lasts_same : (M N : ℕ → ThreadAccess → Type 0) (lists : List (List Last)) → ((p : ℕ) (a : ThreadAccess) → M p a → N p a)
    → ((p : ℕ) (a : ThreadAccess) → N p a → M p a) → AreLastsOf M lists → AreLastsOf N lists
lasts_same M N lists to from h = record {
  some = h.some;
  once = h.once;
  made = λ k x c. to x.place x.access (h.made k x c);
  all = λ p a is. h.all p a (from p a is);
}

-- all accesses of an entry are kept, one after the other
pub kept_all : (place : ℕ) (accesses : List ThreadAccess) (IsMade : ℕ → ThreadAccess → Type 0) (lists : List (List Last)) → AreLastsOf IsMade lists
    → ((p : ℕ) (b : ThreadAccess) → IsMade p b → p ≤ place)
    → AreLastsOf (λ p b. IsMade p b ⊎ ((p ≡ place) × Contains accesses b)) (fold (keeping place) lists accesses)
kept_all place [] IsMade lists h behind =
    lasts_same IsMade (λ p b. IsMade p b ⊎ ((p ≡ place) × Contains [] b)) lists (λ p b is. inl is)
    (λ p b is. elim is [ inl old ↦ old | inr new ↦ absurd (Contains-none b new.1) ]) h
kept_all place (a ∷ accesses) IsMade lists h behind =
    let M : ℕ → ThreadAccess → Type 0 = λ p b. IsMade p b ⊎ ((p ≡ place) × (b ≡ a)) in
    let later : (p : ℕ) (b : ThreadAccess) → M p b → p ≤ place = λ p b is. elim is [
      | inl old ↦ behind p b old
      | inr new ↦ let e : p ≡ place = new.0 in omega arith
    ] in
    lasts_same (λ p b. M p b ⊎ ((p ≡ place) × Contains accesses b)) (λ p b. IsMade p b ⊎ ((p ≡ place) × Contains (a ∷ accesses) b))
    (fold (keeping place) (kept lists (record { place = place; access = a })) accesses)
    (λ p b is. elim is [
      | inl one ↦ elim one [
        | inl old ↦ inl old
        | inr new ↦ inr (new.0, subst (λ (c : ThreadAccess). Contains (a ∷ accesses) c) (sym new.1) (Contains-here a accesses))
      ]
      | inr rest ↦ inr (rest.0, Contains-there a accesses b rest.1)
    ])
    (λ p b is. elim is [
      | inl old ↦ inl (inl old)
      | inr new ↦ elim (Contains-cons_cases a accesses b new.1) [
        | inl e ↦ inl (inr (new.0, sym e))
        | inr c ↦ inr (new.0, c)
      ]
    ])
    (kept_all place accesses M (kept lists (record { place = place; access = a })) (kept_more IsMade lists place a h behind) later)

pub fold_length : (place : ℕ) (accesses : List ThreadAccess) (lists : List (List Last)) → 0 < length lists
    → length (fold (keeping place) lists accesses) ≡ length lists
fold_length place [] lists some = refl
fold_length place (a ∷ accesses) lists some =
    let x : Last = record { place = place; access = a } in
    let one : length (kept lists x) ≡ length lists = kept_length lists x some in
    fold_length place accesses (kept lists x) (omega arith) ∙ one

module _ (log : List Entry) (sites : List Site) (opening : ℕ) where
  pub lasts_none : (n : ℕ) → 0 < n → AreLasts log sites opening 0 (replicate n no_list)
  lasts_none n some = record {
    some = some_lists n some;
    once = λ k. subst (λ (l : List Last). AllPairs AreOther l) (sym (empty_at n k)) (λ i j d lt within. absurd (omega arith));
    made = λ k x h. absurd (Contains-none x (subst (λ (l : List Last). Contains l x) (empty_at n k) h));
    all = λ place a h. let lt : place < 0 = h.0 in absurd (omega arith);
  }

  pub lasts_more : (end : ℕ) (lists : List (List Last)) (e : Entry) (site : Site) → IsAt log end e → IsAt sites end site
      → AreLasts log sites opening end lists
      → AreLasts log sites opening (end + 1) (fold (keeping end) lists (accesses_of e site opening))
  lasts_more end lists e site at of h =
      let accesses : List ThreadAccess = accesses_of e site opening in
      let M : ℕ → ThreadAccess → Type 0 = IsMadeBefore log sites opening end in
      lasts_same (λ p b. M p b ⊎ ((p ≡ end) × Contains accesses b)) (IsMadeBefore log sites opening (end + 1)) (fold (keeping end) lists accesses)
      (λ p b is. elim is [
        | inl old ↦ let lt : p < end = old.0 in (omega arith, old.1)
        | inr new ↦
            let here : p ≡ end = new.0 in (
              omega arith,
              subst (λ (k : ℕ). IsAccess log sites opening k b) (sym here) (access_made log sites opening end e site b at of new.1),
            )
      ])
      (λ p b is.
      let lt : p < end + 1 = is.0 in
      elim (cases_lt p end) [
        | inl before ↦ inl (before, is.1)
        | inr le ↦
            let here : p ≡ end = omega arith in
            inr (here, made_here log sites opening end e site b at of (subst (λ (k : ℕ). IsAccess log sites opening k b) here is.1))
      ])
      (kept_all end accesses M lists h (λ p b is. let lt : p < end = is.0 in omega arith))

-- the lists after one has one more
pub table_set : (vs : List (Vec Last)) (k : ℕ) (old new : Vec Last) (x : Last) → k ≡ x.access.addr / 8 % length vs → k < length vs
    → old ≡ get_or vs k old → new.items ≡ with_last x old.items
    → map (λ (v : Vec Last). v.items) (set vs k new) ≡ kept (map (λ (v : Vec Last). v.items) vs) x
table_set vs k old new x e lt at is =
    let f : Vec Last → List Last = λ v. v.items in
    let long : length (map f vs) ≡ length vs = length-map vs f in
    let here : get_or (map f vs) k [] ≡ old.items = get_or-map f vs k old [] lt ∙ ap f (sym at) in
    let word : k ≡ x.access.addr / 8 % length (map f vs) = e ∙ ap (λ (n : ℕ). x.access.addr / 8 % n) (sym long) in
    let put : new.items ≡ with_last x (list_for (map f vs) x.access.addr) =
    is ∙ (ap (λ (l : List Last). with_last x l) (sym here) ∙ ap (λ (j : ℕ). with_last x (get_or (map f vs) j [])) word) in
    map-set f vs k new ∙ (ap (λ (l : List Last). set (map f vs) k l) put
    ∙ ap (λ (j : ℕ). set (map f vs) j (with_last x (list_for (map f vs) x.access.addr))) word)
