-- Each move of callers between seats keeps what is said of the seats.
use Rattle.std.proofs.Common.{◌≡◌, ◌≢◌, ℕ, zero, suc, ◌+◌, ◌≤◌, true, false, true≢false, List, [], ◌∷◌, ◌++◌, set, refl}
use Rattle.std.proofs.Common.{sym, ap, ◌∙◌, subst, ⊎_elim, arith, eqb, eq-eqb}
use mathlib.Core.Option.{some, some-injective, some-ne-none}
use lib.ListN.{get_elem?}
use Rattle.atomic_table.proofs.Lists.{at_set, at_snoc}
use Rattle.types.specs.declared.event.Entry.{Entry}
use Rattle.types.specs.declared.limits.TheConstants.{SEATS}
use Rattle.shared_memory.specs.Events.{is_of_queue}
use Rattle.shared_memory_on_table.specs.declared.view.Caller.{Caller}
use Rattle.shared_memory_on_table.specs.declared.view.View.{View}
use Rattle.shared_memory_on_table.specs.Callers.{GoesOn, AllGoOn, one_if, total_of, has_name, has_right, named, rights, keepers, fresh_from, seeing}
use Rattle.shared_memory_on_table.specs.Moves.{nobody, others_stay, first_goes, together, longer, met}
use Rattle.shared_memory_on_table.specs.Seating.{Fits, AreSeated}
use Rattle.shared_memory_on_table.proofs.Totals.{one_of_true, total-set, total-two, total-cut, total-union, total_of-append, total_of-parts}
use Rattle.shared_memory_on_table.proofs.GoingOn.{goes_on-self, all_go_on-append, all_go_on-first, all_go_on-others}
use Rattle.shared_memory_on_table.proofs.GoingOn.{all_go_on-push, longer_goes_on, names_once, fresh_go_on}

abbrev L : Type 0
L = List Entry

-- no keeper, so no knowledge of the history
knows_none : (l : L) → false ≡ true → [] ≡ l
knows_none l h = absurd (true≢false (sym h))

-- after a change of one view each fits
pub fits_set : (history : L) (views : List View) (id : ℕ) (w : View)
    → ((j : ℕ) (u : View) → j ≢ id → get_elem? views j ≡ some u → Fits history u) → Fits history w
    → (j : ℕ) (u : View) → get_elem? (set views id w) j ≡ some u → Fits history u
fits_set history views id w others mine j u e =
    ⊎_elim
    (λ (x : (j ≡ id) × (w ≡ u)). subst (λ (y : View). Fits history y) x.1 mine)
    (λ (x : (j ≢ id) × (get_elem? views j ≡ some u)). others j u x.0 x.1)
    (at_set views id j w u e)

-- the first caller goes to a seat of its own
pub seated-split : (most : ℕ) (history : L) (views : List View) (id : ℕ) (v : View) → AreSeated most history views → get_elem? views id ≡ some v
    → AreSeated most history (set views id (others_stay v) ++ first_goes v ∷ [])
seated-split most history views id v r at = let l = others_stay v in let g = first_goes v in let mine = r.each id v at in record {
  few_keepers = let t = total-cut keepers views id v l g at (omega arith) in let o = r.few_keepers in omega arith;
  one_name = λ n. let t = total-cut (named n) views id v l g at (total_of-parts (has_name n) v.callers) in let o = r.one_name n in omega arith;
  one_right = total-cut rights views id v l g at (total_of-parts has_right v.callers) ∙ r.one_right;
  each = λ j u e. ⊎_elim
      (λ (t : get_elem? (set views id l) j ≡ some u). fits_set history views id l (λ i x _. r.each i x)
      (record { knows = mine.knows; begins = all_go_on-others v.callers history mine.begins }) j u t)
      (λ (t : g ≡ u). subst (λ (y : View). Fits history y) t (record { knows = knows_none history; begins = all_go_on-first v.callers history mine.begins }))
      (at_snoc (set views id l) g u j e);
}

-- the callers of one seat come to another
pub seated-join : (most : ℕ) (history : L) (views : List View) (id : ℕ) (v : View) (other : ℕ) (w : View)
    → AreSeated most history views → get_elem? views id ≡ some v → other ≢ id
    → get_elem? (set views id (together v w)) other ≡ some w → AreSeated most history (set (set views id (together v w)) other nobody)
seated-join most history views id v other w r at apart there = let b = together v w in let mine = r.each id v at in
    let theirs : Fits history w =
    ⊎_elim (λ (t : (other ≡ id) × (b ≡ w)). absurd (apart t.0))
    (λ (t : (other ≢ id) × (get_elem? views other ≡ some w)). r.each other w t.1)
    (at_set views id other b w there) in record {
      few_keepers = let t = total-union keepers views id other v w b nobody at there in let o = r.few_keepers in omega arith;
      one_name = λ n. let t = total-union (named n) views id other v w b nobody at there in let o = r.one_name n in
          let a = total_of-append (has_name n) w.callers v.callers in omega arith;
      one_right = let t = total-union rights views id other v w b nobody at there in let o = r.one_right in
          let a = total_of-append has_right w.callers v.callers in omega arith;
      each = fits_set history (set views id b) other nobody
          (λ j u _ e. fits_set history views id b (λ i x _. r.each i x)
          (record {
            knows = mine.knows;
            begins =
                all_go_on-append w.callers v.callers history theirs.begins mine.begins;
          }) j u e)
          (record { knows = knows_none history; begins = tt });
    }

-- one seat's callers see what they may, with the same names and rights
pub seated-change : (most : ℕ) (history : L) (views : List View) (id : ℕ) (v w : View) → AreSeated most history views → get_elem? views id ≡ some v
    → w.keeps ≡ v.keeps → ((n : ℕ) → named n w ≡ named n v) → rights w ≡ rights v → Fits history w → AreSeated most history (set views id w)
seated-change most history views id v w r at keeps names right fits = record {
  few_keepers = let t = total-set keepers views id v w at in let o = r.few_keepers in let k : one_if w.keeps ≡ one_if v.keeps = ap one_if keeps in omega arith;
  one_name = λ n. let t = total-set (named n) views id v w at in let o = r.one_name n in let k = names n in omega arith;
  one_right = let t = total-set rights views id v w at in let o = r.one_right in omega arith;
  each = fits_set history views id w (λ j u _. r.each j u) fits;
}

-- one caller on a seat enters, and no seat but its own is a keeper's
pub seated-push : (most : ℕ) (history : L) (views : List View) (id : ℕ) (v : View) (c : Caller) (e : Entry) (w : View)
    → AreSeated most history views → get_elem? views id ≡ some v
    → v.callers ≡ c ∷ [] → e.thread ≡ c.name → (is_of_queue e.event ≡ true → c.has_queue_right ≡ true) → most ≤ one_if v.keeps
    → w.keeps ≡ v.keeps → (w.keeps ≡ true → w.log ≡ history ++ e ∷ []) → w.callers ≡ seeing (history ++ e ∷ []) c ∷ []
    → AreSeated most (history ++ e ∷ []) (set views id w)
seated-push most history views id v c e w r at is name right only keeps knows callers =
    let now : L = history ++ e ∷ [] in
    let kept : one_if w.keeps ≡ one_if v.keeps = ap one_if keeps in
    let called : one_if (eqb c.name e.thread) ≡ 1 = one_of_true (eqb c.name e.thread) (eq-eqb c.name e.thread (sym name)) in
    let names : (n : ℕ) → named n w ≡ named n v = λ n. ap (total_of (has_name n)) callers ∙ sym (ap (total_of (has_name n)) is) in
    let one_called : named e.thread v ≡ one_if (eqb c.name e.thread) + 0 = ap (total_of (has_name e.thread)) is in
    let held : rights v ≡ one_if c.has_queue_right + 0 = ap (total_of has_right) is in
    let same : rights w ≡ rights v = ap (total_of has_right) callers ∙ sym (ap (total_of has_right) is) in
    record {
      few_keepers = let t = total-set keepers views id v w at in let o = r.few_keepers in omega arith;
      one_name = λ n. let t = total-set (named n) views id v w at in let o = r.one_name n in let k = names n in omega arith;
      one_right = let t = total-set rights views id v w at in let o = r.one_right in omega arith;
      each = fits_set now views id w
          (λ j u apart there.
          let f = r.each j u there in
          let k = total-two keepers views id j v u apart at there in
          let ok = r.few_keepers in
          let n = total-two (named e.thread) views id j v u apart at there in
          let on = r.one_name e.thread in
          let p = total-two rights views id j v u apart at there in
          let op = r.one_right in
          record {
            knows = λ h. absurd (let z = one_of_true u.keeps h in omega arith);
            begins = all_go_on-push u.callers history e (omega arith) (λ t. let q = one_of_true c.has_queue_right (right t) in omega arith) f.begins;
          })
          (record { knows = knows; begins = subst (λ (cs : List Caller). AllGoOn cs now) (sym callers) (goes_on-self (seeing now c), tt) });
    }

-- two callers on one seat meet
pub seated-meet : (most : ℕ) (history : L) (views : List View) (id : ℕ) (v : View) (a b : Caller) → AreSeated most history views → get_elem? views id ≡ some v
    → v ≡ record { keeps = false; log = []; callers = a ∷ b ∷ [] }
    → AreSeated most history (set views id (met v)) × GoesOn a (longer a.seen b.seen) × GoesOn b (longer a.seen b.seen)
seated-meet most history views id v a b r at is =
    let two : View = record { keeps = false; log = []; callers = a ∷ b ∷ [] } in
    let there : get_elem? views id ≡ some two = at ∙ ap some is in
    let mine = (r.each id two there).begins in
    let g = longer_goes_on a b history mine.0 mine.1.0 in (
      subst (λ (y : View). AreSeated most history (set views id (met y))) (sym is)
          (seated-change most history views id two (met two) r there refl (λ n. refl) (omega arith)
          (record { knows = knows_none history; begins = (g.2, (g.3, tt)) })),
      g.0,
      g.1,
    )

-- at first 65 callers stand on one seat
pub seated-open : (most : ℕ) (v : View) → one_if v.keeps ≤ most → v.log ≡ [] → v.callers ≡ fresh_from SEATS 0 → AreSeated most [] (v ∷ [])
seated-open most v few log callers = record {
  few_keepers = omega arith;
  one_name = λ n. let r = names_once SEATS 0 n in let k = ap (total_of (has_name n)) callers in omega arith;
  one_right = let k : rights v ≡ 1 = ap (total_of has_right) callers in omega arith;
  each = at_one;
}
  where
    at_one : (id : ℕ) (u : View) → get_elem? (v ∷ []) id ≡ some u → Fits [] u
    at_one zero u e =
        subst (λ (y : View). Fits [] y) (some-injective _ _ e)
        (record {
          knows = λ _. log;
          begins = subst (λ (cs : List Caller). AllGoOn cs []) (sym callers)
              (fresh_go_on SEATS 0);
        })
    at_one (suc id) u e = absurd (some-ne-none u (sym e))
