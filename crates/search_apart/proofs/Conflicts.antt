-- Acts that conflict, and what a change of the memory touches.
use Rattle.std.proofs.Common.{◌≡◌, ℕ, ◌+◌, ◌==◌, inl, inr, Bool, true, false, true≢false, refl, sym, ap, ◌∙◌, subst}
use Rattle.std.specs.Prelude.{◌&&◌, ◌||◌, nat_lt}
use Rattle.std.proofs.lemmas.Bool.{and_cases, and_from, or_parts, or_left, or_right, both_ways, eqb-true, eq-eqb, cases_Bool, false_from_ne_true}
use Rattle.search_settled.specs.declared.access.NextAccess.{NextAccess}
use Rattle.search_apart.specs.Acts.{Deed, Nothing, Grows, Waits, Notifies, Spawns, Sleeps, Act, have_common}
use Rattle.search_apart.specs.Acts.{accesses_conflict, grows, deeds_conflict, acts_conflict}
use Rattle.search_apart.proofs.Changes.{Change, Stays, Writes, Longer, IsBy, touches, HasSameBytes}

-- ---- Either way

and-swap : (x y : Bool) → (x && y) ≡ (y && x)
and-swap true true = refl
and-swap true false = refl
and-swap false true = refl
and-swap false false = refl

or-swap : (x y : Bool) → (x || y) ≡ (y || x)
or-swap true true = refl
or-swap true false = refl
or-swap false true = refl
or-swap false false = refl

equal-swap : (a b : ℕ) → (a == b) ≡ (b == a)
equal-swap a b = elim (cases_Bool (a == b)) [
  | inl is ↦ is ∙ sym (eq-eqb b a (sym (eqb-true a b is)))
  | inr isnt ↦ isnt ∙ sym (false_from_ne_true (b == a) (λ e. both_ways (a == b) isnt (eq-eqb a b (sym (eqb-true b a e)))))
]

pub common-swap : (a w b v : ℕ) → have_common a w b v ≡ have_common b v a w
common-swap a w b v =
    ap (λ t. t && (nat_lt a (b + v) && nat_lt b (a + w))) (and-swap (nat_lt 0 w) (nat_lt 0 v))
    ∙ ap (λ t. (nat_lt 0 v && nat_lt 0 w) && t) (and-swap (nat_lt a (b + v)) (nat_lt b (a + w)))

deeds-swap : (d e : Deed) → deeds_conflict d e ≡ deeds_conflict e d
deeds-swap Nothing Nothing = refl
deeds-swap Nothing Grows = refl
deeds-swap Nothing (Waits b) = refl
deeds-swap Nothing (Notifies b) = refl
deeds-swap Nothing Spawns = refl
deeds-swap Nothing (Sleeps b) = refl
deeds-swap Grows Nothing = refl
deeds-swap Grows Grows = refl
deeds-swap Grows (Waits b) = refl
deeds-swap Grows (Notifies b) = refl
deeds-swap Grows Spawns = refl
deeds-swap Grows (Sleeps b) = refl
deeds-swap (Waits a) Nothing = refl
deeds-swap (Waits a) Grows = refl
deeds-swap (Waits a) (Waits b) = equal-swap a b
deeds-swap (Waits a) (Notifies b) = equal-swap a b
deeds-swap (Waits a) Spawns = refl
deeds-swap (Waits a) (Sleeps b) = refl
deeds-swap (Notifies a) Nothing = refl
deeds-swap (Notifies a) Grows = refl
deeds-swap (Notifies a) (Waits b) = equal-swap a b
deeds-swap (Notifies a) (Notifies b) = equal-swap a b
deeds-swap (Notifies a) Spawns = refl
deeds-swap (Notifies a) (Sleeps b) = equal-swap a b
deeds-swap Spawns Nothing = refl
deeds-swap Spawns Grows = refl
deeds-swap Spawns (Waits b) = refl
deeds-swap Spawns (Notifies b) = refl
deeds-swap Spawns Spawns = refl
deeds-swap Spawns (Sleeps b) = refl
deeds-swap (Sleeps a) Nothing = refl
deeds-swap (Sleeps a) Grows = refl
deeds-swap (Sleeps a) (Waits b) = refl
deeds-swap (Sleeps a) (Notifies b) = equal-swap a b
deeds-swap (Sleeps a) Spawns = refl
deeds-swap (Sleeps a) (Sleeps b) = refl

accesses-swap : (a b : NextAccess) → accesses_conflict a b ≡ accesses_conflict b a
accesses-swap a b =
    ap (λ t. t && (a.writes || b.writes)) (common-swap a.addr a.width b.addr b.width)
    ∙ ap (λ t. have_common b.addr b.width a.addr a.width && t) (or-swap a.writes b.writes)

pub acts-swap : (a b : Act) → acts_conflict a b ≡ acts_conflict b a
acts-swap a b =
    let looking = (grows a.deed && b.looks) || (grows b.deed && a.looks) in
    ap (λ t. (t || deeds_conflict a.deed b.deed) || looking) (accesses-swap a.access b.access)
    ∙ (ap (λ t. (accesses_conflict b.access a.access || t) || looking) (deeds-swap a.deed b.deed)
    ∙ ap (λ t. (accesses_conflict b.access a.access || deeds_conflict b.deed a.deed) || t) (or-swap (grows a.deed && b.looks) (grows b.deed && a.looks)))

-- ---- What acts that don't conflict have

pub record AreSpared (a b : Act) : Type 0 where
  pub accesses : accesses_conflict a.access b.access ≡ false
  pub deeds : deeds_conflict a.deed b.deed ≡ false
  pub looking : (grows b.deed && a.looks) ≡ false

pub spared-of : (a b : Act) → acts_conflict a b ≡ false → AreSpared a b
spared-of a b h =
    let parts = or_parts (accesses_conflict a.access b.access || deeds_conflict a.deed b.deed) ((grows a.deed && b.looks) || (grows b.deed && a.looks)) h in
    let first = or_parts (accesses_conflict a.access b.access) (deeds_conflict a.deed b.deed) parts.0 in
    let second = or_parts (grows a.deed && b.looks) (grows b.deed && a.looks) parts.1 in
    record { accesses = first.0; deeds = first.1; looking = second.1 }

module _ (a b : Act) where
  -- an act that doesn't conflict touches nothing of the change
  pub touches-none : (c : Change) → IsBy b.access b.deed c → acts_conflict a b ≡ false → touches a.access a.looks c ≡ false
  touches-none Stays by h = refl
  touches-none (Writes addr width n) by h =
      let common : have_common a.access.addr a.access.width b.access.addr b.access.width ≡ false =
      (elim (and_cases (have_common a.access.addr a.access.width b.access.addr b.access.width) (a.access.writes || b.access.writes)
      (spared-of a b h).accesses) [
        | inl none ↦ none
        | inr none ↦ absurd (both_ways (a.access.writes || b.access.writes) none (or_right a.access.writes b.access.writes by.2))
      ]) in
      subst (λ w. have_common a.access.addr a.access.width addr w ≡ false) by.1
      (subst (λ i. have_common a.access.addr a.access.width i b.access.width ≡ false) by.0 common)
  touches-none (Longer more) by h = ap (λ (d : Deed). grows d && a.looks) (sym by) ∙ (spared-of a b h).looking

  -- what the change touches conflicts with the act that makes it, also behind it
  pub conflict-then : (z : Act) (c : Change) → IsBy b.access b.deed c → z.looks ≡ a.looks
      → ((addr width n : ℕ) → c ≡ Writes addr width n → HasSameBytes z.access a.access)
      → touches a.access a.looks c ≡ true → acts_conflict b z ≡ true
  conflict-then z Stays by same_looks same h = absurd (true≢false (sym h))
  conflict-then z (Writes addr width n) by same_looks same h =
      let bytes = same addr width n refl in
      let at_it : have_common a.access.addr a.access.width b.access.addr b.access.width ≡ true =
      subst (λ w. have_common a.access.addr a.access.width b.access.addr w ≡ true) (sym by.1)
      (subst (λ i. have_common a.access.addr a.access.width i width ≡ true) (sym by.0) h) in
      let here : have_common z.access.addr z.access.width b.access.addr b.access.width ≡ true =
      subst (λ w. have_common z.access.addr w b.access.addr b.access.width ≡ true) (sym bytes.width)
      (subst (λ i. have_common i a.access.width b.access.addr b.access.width ≡ true) (sym bytes.addr) at_it) in
      let access : accesses_conflict b.access z.access ≡ true =
      and_from (have_common b.access.addr b.access.width z.access.addr z.access.width) (b.access.writes || z.access.writes)
      (common-swap b.access.addr b.access.width z.access.addr z.access.width ∙ here)
      (or_left b.access.writes z.access.writes by.2) in
      or_left (accesses_conflict b.access z.access || deeds_conflict b.deed z.deed) ((grows b.deed && z.looks) || (grows z.deed && b.looks))
      (or_left (accesses_conflict b.access z.access) (deeds_conflict b.deed z.deed) access)
  conflict-then z (Longer more) by same_looks same h =
      or_right (accesses_conflict b.access z.access || deeds_conflict b.deed z.deed) ((grows b.deed && z.looks) || (grows z.deed && b.looks))
      (or_left (grows b.deed && z.looks) (grows z.deed && b.looks) (ap (λ (q : Deed). grows q && z.looks) by ∙ (same_looks ∙ h)))
