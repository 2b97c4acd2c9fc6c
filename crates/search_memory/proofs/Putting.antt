-- Changes at their places among others.
use Rattle.std.specs.Prelude.{if◌then◌else◌}
use Rattle.std.proofs.Common.{◌≡◌, ◌≢◌, ℕ, ◌+◌, ◌-◌, ◌*◌, ◌%◌, ◌<◌, ◌≤◌, ◌++◌, ◌==◌, Bool, true, false, List, [], ◌∷◌, length, take, fold, get_or, set, replicate, filter}
use Rattle.std.proofs.Common.{refl, sym, ◌∙◌, ap, subst, arith, inl, inr}
use Rattle.std.proofs.lemmas.Bool.{cases_lt, cond_both, cond-true, cond-false, lt-ltb, le-ltb, ltb-true, le-leb, lt-leb, eqb-true}
use Rattle.std.proofs.lemmas.List.{length-set, set_comm, set-set, set-get_or, get_or-set_same, get_or-set_other, take_more, length-append}
use Rattle.std.proofs.lemmas.List.{length-take, length-replicate, get_or_append_left, get_or-append_right, get_or-take, get_or-replicate, get_or_past}
use Rattle.types.specs.declared.limits.TheConstants.{PAGE_SIZE, MOST_PAGES}
use Rattle.shared_memory_sequential.specs.Opening.{IsSized}
use Rattle.search_memory.specs.declared.beside.ChangedByte.{ChangedByte}
use Rattle.search_memory.specs.declared.beside.Changes.{Changes}
use Rattle.search_memory.specs.Memories.{with_change, padded, changed_bytes, change_to, memory_of, is_below, is_since}
use Rattle.search_memory.proofs.Differing.{fold_more}

-- changes at other addresses may come before or behind
commute : (bytes : List ℕ) (at b : ℕ) (p : ChangedByte → Bool) → ((c : ChangedByte) → p c ≡ true → at ≢ c.at) → (cs : List ChangedByte)
    → fold with_change (set bytes at b) (filter p cs) ≡ set (fold with_change bytes (filter p cs)) at b
commute bytes at b p apart [] = refl
commute bytes at b p apart (c ∷ cs) =
    cond_both (p c) (c ∷ filter p cs) (filter p cs) (λ w. fold with_change (set bytes at b) w ≡ set (fold with_change bytes w) at b)
    (λ is. ap (λ bs. fold with_change bs (filter p cs)) (set_comm bytes at c.at b c.byte (apart c is))
    ∙ commute (with_change bytes c) at b p apart cs) (λ isnt. commute bytes at b p apart cs)

below_apart : (at k : ℕ) → k ≤ at → (c : ChangedByte) → is_below k c ≡ true → at ≢ c.at
below_apart at k le c is same = let lt : c.at < k = ltb-true c.at k is in absurd (omega (arith, lt, same, le))

fold-append : (bytes : List ℕ) (xs ys : List ChangedByte) → fold with_change bytes (xs ++ ys) ≡ fold with_change (fold with_change bytes xs) ys
fold-append bytes [] ys = refl
fold-append bytes (x ∷ xs) ys = fold-append (with_change bytes x) xs ys

-- changes at lower addresses come first, and the others last
pub parted : (bytes : List ℕ) (at : ℕ) (cs : List ChangedByte) → fold with_change bytes (filter (is_below at) cs ++ filter (is_since at) cs)
    ≡ fold with_change bytes cs
parted bytes at [] = refl
parted bytes at (c ∷ cs) =
    let low = filter (is_below at) cs in
    let high = filter (is_since at) cs in
    let rest = parted (with_change bytes c) at cs in
    elim (cases_lt c.at at) [
      | inl lt ↦ ap (λ w. fold with_change bytes (w ++ filter (is_since at) (c ∷ cs))) (cond-true (is_below at c) (c ∷ low) low (lt-ltb c.at at lt))
          ∙ (ap (λ w. fold with_change (with_change bytes c) (low ++ w)) (cond-false (is_since at c) (c ∷ high) high (lt-leb at c.at lt)) ∙ rest)
      | inr le ↦ ap (λ w. fold with_change bytes (w ++ filter (is_since at) (c ∷ cs))) (cond-false (is_below at c) (c ∷ low) low (le-ltb c.at at le))
          ∙ (ap (λ w. fold with_change bytes (low ++ w)) (cond-true (is_since at c) (c ∷ high) high (le-leb at c.at le))
          ∙ (fold-append bytes low (c ∷ high)
          ∙ (ap (λ bs. fold with_change bs high) (sym (commute bytes c.at c.byte (is_below at) (below_apart c.at at le) cs))
          ∙ (sym (fold-append (with_change bytes c) low high) ∙ rest))))
    ]

-- a change at lower addresses than all others comes first
first_there : (bytes : List ℕ) (at b : ℕ) (cs : List ChangedByte) → fold with_change (set bytes at b) (filter (is_since (at + 1)) cs)
    ≡ set (fold with_change bytes (filter (is_since at) cs)) at b
first_there bytes at b [] = refl
first_there bytes at b (c ∷ cs) =
    let all = filter (is_since at) cs in
    let others = filter (is_since (at + 1)) cs in
    let put = λ (w : List ChangedByte). fold with_change (set bytes at b) w in
    let before = λ (w : List ChangedByte). set (fold with_change bytes w) at b in
    let rest = first_there (with_change bytes c) at b cs in
    elim (cases_lt c.at at) [
      | inl lt ↦ ap put (cond-false (is_since (at + 1) c) (c ∷ others) others (lt-leb (at + 1) c.at (omega (arith, lt))))
          ∙ (first_there bytes at b cs ∙ ap before (sym (cond-false (is_since at c) (c ∷ all) all (lt-leb at c.at lt))))
      | inr le ↦ elim (cases_lt at c.at) [
        | inl gt ↦ ap put (cond-true (is_since (at + 1) c) (c ∷ others) others (le-leb (at + 1) c.at (omega (arith, gt))))
            ∙ (ap (λ bs. fold with_change bs others) (set_comm bytes at c.at b c.byte (λ e. absurd (omega (arith, e, gt))))
            ∙ (rest ∙ ap before (sym (cond-true (is_since at c) (c ∷ all) all (le-leb at c.at le)))))
        | inr ge ↦ ap put (cond-false (is_since (at + 1) c) (c ∷ others) others (lt-leb (at + 1) c.at (omega (arith, ge))))
            ∙ (ap (λ bs. fold with_change bs others) (sym (ap (λ k. set (set bytes k c.byte) at b) (omega (arith, le, ge)) ∙ set-set bytes at c.byte b))
            ∙ (rest ∙ ap before (sym (cond-true (is_since at c) (c ∷ all) all (le-leb at c.at le)))))
      ]
    ]

-- changes at lower addresses all
abbrev pub AreBelow : ℕ → List ChangedByte → Type 0
AreBelow at [] = Unit {0}
AreBelow at (c ∷ cs) = (c.at < at) × AreBelow at cs

pub below : (at : ℕ) (cs : List ChangedByte) → AreBelow at (filter (is_below at) cs)
below at [] = tt
below at (c ∷ cs) = elim (cases_lt c.at at) [
  | inl lt ↦ subst (AreBelow at) (sym (cond-true (is_below at c) (c ∷ filter (is_below at) cs) (filter (is_below at) cs) (lt-ltb c.at at lt)))
      (lt, below at cs)
  | inr le ↦ subst (AreBelow at) (sym (cond-false (is_below at c) (c ∷ filter (is_below at) cs) (filter (is_below at) cs) (le-ltb c.at at le)))
      (below at cs)
]

below_next : (at : ℕ) (xs ys : List ChangedByte) → AreBelow at xs → AreBelow (at + 1) ys → AreBelow (at + 1) (xs ++ ys)
below_next at [] ys h k = k
below_next at (x ∷ xs) ys h k = (omega (arith, h.0), below_next at xs ys h.1 k)

-- they leave a byte
leave : (bytes : List ℕ) (at : ℕ) (cs : List ChangedByte) → AreBelow at cs → get_or (fold with_change bytes cs) at 0 ≡ get_or bytes at 0
leave bytes at [] h = refl
leave bytes at (c ∷ cs) h =
    leave (with_change bytes c) at cs h.1 ∙ get_or-set_other bytes c.at at c.byte 0 (λ e. absurd (omega (arith, e, h.0)))

-- ---- a byte of the memory

pub length_changed : (bytes : List ℕ) (cs : List ChangedByte) → length (fold with_change bytes cs) ≡ length bytes
length_changed bytes [] = refl
length_changed bytes (c ∷ cs) = length_changed (with_change bytes c) cs ∙ length-set bytes c.at c.byte

pub length_padded : (opening : List ℕ) (len : ℕ) → length (padded opening len) ≡ len
length_padded opening len =
    omega (
      arith,
      length-append (take len opening) (replicate (len - length opening) 0),
      length-take len opening,
      length-replicate {A = ℕ} (len - length opening) 0,
    )

module _ (opening : List ℕ) (len at : ℕ) (low : at < len) where
  pub opened_at : get_or opening at 0 ≡ get_or (padded opening len) at 0
  opened_at =
      let few = length-take len opening in
      elim (cases_lt at (length opening)) [
        | inl lt ↦ sym (get_or_append_left (take len opening) (replicate (len - length opening) 0) 0 at (omega (arith, few, lt, low)) ∙
            get_or-take len opening at 0 low)
        | inr le ↦ get_or_past opening at 0 le
            ∙ sym (get_or-append_right (take len opening) (replicate (len - length opening) 0) (length opening) at 0 (omega (arith, few, le, low)) le
            ∙ get_or-replicate {A = ℕ} (len - length opening) (at - length opening) 0 0 (omega (arith, le, low)))
      ]

  module _ (changes : List ChangedByte) (i : ℕ) (d : ChangedByte) (lt : i < length changes) where
    one_more : changed_bytes opening len (take (i + 1) changes) ≡ with_change (changed_bytes opening len (take i changes)) (get_or changes i d)
    one_more = ap (fold with_change (padded opening len)) (take_more changes i d lt) ∙ fold_more with_change (padded opening len) (take i changes)
        (get_or changes i d)

    pub byte_here : ChangedByte.at (get_or changes i d) ≡ at → ChangedByte.byte (get_or changes i d) ≡ get_or
        (changed_bytes opening len (take (i + 1) changes)) at 0
    byte_here e =
        let bytes = changed_bytes opening len (take i changes) in
        let long : length bytes ≡ len = length_changed (padded opening len) (take i changes) ∙ length_padded opening len in
        let byte = ChangedByte.byte (get_or changes i d) in
        sym (ap (λ bs. get_or bs at 0) one_more ∙ (ap (λ k. get_or (set bytes k byte) at 0) e ∙ get_or-set_same bytes at byte 0 (omega (arith, low, long))))

    pub byte_elsewhere : ChangedByte.at (get_or changes i d) ≢ at
        → get_or (changed_bytes opening len (take i changes)) at 0 ≡ get_or (changed_bytes opening len (take (i + 1) changes)) at 0
    byte_elsewhere apart =
        let bytes = changed_bytes opening len (take i changes) in
        sym (ap (λ bs. get_or bs at 0) one_more
        ∙ get_or-set_other bytes (ChangedByte.at (get_or changes i d)) at (ChangedByte.byte (get_or changes i d)) 0 (λ e. apart (sym e)))

-- a byte at its place behind the changes at lower addresses, and before the others
module _ (opening : List ℕ) (len at b : ℕ) (low : at < len) (cs others : List ChangedByte) (are : AreBelow at cs) where
  abbrev first : List ℕ
  first = padded opening len

  abbrev changed : List ℕ
  changed = fold with_change first cs

  one_put : fold with_change changed (change_to opening at b) ≡ set changed at b
  one_put = by (b == get_or opening at 0) refl
    where
      by : (t : Bool) → (b == get_or opening at 0) ≡ t
          → fold with_change changed (if t then [] else record { at = at; byte = b } ∷ []) ≡ set changed at b
      by true is =
          sym (ap (λ n. set changed at n) (eqb-true b (get_or opening at 0) is ∙ (opened_at opening len at low ∙ sym (leave first at cs are)))
          ∙ set-get_or changed at 0)
      by false is = refl

  pub put_there : changed_bytes opening len ((cs ++ change_to opening at b) ++ filter (is_since (at + 1)) others)
      ≡ set (changed_bytes opening len (cs ++ filter (is_since at) others)) at b
  put_there =
      fold-append first (cs ++ change_to opening at b) (filter (is_since (at + 1)) others)
      ∙ (ap (λ bs. fold with_change bs (filter (is_since (at + 1)) others)) (fold-append first cs (change_to opening at b) ∙ one_put)
      ∙ (first_there changed at b others
      ∙ ap (λ bs. set bs at b) (sym (fold-append first cs (filter (is_since at) others)))))

  pub put_below : AreBelow (at + 1) (cs ++ change_to opening at b)
  put_below = below_next at cs (change_to opening at b) are (by (b == get_or opening at 0))
    where
      by : (t : Bool) → AreBelow (at + 1) (if t then [] else record { at = at; byte = b } ∷ [])
      by true = tt
      by false = (omega arith, tt)

pub length_memory : (opening : List ℕ) (c : Changes) → length (memory_of opening c).bytes ≡ c.len
length_memory opening c = length_changed (padded opening c.len) c.changes.items ∙ length_padded opening c.len

pub length_bytes : (opening : List ℕ) (len : ℕ) (cs : List ChangedByte) → length (changed_bytes opening len cs) ≡ len
length_bytes opening len cs = length_changed (padded opening len) cs ∙ length_padded opening len

-- memories of so many bytes and pages are sized alike
pub sized_alike : (opening : List ℕ) (c d : Changes) → c.len ≡ d.len → c.max ≡ d.max → IsSized (memory_of opening d) → IsSized (memory_of opening c)
sized_alike opening c d len max sized =
    let long : length (memory_of opening c).bytes ≡ length (memory_of opening d).bytes = length_memory opening c ∙ (len ∙ sym (length_memory opening d)) in
    record {
      whole = ap (λ n. n % PAGE_SIZE) long ∙ sized.whole;
      within = subst (λ n. length (memory_of opening c).bytes ≤ PAGE_SIZE * n) (sym max) (subst (λ n. n ≤ PAGE_SIZE * d.max) (sym long) sized.within);
      small = subst (λ n. n ≤ MOST_PAGES) (sym max) sized.small;
    }
