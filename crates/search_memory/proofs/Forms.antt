-- What differs has one form.
use Rattle.std.specs.Prelude.{◌==◌, if◌then◌else◌, Bool, true, false}
use Rattle.std.proofs.Common.{◌≡◌, ◌≢◌, ℕ, suc, ◌+◌, ◌<◌, ◌≤◌, ◌++◌, List, [], ◌∷◌, length, fold, get_or, filter}
use Rattle.std.proofs.Common.{refl, sym, ◌∙◌, ap, subst, arith, inl, inr}
use Rattle.std.proofs.lemmas.Bool.{cases_lt, cond-true, cond-false, lt-ltb, le-ltb, le-leb, lt-leb, eqb-false}
use Rattle.std.proofs.lemmas.List.{append-nil, length-set, get_or-set_same, get_or-set_other}
use Rattle.search_memory.specs.declared.beside.ChangedByte.{ChangedByte}
use Rattle.search_memory.specs.declared.beside.Changes.{Changes}
use Rattle.search_memory.specs.Memories.{memory_of, padded, with_change, change_to, is_below, is_since, IsDifference, AreDifferences, HasDifferences}
use Rattle.search_memory.proofs.Putting.{length_memory, length_padded, opened_at}

-- one change within other bounds
moved : (opening : List ℕ) (from end low high : ℕ) (c : ChangedByte) → low ≤ c.at → c.at < high → IsDifference opening from end c →
    IsDifference opening low high c
moved opening from end low high c since before d = record { since = since; before = before; other = d.other }

-- from a lower address on
pub earlier : (opening : List ℕ) (low from end : ℕ) (cs : List ChangedByte) → low ≤ from → AreDifferences opening from end cs
    → AreDifferences opening low end cs
earlier opening low from end [] le ds = tt
earlier opening low from end (c ∷ cs) le ds = (moved opening from end low end c (omega (arith, le, (ds.0).since)) (ds.0).before ds.0, ds.1)

-- those below an address
pub lower : (opening : List ℕ) (from end at : ℕ) (cs : List ChangedByte) → AreDifferences opening from end cs
    → AreDifferences opening from at (filter (is_below at) cs)
lower opening from end at [] ds = tt
lower opening from end at (c ∷ cs) ds = elim (cases_lt c.at at) [
  | inl lt ↦ subst (AreDifferences opening from at)
      (sym (cond-true (is_below at c) (c ∷ filter (is_below at) cs) (filter (is_below at) cs) (lt-ltb c.at at lt)))
      (moved opening from end from at c (ds.0).since lt ds.0, lower opening (suc c.at) end at cs ds.1)
  | inr le ↦ subst (AreDifferences opening from at)
      (sym (cond-false (is_below at c) (c ∷ filter (is_below at) cs) (filter (is_below at) cs) (le-ltb c.at at le)))
      (earlier opening from (suc c.at) at (filter (is_below at) cs) (omega (arith, (ds.0).since)) (lower opening (suc c.at) end at cs ds.1))
]

-- and the others
pub since : (opening : List ℕ) (from end at : ℕ) (cs : List ChangedByte) → AreDifferences opening from end cs
    → AreDifferences opening at end (filter (is_since at) cs)
since opening from end at [] ds = tt
since opening from end at (c ∷ cs) ds = elim (cases_lt c.at at) [
  | inl lt ↦ subst (AreDifferences opening at end)
      (sym (cond-false (is_since at c) (c ∷ filter (is_since at) cs) (filter (is_since at) cs) (lt-leb at c.at lt)))
      (since opening (suc c.at) end at cs ds.1)
  | inr le ↦ subst (AreDifferences opening at end)
      (sym (cond-true (is_since at c) (c ∷ filter (is_since at) cs) (filter (is_since at) cs) (le-leb at c.at le)))
      (moved opening from end at end c le (ds.0).before ds.0, all_since (suc c.at) cs (omega (arith, le)) ds.1)
]
  where
    -- all that comes behind is one of them
    all_since : (from : ℕ) (ds : List ChangedByte) → at ≤ from → AreDifferences opening from end ds → AreDifferences opening from end (filter (is_since at) ds)
    all_since from [] le h = tt
    all_since from (d ∷ ds) le h =
        subst (AreDifferences opening from end) (sym (cond-true (is_since at d) (d ∷ filter (is_since at) ds) (filter (is_since at) ds)
        (le-leb at d.at (omega (arith, le, (h.0).since)))))
        (h.0, all_since (suc d.at) ds (omega (arith, le, (h.0).since)) h.1)

-- some, and others behind them
pub behind : (opening : List ℕ) (from at end : ℕ) (xs ys : List ChangedByte) → from ≤ at → at ≤ end → AreDifferences opening from at xs
    → AreDifferences opening at end ys → AreDifferences opening from end (xs ++ ys)
behind opening from at end [] ys low high xs_are ys_are = earlier opening from at end ys low ys_are
behind opening from at end (x ∷ xs) ys low high xs_are ys_are = (
  moved opening from at from end x (xs_are.0).since (omega (arith, high, (xs_are.0).before)) xs_are.0,
  behind opening (suc x.at) at end xs ys (omega (arith, (xs_are.0).before)) high xs_are.1 ys_are,
)

pub only : (opening : List ℕ) (at byte : ℕ) → byte ≢ get_or opening at 0 → AreDifferences opening at (suc at) (record { at = at; byte = byte } ∷ [])
only opening at byte other = (record { since = omega arith; before = omega arith; other = other }, tt)

-- and before a higher one
pub wider : (opening : List ℕ) (from end high : ℕ) (cs : List ChangedByte) → end ≤ high → AreDifferences opening from end cs
    → AreDifferences opening from high cs
wider opening from end high [] le ds = tt
wider opening from end high (c ∷ cs) le ds =
    (moved opening from end from high c (ds.0).since (omega (arith, le, (ds.0).before)) ds.0, wider opening (suc c.at) end high cs le ds.1)

-- one more behind all
pub pushed : (opening : List ℕ) (at byte : ℕ) (cs : List ChangedByte) → AreDifferences opening 0 at cs → byte ≢ get_or opening at 0
    → AreDifferences opening 0 (at + 1) (cs ++ record { at = at; byte = byte } ∷ [])
pushed opening at byte cs ds other =
    wider opening 0 (suc at) (at + 1) (cs ++ record { at = at; byte = byte } ∷ []) (omega arith)
    (behind opening 0 at (suc at) cs (record { at = at; byte = byte } ∷ []) (omega arith) (omega arith) ds (only opening at byte other))

-- and what changes the byte to another
pub pushed_byte : (opening : List ℕ) (at byte : ℕ) (cs : List ChangedByte) → AreDifferences opening 0 at cs
    → AreDifferences opening 0 (at + 1) (cs ++ change_to opening at byte)
pushed_byte opening at byte cs ds = by (byte == get_or opening at 0) refl
  where
    by : (t : Bool) → (byte == get_or opening at 0) ≡ t
        → AreDifferences opening 0 (at + 1) (cs ++ (if t then [] else record { at = at; byte = byte } ∷ []))
    by true is = subst (AreDifferences opening 0 (at + 1)) (sym (append-nil cs)) (wider opening 0 at (at + 1) cs (omega arith) ds)
    by false is = pushed opening at byte cs ds (eqb-false byte (get_or opening at 0) is)

-- beside bytes that are the same below the end
pub beside_alike : (opening first : List ℕ) (from end : ℕ) (cs : List ChangedByte) → ((k : ℕ) → k < end → get_or opening k 0 ≡ get_or first k 0)
    → AreDifferences first from end cs → AreDifferences opening from end cs
beside_alike opening first from end [] same ds = tt
beside_alike opening first from end (c ∷ cs) same ds = (
  record { since = (ds.0).since; before = (ds.0).before; other = λ e. (ds.0).other (e ∙ same c.at (ds.0).before) },
  beside_alike opening first (suc c.at) end cs same ds.1,
)

-- ---- one form

-- changes at higher addresses leave a byte
stays : (opening bytes : List ℕ) (from end : ℕ) (cs : List ChangedByte) → AreDifferences opening from end cs → (k : ℕ) → k < from
    → get_or (fold with_change bytes cs) k 0 ≡ get_or bytes k 0
stays opening bytes from end [] ds k lt = refl
stays opening bytes from end (c ∷ cs) ds k lt =
    stays opening (with_change bytes c) (suc c.at) end cs ds.1 k (omega (arith, lt, (ds.0).since))
    ∙ get_or-set_other bytes c.at k c.byte 0 (λ e. absurd (omega (arith, e, lt, (ds.0).since)))

-- the first one is there
there : (opening bytes : List ℕ) (from end : ℕ) (c : ChangedByte) (cs : List ChangedByte) → length bytes ≡ end → AreDifferences opening from end (c ∷ cs)
    → get_or (fold with_change bytes (c ∷ cs)) c.at 0 ≡ c.byte
there opening bytes from end c cs long ds =
    stays opening (with_change bytes c) (suc c.at) end cs ds.1 c.at (omega arith)
    ∙ get_or-set_same bytes c.at c.byte 0 (omega (arith, long, (ds.0).before))

abbrev Opened : List ℕ → List ℕ → ℕ → ℕ → Type 0
Opened opening bytes from end = (k : ℕ) → from ≤ k → k < end → get_or bytes k 0 ≡ get_or opening k 0

-- none at an address at which there is one
none_there : (opening bytes : List ℕ) (from end : ℕ) (c : ChangedByte) (cs ys : List ChangedByte) → length bytes ≡ end → Opened opening bytes from end
    → AreDifferences opening from end (c ∷ cs) → AreDifferences opening (suc c.at) end ys → fold with_change bytes (c ∷ cs) ≡ fold with_change bytes ys → ⊥
none_there opening bytes from end c cs ys long opened ds es same =
    (ds.0).other (sym (there opening bytes from end c cs long ds) ∙ ap (λ bs. get_or bs c.at 0) same ∙ stays opening bytes (suc c.at) end ys es c.at
    (omega arith)
    ∙ opened c.at (ds.0).since (ds.0).before)

one_list : (opening bytes : List ℕ) (from end : ℕ) (xs ys : List ChangedByte) → length bytes ≡ end → Opened opening bytes from end
    → AreDifferences opening from end xs → AreDifferences opening from end ys → fold with_change bytes xs ≡ fold with_change bytes ys → xs ≡ ys
one_list opening bytes from end [] [] long opened ds es same = refl
one_list opening bytes from end [] (y ∷ ys) long opened ds es same = absurd (none_there opening bytes from end y ys [] long opened es tt (sym same))
one_list opening bytes from end (x ∷ xs) [] long opened ds es same = absurd (none_there opening bytes from end x xs [] long opened ds tt same)
one_list opening bytes from end (x ∷ xs) (y ∷ ys) long opened ds es same = elim (cases_lt x.at y.at) [
  | inl lt ↦ absurd (none_there opening bytes from end x xs (y ∷ ys) long opened ds (
    moved opening from end (suc x.at) end y (omega (arith, lt))
        (es.0).before es.0,
    es.1,
  ) same)
  | inr le ↦ elim (cases_lt y.at x.at) [
    | inl gt ↦ absurd (none_there opening bytes from end y ys (x ∷ xs) long opened es (
      moved opening from end (suc y.at) end x (omega (arith, gt))
          (ds.0).before ds.0,
      ds.1,
    ) (sym same))
    | inr ge ↦ at_one (omega (arith, le, ge)) (λ bytes from. one_list opening bytes from end xs ys)
  ]
]
  where
    at_one : x.at ≡ y.at
        → ((bytes : List ℕ) (from : ℕ) → length bytes ≡ end → Opened opening bytes from end → AreDifferences opening from end xs
        → AreDifferences opening from end ys → fold with_change bytes xs ≡ fold with_change bytes ys → xs ≡ ys)
        → x ∷ xs ≡ y ∷ ys
    at_one e behind =
        let byte : x.byte ≡ y.byte = sym (there opening bytes from end x xs long ds) ∙ ap (λ bs. get_or bs x.at 0) same
        ∙ ap (λ k. get_or (fold with_change bytes (y ∷ ys)) k 0) e ∙ there opening bytes from end y ys long es in
        let first : x ≡ y = λ i. record { at = e i; byte = byte i } in
        let still : Opened opening (with_change bytes x) (suc x.at) end =
        λ k low high. get_or-set_other bytes x.at k x.byte 0 (λ q. absurd (omega (arith, q, low))) ∙ opened k (omega (arith, low, (ds.0).since)) high in
        let rest = behind (with_change bytes x) (suc x.at) (length-set bytes x.at x.byte ∙ long) still ds.1
        (subst (λ (c : ChangedByte). AreDifferences opening (suc c.at) end ys) (sym first) es.1)
        (same ∙ ap (λ (c : ChangedByte). fold with_change (with_change bytes c) ys) (sym first)) in
        λ i. first i ∷ rest i

-- of one memory
pub record AreAlike (x y : Changes) : Type 0 where
  pub len : x.len ≡ y.len
  pub max : x.max ≡ y.max
  pub changes : x.changes.items ≡ y.changes.items

pub one_form : (opening : List ℕ) (x y : Changes) → HasDifferences opening x → HasDifferences opening y → memory_of opening x ≡ memory_of opening y →
    AreAlike x y
one_form opening x y ds es same =
    let len : x.len ≡ y.len = sym (length_memory opening x) ∙ ap (λ m. length m.bytes) same ∙ length_memory opening y in
    record {
      len = len;
      max = ap (λ m. m.max) same;
      changes = one_list opening (padded opening x.len) 0 x.len x.changes.items y.changes.items (length_padded opening x.len)
          (λ k low high. sym (opened_at opening x.len k high)) ds (subst (λ n. AreDifferences opening 0 n y.changes.items) (sym len) es)
          (ap (λ m. m.bytes) same ∙ ap (λ n. fold with_change (padded opening n) y.changes.items) (sym len));
    }
