-- The tests of two accesses say what they are to say.
use Rattle.std.proofs.Common.{◌≡◌, ◌∙◌, ◌<◌, ◌≤◌, ◌+◌, ◌-◌, ◌/◌, ◌%◌, ◌==◌, ◌&&◌, ◌||◌, ℕ, Bool, true, not, inl, inr, refl, sym, ap, arith}
use Rattle.std.proofs.Math.Bool.{beq}
use Rattle.std.specs.Cmp.{booleans_Decides}
use Rattle.std.specs.Prelude.{nat_le, nat_lt}
use Rattle.std.proofs.lemmas.Bool.{and_from, and_parts, both_ways, cases_lt, cond-false, cond-true, eq-eqb, eqb-true}
use Rattle.std.proofs.lemmas.Bool.{false_from_ne_true, le-leb, lt-leb, lt-ltb, ltb-true, ne_eqb, not-true}
use Rattle.std.proofs.lemmas.Bool.{not_from_false, or_cases, or_left, or_right}
use Rattle.race_history.specs.declared.access.ThreadAccess.{ThreadAccess}
use Rattle.race_history.specs.declared.access.Location.{Location}
use Rattle.race_history.specs.declared.access.Location.TheVariants.{Bytes, Pages, Waiters, Threads}
use Rattle.race_history.specs.Accesses.{AreMatched, HasByte, Meet}
use Rattle.race_history.specs.Lasts.{IsInWord}
use Rattle.race_history.specs.Races.{Conflict}
use Rattle.race_history.specs.Tests.{are_alike, are_matched, conflicts, is_same, location_number, overlap, touches}

number_same : (a b : Location) → location_number a ≡ location_number b → a ≡ b
number_same Bytes Bytes e = refl
number_same Bytes Pages e = absurd (omega arith)
number_same Bytes Waiters e = absurd (omega arith)
number_same Bytes Threads e = absurd (omega arith)
number_same Pages Bytes e = absurd (omega arith)
number_same Pages Pages e = refl
number_same Pages Waiters e = absurd (omega arith)
number_same Pages Threads e = absurd (omega arith)
number_same Waiters Bytes e = absurd (omega arith)
number_same Waiters Pages e = absurd (omega arith)
number_same Waiters Waiters e = refl
number_same Waiters Threads e = absurd (omega arith)
number_same Threads Bytes e = absurd (omega arith)
number_same Threads Pages e = absurd (omega arith)
number_same Threads Waiters e = absurd (omega arith)
number_same Threads Threads e = refl

alike_from : (a b : Location) → are_alike a b ≡ true → a ≡ b
alike_from a b t = number_same a b (eqb-true (location_number a) (location_number b) t)

alike_to : (a b : Location) → a ≡ b → are_alike a b ≡ true
alike_to a b e = eq-eqb (location_number a) (location_number b) (ap location_number e)

-- equal in all that is compared
module _ (a b : ThreadAccess) (thread : a.thread ≡ b.thread) (location : a.location ≡ b.location) (addr : a.addr ≡ b.addr) (width : a.width ≡ b.width) where
  abbrev of : ℕ → Location → ℕ → ℕ → Bool → Bool → Bool → ℕ → ThreadAccess
  of n l k w r s t c = record { thread = n; location = l; addr = k; width = w; reads = r; writes = s; atomic = t; code = c }

  same_fields : a.reads ≡ b.reads → a.writes ≡ b.writes → a.atomic ≡ b.atomic → a.code ≡ b.code → a ≡ b
  same_fields reads writes atomic code =
      ap (λ (n : ℕ). of n a.location a.addr a.width a.reads a.writes a.atomic a.code) thread
      ∙ (ap (λ (l : Location). of b.thread l a.addr a.width a.reads a.writes a.atomic a.code) location
      ∙ (ap (λ (k : ℕ). of b.thread b.location k a.width a.reads a.writes a.atomic a.code) addr
      ∙ (ap (λ (w : ℕ). of b.thread b.location b.addr w a.reads a.writes a.atomic a.code) width
      ∙ (ap (λ (r : Bool). of b.thread b.location b.addr b.width r a.writes a.atomic a.code) reads
      ∙ (ap (λ (s : Bool). of b.thread b.location b.addr b.width b.reads s a.atomic a.code) writes
      ∙ (ap (λ (t : Bool). of b.thread b.location b.addr b.width b.reads b.writes t a.code) atomic
      ∙ ap (λ (c : ℕ). of b.thread b.location b.addr b.width b.reads b.writes b.atomic c) code))))))

module _ (a b : ThreadAccess) where
  abbrev code : Bool
  code = a.code == b.code

  abbrev thread : Bool
  thread = a.thread == b.thread

  abbrev alike : Bool
  alike = are_alike a.location b.location

  abbrev addr : Bool
  addr = a.addr == b.addr

  abbrev width : Bool
  width = a.width == b.width

  abbrev reads : Bool
  reads = beq a.reads b.reads

  abbrev writes : Bool
  writes = beq a.writes b.writes

  abbrev atomic : Bool
  atomic = beq a.atomic b.atomic

  pub same_from : is_same a b ≡ true → a ≡ b
  same_from t =
      let p = and_parts (code && thread && alike && addr && width && reads && writes) atomic t in
      let q = and_parts (code && thread && alike && addr && width && reads) writes p.0 in
      let r = and_parts (code && thread && alike && addr && width) reads q.0 in
      let s = and_parts (code && thread && alike && addr) width r.0 in
      let u = and_parts (code && thread && alike) addr s.0 in
      let v = and_parts (code && thread) alike u.0 in
      let w = and_parts code thread v.0 in
      same_fields a b (eqb-true a.thread b.thread w.1) (alike_from a.location b.location v.1) (eqb-true a.addr b.addr u.1)
      (eqb-true a.width b.width s.1) ((booleans_Decides a.reads b.reads).0 r.1) ((booleans_Decides a.writes b.writes).0 q.1)
      ((booleans_Decides a.atomic b.atomic).0 p.1) (eqb-true a.code b.code w.0)

  pub same_to : a ≡ b → is_same a b ≡ true
  same_to e =
      and_from (code && thread && alike && addr && width && reads && writes) atomic
      (and_from (code && thread && alike && addr && width && reads) writes
      (and_from (code && thread && alike && addr && width) reads
      (and_from (code && thread && alike && addr) width
      (and_from (code && thread && alike) addr
      (and_from (code && thread) alike
      (and_from code thread (eq-eqb a.code b.code (ap (λ (z : ThreadAccess). z.code) e))
      (eq-eqb a.thread b.thread (ap (λ (z : ThreadAccess). z.thread) e)))
      (alike_to a.location b.location (ap (λ (z : ThreadAccess). z.location) e)))
      (eq-eqb a.addr b.addr (ap (λ (z : ThreadAccess). z.addr) e)))
      (eq-eqb a.width b.width (ap (λ (z : ThreadAccess). z.width) e)))
      ((booleans_Decides a.reads b.reads).1 (ap (λ (z : ThreadAccess). z.reads) e)))
      ((booleans_Decides a.writes b.writes).1 (ap (λ (z : ThreadAccess). z.writes) e)))
      ((booleans_Decides a.atomic b.atomic).1 (ap (λ (z : ThreadAccess). z.atomic) e))

  pub matched_from : are_matched a b ≡ true → AreMatched a b
  matched_from t =
      let p = and_parts (a.atomic && b.atomic && alike && addr) width t in
      let q = and_parts (a.atomic && b.atomic && alike) addr p.0 in
      let s = and_parts (a.atomic && b.atomic) alike q.0 in
      let r = and_parts a.atomic b.atomic s.0 in
      record {
        first = r.0;
        second = r.1;
        location = alike_from a.location b.location s.1;
        addr = eqb-true a.addr b.addr q.1;
        width = eqb-true a.width b.width p.1;
      }

  pub matched_to : AreMatched a b → are_matched a b ≡ true
  matched_to h =
      and_from (a.atomic && b.atomic && alike && addr) width
      (and_from (a.atomic && b.atomic && alike) addr
      (and_from (a.atomic && b.atomic) alike (and_from a.atomic b.atomic h.first h.second) (alike_to a.location b.location h.location))
      (eq-eqb a.addr b.addr h.addr))
      (eq-eqb a.width b.width h.width)

  overlap_to : Meet a b → overlap a b ≡ true
  overlap_to m =
      let byte : ℕ = m.1.0 in
      let a0 : a.addr ≤ byte = m.1.1.0.0 in
      let a1 : byte < a.addr + a.width = m.1.1.0.1 in
      let b0 : b.addr ≤ byte = m.1.1.1.0 in
      let b1 : byte < b.addr + b.width = m.1.1.1.1 in
      let x : Bool = nat_lt (b.addr - a.addr) a.width in
      let y : Bool = nat_lt (a.addr - b.addr) b.width in
      elim (cases_lt b.addr a.addr) [
        | inl lt ↦ cond-false (nat_le a.addr b.addr) x y (lt-leb a.addr b.addr lt) ∙ lt-ltb (a.addr - b.addr) b.width (omega arith)
        | inr le ↦ cond-true (nat_le a.addr b.addr) x y (le-leb a.addr b.addr le) ∙ lt-ltb (b.addr - a.addr) a.width (omega arith)
      ]

  pub touches_to : Meet a b → touches a b ≡ true
  touches_to m = and_from alike (overlap a b) (alike_to a.location b.location m.0) (overlap_to m)

  module _ (wa : IsInWord a) (wb : IsInWord b) where
    overlap_from : overlap a b ≡ true → (byte : ℕ) × (HasByte a byte × HasByte b byte)
    overlap_from t =
        let x : Bool = nat_lt (b.addr - a.addr) a.width in
        let y : Bool = nat_lt (a.addr - b.addr) b.width in
        let some_a : 1 ≤ a.width = wa.some in
        let some_b : 1 ≤ b.width = wb.some in
        elim (cases_lt b.addr a.addr) [
          | inl lt ↦
              let d : a.addr - b.addr < b.width =
              ltb-true (a.addr - b.addr) b.width (sym (cond-false (nat_le a.addr b.addr) x y (lt-leb a.addr b.addr lt)) ∙ t) in
              (a.addr, ((omega arith, omega arith), (omega arith, omega arith)))
          | inr le ↦
              let d : b.addr - a.addr < a.width =
              ltb-true (b.addr - a.addr) a.width (sym (cond-true (nat_le a.addr b.addr) x y (le-leb a.addr b.addr le)) ∙ t) in
              (b.addr, ((omega arith, omega arith), (omega arith, omega arith)))
        ]

    pub touches_from : touches a b ≡ true → Meet a b
    touches_from t = let p = and_parts alike (overlap a b) t in (alike_from a.location b.location p.0, overlap_from p.1)

    -- accesses that touch a byte in common are in one word
    pub one_word : Meet a b → a.addr / 8 ≡ b.addr / 8
    one_word m =
        let byte : ℕ = m.1.0 in
        let a0 : a.addr ≤ byte = m.1.1.0.0 in
        let a1 : byte < a.addr + a.width = m.1.1.0.1 in
        let b0 : b.addr ≤ byte = m.1.1.1.0 in
        let b1 : byte < b.addr + b.width = m.1.1.1.1 in
        let fits_a : a.addr % 8 + a.width ≤ 8 = wa.one_word in
        let fits_b : b.addr % 8 + b.width ≤ 8 = wb.one_word in
        omega arith

    pub conflict_from : conflicts a b ≡ true → Conflict a b
    conflict_from t =
        let apart : Bool = not (a.thread == b.thread) in
        let write : Bool = a.writes || b.writes in
        let p = and_parts (apart && touches a b && write) (not (are_matched a b)) t in
        let q = and_parts (apart && touches a b) write p.0 in
        let r = and_parts apart (touches a b) q.0 in
        record {
          threads = λ e. both_ways (a.thread == b.thread) (not-true (a.thread == b.thread) r.0) (eq-eqb a.thread b.thread e);
          meet = touches_from r.1;
          write = or_cases a.writes b.writes q.1;
          unmatched = λ m. both_ways (are_matched a b) (not-true (are_matched a b) p.1) (matched_to m);
        }

  pub conflict_to : Conflict a b → conflicts a b ≡ true
  conflict_to h =
      let apart : Bool = not (a.thread == b.thread) in
      let write : Bool = a.writes || b.writes in
      let w : write ≡ true = elim h.write [ inl x ↦ or_left a.writes b.writes x | inr y ↦ or_right a.writes b.writes y ] in
      and_from (apart && touches a b && write) (not (are_matched a b))
      (and_from (apart && touches a b) write
      (and_from apart (touches a b) (not_from_false (a.thread == b.thread) (ne_eqb a.thread b.thread h.threads)) (touches_to h.meet)) w)
      (not_from_false (are_matched a b) (false_from_ne_true (are_matched a b) (λ t. h.unmatched (matched_from t))))

-- whoever is matched touches the same bytes
pub matched_meet : (a b : ThreadAccess) → IsInWord a → AreMatched a b → Meet a b
matched_meet a b wa h =
    let some : 1 ≤ a.width = wa.some in
    let addr : a.addr ≡ b.addr = h.addr in
    let width : a.width ≡ b.width = h.width in
    (h.location, (a.addr, ((omega arith, omega arith), (omega arith, omega arith))))
