-- The tests of the conditions on events.
use Rattle.std.proofs.Common.{◌≡◌, ℕ, ◌+◌, ◌%◌, ◌≤◌, Bool, true, false, refl, arith, inl, inr, ◌⊎◌, ◌&&◌}
use Rattle.std.specs.Prelude.{nat_le, ◌==◌, ◌||◌}
use Rattle.std.proofs.lemmas.Bool.{and_parts}
use Rattle.std.proofs.lemmas.Bool.Decides.{nat_tests}
use Rattle.types.specs.declared.event.Event.{Event}
use Rattle.types.specs.declared.event.Event.TheVariants.{Size, Grow, Load, Store, Rmw, Cmpxchg, Ask, Told}
use Rattle.types.specs.declared.event.Question.{Question}
use Rattle.types.specs.declared.event.Question.TheVariants.{Wait, Notify, Spawn, Leave}
use Rattle.shared_memory.specs.Events.{FitsWidth, IsPart, IsAtomic, IsQuestion, IsEvent}
use Rattle.shared_memory.specs.Conditions.{fits_width, is_part, is_atomic, is_question, is_event}

width_found : (width value : ℕ) → fits_width width value ≡ true → FitsWidth width value
width_found width value e = grind (arith, nat_tests, e)

width_made : (width value : ℕ) → FitsWidth width value → fits_width width value ≡ true
width_made width value h = grind (arith, nat_tests)

part_found : (addr width reach : ℕ) → is_part addr width reach ≡ true → IsPart addr width reach
part_found addr width reach e =
    let p = and_parts (nat_le 1 width) (nat_le (addr % 8 + width) 8 && (nat_le (addr + width) reach && nat_le reach (addr + 8))) e in
    let q = and_parts (nat_le (addr % 8 + width) 8) (nat_le (addr + width) reach && nat_le reach (addr + 8)) p.1 in
    let r = and_parts (nat_le (addr + width) reach) (nat_le reach (addr + 8)) q.1 in
    record {
      some = grind (arith, nat_tests, p.0);
      one_word = grind (arith, nat_tests, q.0);
      ends = grind (arith, nat_tests, r.0);
      near = grind (arith, nat_tests, r.1);
    }

le_true : (a b : ℕ) → a ≤ b → nat_le a b ≡ true
le_true a b h = grind (arith, nat_tests)

part_made : (addr width reach : ℕ) → IsPart addr width reach → is_part addr width reach ≡ true
part_made addr width reach h =
    rw (le_true 1 width h.some, le_true (addr % 8 + width) 8 h.one_word, le_true (addr + width) reach h.ends, le_true reach (addr + 8) h.near) refl

eq_true : (a b : ℕ) → a ≡ b → (a == b) ≡ true
eq_true a b h = grind (arith, nat_tests)

eq_found : (a b : ℕ) → (a == b) ≡ true → a ≡ b
eq_found a b h = grind (arith, nat_tests)

or_found : (a b : Bool) → (a || b) ≡ true → (a ≡ true) ⊎ (b ≡ true)
or_found true b e = inl refl
or_found false b e = inr e

width_is : (w : ℕ) → (w == 1 || w == 2 || w == 4 || w == 8) ≡ true → (w ≡ 1) ⊎ (w ≡ 2) ⊎ (w ≡ 4) ⊎ (w ≡ 8)
width_is w e = grind (arith, nat_tests, e)

of_width : (w : ℕ) → (w ≡ 1) ⊎ (w ≡ 2) ⊎ (w ≡ 4) ⊎ (w ≡ 8) → (w == 1 || w == 2 || w == 4 || w == 8) ≡ true
of_width w h = grind (arith, nat_tests)

atomic_found : (addr width : ℕ) → is_atomic addr width ≡ true → IsAtomic addr width
atomic_found addr width e =
    let p = and_parts (width == 1 || width == 2 || width == 4 || width == 8) (addr % width == 0) e in
    record { of_width = width_is width p.0; aligned = eq_found (addr % width) 0 p.1 }

atomic_made : (addr width : ℕ) → IsAtomic addr width → is_atomic addr width ≡ true
atomic_made addr width h = rw (of_width width h.of_width, eq_true (addr % width) 0 h.aligned) refl

and_true : (a b : Bool) → a ≡ true → b ≡ true → (a && b) ≡ true
and_true a b p q = rw (p, q) refl

four_or_eight : (w : ℕ) → (w == 4 || w == 8) ≡ true → (w ≡ 4) ⊎ (w ≡ 8)
four_or_eight w e = grind (arith, nat_tests, e)

of_four_or_eight : (w : ℕ) → (w ≡ 4) ⊎ (w ≡ 8) → (w == 4 || w == 8) ≡ true
of_four_or_eight w h = grind (arith, nat_tests)

is_atomic_then : (w : ℕ) → (w ≡ 4) ⊎ (w ≡ 8) → (w ≡ 1) ⊎ (w ≡ 2) ⊎ (w ≡ 4) ⊎ (w ≡ 8)
is_atomic_then w h = grind (arith, h)

pub question_found : (q : Question) → is_question q ≡ true → IsQuestion q
question_found (Wait addr width expected timeout) e =
    let p = and_parts (width == 4 || width == 8) (is_atomic addr width && fits_width width expected) e in
    let q = and_parts (is_atomic addr width) (fits_width width expected) p.1 in
    (four_or_eight width p.0, (atomic_found addr width q.0).aligned, width_found width expected q.1)
question_found (Notify addr count) e = eq_found (addr % 4) 0 e
question_found (Spawn arg) e = tt
question_found Leave e = tt

pub question_made : (q : Question) → IsQuestion q → is_question q ≡ true
question_made (Wait addr width expected timeout) h =
    let a : IsAtomic addr width = record { of_width = is_atomic_then width h.0; aligned = h.1 } in
    and_true (width == 4 || width == 8) (is_atomic addr width && fits_width width expected)
    (of_four_or_eight width h.0) (and_true (is_atomic addr width) (fits_width width expected)
    (atomic_made addr width a) (width_made width expected h.2))
question_made (Notify addr count) h = eq_true (addr % 4) 0 h
question_made (Spawn arg) h = refl
question_made Leave h = refl

pub event_found : (e : Event) → is_event e ≡ true → IsEvent e
event_found Size e = tt
event_found (Grow more) e = tt
event_found (Load addr width reach) e = part_found addr width reach e
event_found (Store addr width reach value) e =
    let p = and_parts (is_part addr width reach) (fits_width width value) e in
    (part_found addr width reach p.0, width_found width value p.1)
event_found (Rmw op addr width value) e =
    let p = and_parts (is_atomic addr width) (fits_width width value) e in
    (atomic_found addr width p.0, width_found width value p.1)
event_found (Cmpxchg addr width expected replacement) e =
    let p = and_parts (is_atomic addr width) (fits_width width replacement) e in
    (atomic_found addr width p.0, width_found width replacement p.1)
event_found (Ask question) e = question_found question e
event_found (Told answer) e = tt

pub event_made : (e : Event) → IsEvent e → is_event e ≡ true
event_made Size h = refl
event_made (Grow more) h = refl
event_made (Load addr width reach) h = part_made addr width reach h
event_made (Store addr width reach value) h = and_true (is_part addr width reach) (fits_width width value)
    (part_made addr width reach h.0) (width_made width value h.1)
event_made (Rmw op addr width value) h = and_true (is_atomic addr width) (fits_width width value) (atomic_made addr width h.0) (width_made width value h.1)
event_made (Cmpxchg addr width expected replacement) h = and_true (is_atomic addr width)
    (fits_width width replacement) (atomic_made addr width h.0) (width_made width replacement h.1)
event_made (Ask question) h = question_made question h
event_made (Told answer) h = refl
