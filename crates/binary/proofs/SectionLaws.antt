-- The laws of sections, with custom sections before them, and of the opening bytes.
use Rattle.std.proofs.Common.{◌≡◌, ℕ, zero, suc, ◌<◌, ◌≤◌, Bool, true, false, cond, eqb, List, [], ◌∷◌, ◌++◌, length}
use Rattle.std.proofs.Common.{Option, Some, None, Ok, refl, sym, ap, subst, ◌∙◌, arith, inl, inr}
use Rattle.std.proofs.lemmas.Bool.{eqb-true, eqb-false, eq-eqb, ne_eqb}
use Rattle.binary_wire.specs.declared.bounds.Bounds.{Bounds}
use Rattle.binary_wire.specs.declared.fault.Fault.{Fault}
use Rattle.binary_wire.specs.declared.fault.Fault.TheVariants as faults
use Rattle.binary_wire.specs.Faults.{inside}
use Rattle.binary_wire.specs.Reading.{Reading, ◌>>=◌, byte_at, tag_at, u32_at, block_at, name_at, sized_at, vector_at, front_is}
use Rattle.binary_wire.specs.Grammar.{Spelling, IsU32, IsBlock, IsName, IsVector}
use Rattle.binary_wire.proofs.Laws.{Law, good, gives, either_ok, bind_case, one_case, take_is, good_pair, good_is, tag_takes}
use Rattle.binary_wire.proofs.Laws.{u32_law, block_law, name_law, sized_law, vector_law, map_law}
use Rattle.types.specs.declared.parts.FuncType.{FuncType}
use Rattle.binary.specs.Grammar.{IsCustom, AreCustoms, IsSectionHere, IsSectionPart, IsSection, IsStartFunction, IsCodeSection, opening_bytes}
use Rattle.binary.specs.Reading.{custom_at, customs_at, part_at, section_at, start_function_at, start_at, code_section_at, code_at, fixed_at, opening_at}
use Rattle.binary.proofs.Laws.{code_section_law}

-- ---- custom sections

no_front : (bytes : List ℕ) → front_is 0 bytes ≡ false → (more : List ℕ) → bytes ≡ 0 ∷ more → ⊥
no_front bytes f more e =
    let g : true ≡ false = subst (λ (l : List ℕ). front_is 0 l ≡ false) e f in
    absurd cc

yes_front : (bytes : List ℕ) → ((more : List ℕ) → bytes ≡ 0 ∷ more → ⊥) → front_is 0 bytes ≡ false
yes_front [] h = refl
yes_front (b ∷ bytes) h = ne_eqb b 0 (λ e. h bytes (ap (λ (n : ℕ). n ∷ bytes) e))

custom_takes : (s : Bounds) (bytes : List ℕ) (y : Bool) (rest : List ℕ) → front_is 0 bytes ≡ true → custom_at s bytes ≡ Ok (y, rest) → IsCustom bytes rest
unfolding custom_at
custom_takes s [] y rest front e = absurd cc
custom_takes s (b ∷ bytes) y rest front e = (
  eqb-true b 0 front,
  bind_case (block_at s bytes) (λ block. name_at (inside s block.1) block.0 >>= λ name. gives true block.1) (y, rest) e (λ block mid e1 e2.
      bind_case (name_at (inside s mid) block) (λ name. gives true mid) (y, rest) e2 (λ name more e3 e4.
      take_is (λ (z : Bool) (r : List ℕ). (block : List ℕ) × IsBlock bytes block r
      × ((name : List ℕ) × (more : List ℕ) × IsName block name more)) true y mid rest e4
      (block, block_law.takes s bytes block mid (sym e1), (name, more, name_law.takes (inside s mid) block name more (sym e3))))),
)

custom_again : (s : Bounds) (bytes rest : List ℕ) → IsCustom bytes rest
    → (front_is 0 bytes ≡ true) × (custom_at s bytes ≡ Ok (true, rest)) × (length rest < length bytes)
unfolding custom_at
custom_again s [] rest h = absurd h
custom_again s (b ∷ bytes) rest h = (
  eq-eqb b 0 h.0,
  rw (block_law.again s bytes h.1.0 rest h.1.1, name_law.again (inside s rest) h.1.0 h.1.2.0 h.1.2.1 h.1.2.2) refl,
  omega (arith, block_law.within bytes h.1.0 rest h.1.1),
)

custom_shrinks : (bytes rest : List ℕ) → IsCustom bytes rest → length rest < length bytes
custom_shrinks [] rest h = absurd h
custom_shrinks (b ∷ bytes) rest h = omega (arith, block_law.within bytes h.1.0 rest h.1.1)

pub customs_take : (most : ℕ) (s : Bounds) (bytes rest : List ℕ) → length bytes ≤ most → customs_at most s bytes ≡ Ok rest → (k : ℕ) × AreCustoms k bytes rest
unfolding customs_at
customs_take zero s [] rest le e = (0, (no_front [] refl, sym (good_is [] rest e)))
customs_take zero s (b ∷ bytes) rest le e = absurd (omega (arith, le))
customs_take (suc most) s bytes rest le e =
    elim (either_ok (front_is 0 bytes) (custom_at s bytes >>= λ x. customs_at most s x.1) (good bytes) (good rest) e) [
      | inl t ↦
          bind_case (custom_at s bytes) (λ x. customs_at most s x.1) rest t.1 (λ y mid e1 e2.
          let c = custom_takes s bytes y mid t.0 (sym e1) in
          let more = customs_take most s mid rest (omega (arith, le, custom_shrinks bytes mid c)) e2 in
          (suc more.0, (mid, c, more.1)))
      | inr t ↦ (0, (no_front bytes t.0, sym (good_is bytes rest t.1)))
    ]

pub customs_again : (most : ℕ) (s : Bounds) (bytes : List ℕ) (k : ℕ) (rest : List ℕ)
    → length bytes ≤ most → AreCustoms k bytes rest → customs_at most s bytes ≡ Ok rest
unfolding customs_at
customs_again zero s bytes zero rest le h = rw h.1 refl
customs_again zero s bytes (suc k) rest le h = absurd (omega (arith, le, custom_shrinks bytes h.0 h.1))
customs_again (suc most) s bytes zero rest le h = rw (yes_front bytes h.0, h.1) refl
customs_again (suc most) s bytes (suc k) rest le h =
    let c = custom_again s bytes h.0 h.1 in
    rw (c.0, c.1) (customs_again most s h.0 k rest (omega (arith, le, c.2)) h.2)

customs_within : (bytes : List ℕ) (k : ℕ) (rest : List ℕ) → AreCustoms k bytes rest → length rest ≤ length bytes
customs_within bytes zero rest h = omega (arith, ap length h.1)
customs_within bytes (suc k) rest h = omega (arith, custom_shrinks bytes h.0 h.1, customs_within h.0 k rest h.2)

-- ---- one section, where it stands

here_takes : {A : Type 0} (id : ℕ) (absent : A) (P : Spelling A) (at : Reading A) (law : Law P at) (s : Bounds) (start : List ℕ) (x : A) (rest : List ℕ)
    → cond (front_is id start) (byte_at s start >>= λ code. sized_at at s code.1) (gives absent start) ≡ Ok (x, rest) → IsSectionHere id absent P start x rest
here_takes id absent P at law s [] x rest e = good_pair absent x [] rest e
here_takes id absent P at law s (b ∷ bytes) x rest e =
    elim (either_ok (eqb b id) (sized_at at s bytes) (gives absent (b ∷ bytes)) (gives x rest) e) [
      | inl t ↦ inl (eqb-true b id t.0, (sized_law P at law).takes s bytes x rest t.1)
      | inr t ↦ let p = good_pair absent x (b ∷ bytes) rest t.1 in inr (eqb-false b id t.0, p.0, p.1)
    ]

here_again : {A : Type 0} (id : ℕ) (absent : A) (P : Spelling A) (at : Reading A) (law : Law P at) (s : Bounds) (start : List ℕ) (x : A) (rest : List ℕ)
    → IsSectionHere id absent P start x rest → cond (front_is id start) (byte_at s start >>= λ code. sized_at at s code.1) (gives absent start) ≡ Ok (x, rest)
here_again id absent P at law s [] x rest h = rw (h.0, h.1) refl
here_again id absent P at law s (b ∷ bytes) x rest (inl h) = rw (eq-eqb b id h.0) ((sized_law P at law).again s bytes x rest h.1)
here_again id absent P at law s (b ∷ bytes) x rest (inr h) = rw (ne_eqb b id h.0, h.1, h.2) refl

here_within : {A : Type 0} (id : ℕ) (absent : A) (P : Spelling A) (at : Reading A) (law : Law P at)
    (start : List ℕ) (x : A) (rest : List ℕ) → IsSectionHere id absent P start x rest → length rest ≤ length start
here_within id absent P at law [] x rest h = omega (arith, ap length h.1)
here_within id absent P at law (b ∷ bytes) x rest (inl h) = omega (arith, (sized_law P at law).within bytes x rest h.1)
here_within id absent P at law (b ∷ bytes) x rest (inr h) = omega (arith, ap length h.2)

pub part_law : {A : Type 0} (id : ℕ) (absent : A) (P : Spelling A) (at : Reading A) → Law P at
    → Law (IsSectionPart id absent P) (part_at id absent at)
unfolding part_at
part_law id absent P at law = record {
  takes = λ s bytes x rest e.
      one_case (customs_at (length bytes) s bytes)
      (λ start. cond (front_is id start) (byte_at s start >>= λ code. sized_at at s code.1) (gives absent start))
      (x, rest) e (λ start e1 e2.
      let c = customs_take (length bytes) s bytes start (omega arith) (sym e1) in
      (c.0, start, c.1, here_takes id absent P at law s start x rest e2));
  again = λ s bytes x rest h.
      rw (customs_again (length bytes) s bytes h.0 h.1 (omega arith) h.2) (here_again id absent P at law s h.1 x rest h.3);
  within = λ bytes x rest h. omega (arith, customs_within bytes h.0 h.1 h.2, here_within id absent P at law h.1 x rest h.3);
}

pub section_law : {A : Type 0} (id limit : ℕ) (P : Spelling A) (at : Reading A) → Law P at
    → Law (IsSection id limit P) (section_at id limit at)
unfolding section_at
section_law id limit P at law = part_law id [] (IsVector limit P) (vector_at limit at) (vector_law limit P at law)

abbrev some : ℕ → Option ℕ
some n = Some n

start_function_law : Law IsStartFunction start_function_at
unfolding start_function_at
start_function_law = map_law some IsU32 u32_at u32_law

pub start_law : Law (IsSectionPart 8 None IsStartFunction) start_at
unfolding start_at
start_law = part_law 8 None IsStartFunction start_function_at start_function_law

pub code_law : (types : List FuncType) (functions : List ℕ) → Law (IsSectionPart 10 [] (IsCodeSection types functions)) (code_at types functions)
unfolding code_at
code_law types functions = part_law 10 [] (IsCodeSection types functions) (code_section_at types functions) (code_section_law types functions)

-- ---- the opening bytes

fixed_takes : (kind : Fault) (expected : List ℕ) (s : Bounds) (bytes rest : List ℕ) → fixed_at kind expected s bytes ≡ Ok rest → bytes ≡ expected ++ rest
unfolding fixed_at
fixed_takes kind [] s bytes rest e = good_is bytes rest e
fixed_takes kind (b ∷ expected) s bytes rest e =
    one_case (tag_at kind b s bytes) (λ start. fixed_at kind expected s start) rest e (λ start e1 e2.
    tag_takes kind b s bytes start (sym e1) ∙ ap (λ (l : List ℕ). b ∷ l) (fixed_takes kind expected s start rest e2))

pub opening_takes : (s : Bounds) (bytes rest : List ℕ) → opening_at s bytes ≡ Ok rest → bytes ≡ opening_bytes ++ rest
unfolding opening_at
opening_takes s bytes rest e =
    one_case (fixed_at faults.Magic (0x00 ∷ (0x61 ∷ (0x73 ∷ (0x6d ∷ [])))) s bytes)
    (λ mid. fixed_at faults.Version (0x01 ∷ (0x00 ∷ (0x00 ∷ (0x00 ∷ [])))) s mid) rest e (λ mid e1 e2.
    fixed_takes faults.Magic (0x00 ∷ (0x61 ∷ (0x73 ∷ (0x6d ∷ [])))) s bytes mid (sym e1)
    ∙ ap (λ (l : List ℕ). 0x00 ∷ (0x61 ∷ (0x73 ∷ (0x6d ∷ l)))) (fixed_takes faults.Version (0x01 ∷ (0x00 ∷ (0x00 ∷ (0x00 ∷ [])))) s mid rest e2))

opening_passes : (s : Bounds) (rest : List ℕ) → opening_at s (opening_bytes ++ rest) ≡ Ok rest
unfolding opening_at fixed_at
opening_passes s rest = refl

pub opening_again : (s : Bounds) (bytes rest : List ℕ) → bytes ≡ opening_bytes ++ rest → opening_at s bytes ≡ Ok rest
opening_again s bytes rest e = rw e (opening_passes s rest)
