-- The open blocks along an expression: the reader keeps them one instruction after the other, and where none is left open the
-- instructions are nested blocks with a final end.
use Rattle.std.proofs.Common.{◌≡◌, ℕ, ◌+◌, ◌<◌, ◌≤◌, inl, inr, Bool, true, false, List, [], ◌∷◌, length, Option, Some, None, Result, Ok, Err, refl, sym}
use Rattle.std.proofs.Common.{ap, subst, ◌∙◌, arith}
use Rattle.std.proofs.lemmas.Bool.{cases_lt, eqb-true, le-ltb, lt-ltb}
use Rattle.types.specs.declared.instr.Instr.{Instr}
use Rattle.types.specs.Nesting.{IsExpression}
use Rattle.types.specs.Tests.{opened, opens_behind, closes}
use Rattle.types.specs.declared.limits.TheConstants.{MOST_NESTED}
use Rattle.types.proofs.Nested.{Decides-expression, none_behind}
use Rattle.binary_wire.specs.declared.fault.Refusal.{Refusal}
use Rattle.binary_wire.specs.Grammar.{Spelling}
use Rattle.binary_instructions.specs.Grammar.{IsInstr, AreInstrs}
use Rattle.binary_instructions.specs.Reading.{entered}

-- what is found, whatever the refusal is
abbrev pub found : {A : Type 0} → Result A Refusal → Option A
found (Ok x) = Some x
found (Err e) = None

pub found_is : {A : Type 0} (r : Result A Refusal) (x : A) → found r ≡ Some x → r ≡ Ok x
found_is (Ok y) x e = cc
found_is (Err y) x e = absurd cc

-- the reader has room for a further block where the expression has
pub enters : (offset : ℕ) (o out : Bool) (opens : List Bool) → found (entered offset o (out ∷ opens)) ≡ opened o (out ∷ opens)
enters offset o out opens =
    elim (cases_lt (length opens) MOST_NESTED) [
      | inl lt ↦
          let more : length (out ∷ opens) < MOST_NESTED + 1 = omega (arith, lt) in
          rw (lt-ltb (length (out ∷ opens)) (MOST_NESTED + 1) more, lt-ltb (length opens) MOST_NESTED lt) refl
      | inr le ↦
          let more : MOST_NESTED + 1 ≤ length (out ∷ opens) = omega (arith, le) in
          rw (le-ltb (length (out ∷ opens)) (MOST_NESTED + 1) more, le-ltb (length opens) MOST_NESTED le) refl
    ]

-- instructions until no block is open
abbrev pub IsCode : List Bool → Spelling (List Instr)
IsCode opens bytes [] rest = (opens ≡ []) × (rest ≡ bytes)
IsCode opens bytes (i ∷ code) rest = (0 < length opens)
    × ((inside : List Bool) × (opens_behind opens i ≡ Some inside)
    × ((mid : List ℕ) × IsInstr bytes i mid × IsCode inside mid code rest))

pub code_spells : (opens : List Bool) (bytes : List ℕ) (code : List Instr) (rest : List ℕ) → IsCode opens bytes code rest → AreInstrs bytes code rest
code_spells opens bytes [] rest h = h.1
code_spells opens bytes (i ∷ code) rest h = (h.1.2.0, h.1.2.1, code_spells h.1.0 h.1.2.0 code rest h.1.2.2)

code_closes : (opens : List Bool) (bytes : List ℕ) (code : List Instr) (rest : List ℕ) → IsCode opens bytes code rest → closes (Some opens) code ≡ true
code_closes opens bytes [] rest h = rw h.0 refl
code_closes [] bytes (i ∷ code) rest h = absurd (omega (arith, h.0))
code_closes (out ∷ opens) bytes (i ∷ code) rest h =
    subst (λ (o : Option (List Bool)). closes o code ≡ true) (sym h.1.1) (code_closes h.1.0 h.1.2.0 code rest h.1.2.2)

pub code_nested : (bytes : List ℕ) (code : List Instr) (rest : List ℕ) → IsCode (false ∷ []) bytes code rest → IsExpression code
code_nested bytes code rest h = (Decides-expression code).0 (code_closes (false ∷ []) bytes code rest h)

closed_code : (opens : List Bool) (bytes : List ℕ) (code : List Instr) (rest : List ℕ)
    → AreInstrs bytes code rest → closes (Some opens) code ≡ true → IsCode opens bytes code rest
closed_code [] bytes [] rest h e = (refl, h)
closed_code (out ∷ opens) bytes [] rest h e = let none : length (out ∷ opens) ≡ 0 = eqb-true (length (out ∷ opens)) 0 e in absurd (omega (arith, none))
closed_code [] bytes (i ∷ code) rest h e =
    let never : false ≡ true = sym (ap (λ (x : Option (List Bool)). closes x code) (none_behind i)) ∙ e in cc
closed_code (out ∷ opens) bytes (i ∷ code) rest h e =
    by_inside (opens_behind (out ∷ opens) i) refl e (λ inside closed. closed_code inside h.0 code rest h.2 closed)
  where
    by_inside : (x : Option (List Bool)) → opens_behind (out ∷ opens) i ≡ x → closes x code ≡ true
        → ((inside : List Bool) → closes (Some inside) code ≡ true → IsCode inside h.0 code rest) → IsCode (out ∷ opens) bytes (i ∷ code) rest
    by_inside (Some inside) is closed more = (omega arith, (inside, is, (h.0, h.1, more inside closed)))
    by_inside None is closed more = let never : false ≡ true = closed in cc

pub nested_code : (bytes : List ℕ) (code : List Instr) (rest : List ℕ) → AreInstrs bytes code rest → IsExpression code → IsCode (false ∷ []) bytes code rest
nested_code bytes code rest h nested = closed_code (false ∷ []) bytes code rest h ((Decides-expression code).1 nested)
