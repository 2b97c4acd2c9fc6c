-- The laws of instructions and of expressions: what is read is what the bytes spell, and the other way round.
use Rattle.std.proofs.Common.{◌≡◌, ℕ, zero, suc, ◌<◌, ◌≤◌, Bool, true, false, cond, eqb, List, [], ◌∷◌, length}
use Rattle.std.proofs.Common.{Option, Some, None, Result, Ok, Err, refl, sym, ap, subst, ◌∙◌, arith, inl, inr, ◌⊎◌}
use Rattle.std.proofs.lemmas.Bool.{eqb-true}
use Rattle.types.specs.declared.value.ValType.{ValType}
use Rattle.types.specs.declared.value.ValType.TheVariants as types
use Rattle.types.specs.declared.value.Value.TheVariants as values
use Rattle.types.specs.declared.instr.Instr.{Instr}
use Rattle.types.specs.declared.instr.Instr.TheVariants as instrs
use Rattle.types.specs.declared.instr.PlainInstr.TheVariants as plain
use Rattle.binary_wire.specs.declared.fault.Fault.TheVariants as kinds
use Rattle.binary_wire.specs.declared.bounds.Bounds.{Bounds}
use Rattle.binary_wire.specs.declared.fault.Refusal.{Refusal}
use Rattle.binary_wire.specs.Faults.{offset_of, refused}
use Rattle.binary_wire.specs.Reading.{◌>>=◌, tag_at, u32_at, s32_at, s64_at, vector_at}
use Rattle.binary_wire.specs.Grammar.{IsU32, IsS32, IsS64, IsVector}
use Rattle.binary_wire.proofs.Laws.{Law, good, gives, bind_case, take_is, either_ok, good_is, good_pair, u32_law, s32_law}
use Rattle.binary_wire.proofs.Laws.{s64_law, vector_law, pure_law, map_law, then_law, one_case, some_case, tag_takes}
use Rattle.binary_instructions.specs.declared.opcodes.Opener.TheVariants as openers
use Rattle.binary_instructions.specs.declared.opcodes.Shape.{Shape}
use Rattle.binary_instructions.specs.declared.opcodes.Shape.TheVariants as shapes
use Rattle.binary_instructions.specs.declared.opcodes.AtomicShape.{AtomicShape}
use Rattle.binary_instructions.specs.declared.opcodes.AtomicShape.TheVariants as atomics
use Rattle.binary_instructions.specs.Opcodes.{Opcode, opcode, atomic_number}
use Rattle.binary_instructions.specs.Instructions.{opening, bare_instr, index_instr, const_instr}
use Rattle.binary_instructions.specs.Grammar.{IsValType, IsBlockType, IsMemArg, IsReserved, IsAtomicShaped, IsAtomic}
use Rattle.binary_instructions.specs.Grammar.{IsConst, IsBrTable, IsShaped, IsInstr, AreInstrs}
use Rattle.binary_instructions.specs.Grammar.{SpellsExpression}
use Rattle.types.specs.Tests.{opens_behind}
use Rattle.binary_instructions.proofs.Nesting.{found, found_is, enters, IsCode, code_spells, code_nested, nested_code}
use Rattle.binary_instructions.specs.Reading.{known_at, val_type_of, val_type_at, block_type_at, memarg_at, reserved_at}
use Rattle.binary_instructions.specs.Reading.{atomic_shaped_at, atomic_at, const_at, br_table_at, call_indirect_at}
use Rattle.binary_instructions.specs.Reading.{shaped_at, shape_at, stacked, instr_at, kept_at, each_kept_at, code_at, expression_at}

-- ---- types

pick : (offset : ℕ) (p q r s : Bool) (t : ValType) → known_at offset (cond p (Ok types.I32)
    (cond q (Ok types.I64) (cond r (Err kinds.Float) (cond s (Err kinds.Float) (Err kinds.UnknownByte))))) ≡ good t
    → ((p ≡ true) × (types.I32 ≡ t)) ⊎ ((q ≡ true) × (types.I64 ≡ t))
pick offset true q r s t e = inl (refl, good_is types.I32 t e)
pick offset false true r s t e = inr (refl, good_is types.I64 t e)
pick offset false false true s t e = absurd cc
pick offset false false false true t e = absurd cc
pick offset false false false false t e = absurd cc

val_type_is : (offset b : ℕ) (bytes : List ℕ) (t : ValType) → known_at offset (val_type_of b) ≡ good t → IsValType (b ∷ bytes) t bytes
val_type_is offset b bytes t e =
    elim (pick offset (eqb b 0x7f) (eqb b 0x7e) (eqb b 0x7d) (eqb b 0x7c) t e) [
      | inl h ↦ subst (λ (u : ValType). IsValType (b ∷ bytes) u bytes) h.1 (ap (λ (c : ℕ). c ∷ bytes) (eqb-true b 0x7f h.0))
      | inr h ↦ subst (λ (u : ValType). IsValType (b ∷ bytes) u bytes) h.1 (ap (λ (c : ℕ). c ∷ bytes) (eqb-true b 0x7e h.0))
    ]

val_type_takes : (s : Bounds) (bytes : List ℕ) (t : ValType) (rest : List ℕ) → val_type_at s bytes ≡ Ok (t, rest) → IsValType bytes t rest
unfolding val_type_at
val_type_takes s [] t rest e = absurd cc
val_type_takes s (b ∷ bytes) t rest e =
    let offset = offset_of s (b ∷ bytes) in
    one_case (known_at offset (val_type_of b)) (λ u. gives u bytes) (t, rest) e (λ u e1 e2.
    take_is (IsValType (b ∷ bytes)) u t bytes rest e2 (val_type_is offset b bytes u (sym e1)))

val_type_again : (s : Bounds) (bytes : List ℕ) (t : ValType) (rest : List ℕ) → IsValType bytes t rest → val_type_at s bytes ≡ Ok (t, rest)
unfolding val_type_at
val_type_again s bytes types.I32 rest h = rw h refl
val_type_again s bytes types.I64 rest h = rw h refl

val_type_within : (bytes : List ℕ) (t : ValType) (rest : List ℕ) → IsValType bytes t rest → length rest ≤ length bytes
val_type_within bytes types.I32 rest h = omega (arith, ap length h)
val_type_within bytes types.I64 rest h = omega (arith, ap length h)

pub val_type_law : Law IsValType val_type_at
val_type_law = record { takes = val_type_takes; again = val_type_again; within = val_type_within }

block_type_takes : (s : Bounds) (bytes : List ℕ) (t : Option ValType) (rest : List ℕ) → block_type_at s bytes ≡ Ok (t, rest) → IsBlockType bytes t rest
unfolding block_type_at val_type_at
block_type_takes s [] t rest e = absurd cc
block_type_takes s (b ∷ bytes) t rest e =
    elim (either_ok (eqb b 0x40) (gives None bytes) (val_type_at s (b ∷ bytes) >>= λ u. gives (Some u.0) u.1) (Ok (t, rest)) e) [
      | inl h ↦ take_is (IsBlockType (b ∷ bytes)) None t bytes rest h.1 (ap (λ (c : ℕ). c ∷ bytes) (eqb-true b 0x40 h.0))
      | inr h ↦
          bind_case (val_type_at s (b ∷ bytes)) (λ u. gives (Some u.0) u.1) (t, rest) h.1 (λ u mid e1 e2.
          take_is (IsBlockType (b ∷ bytes)) (Some u) t mid rest e2 (val_type_takes s (b ∷ bytes) u mid (sym e1)))
    ]

block_type_again : (s : Bounds) (bytes : List ℕ) (t : Option ValType) (rest : List ℕ) → IsBlockType bytes t rest → block_type_at s bytes ≡ Ok (t, rest)
unfolding block_type_at val_type_at
block_type_again s bytes None rest h = rw h refl
block_type_again s bytes (Some types.I32) rest h = rw h refl
block_type_again s bytes (Some types.I64) rest h = rw h refl

block_type_within : (bytes : List ℕ) (t : Option ValType) (rest : List ℕ) → IsBlockType bytes t rest → length rest ≤ length bytes
block_type_within bytes None rest h = omega (arith, ap length h)
block_type_within bytes (Some t) rest h = val_type_within bytes t rest h

pub block_type_law : Law IsBlockType block_type_at
block_type_law = record { takes = block_type_takes; again = block_type_again; within = block_type_within }

-- ---- other immediates

pub memarg_law : Law IsMemArg memarg_at
unfolding memarg_at
memarg_law = record {
  takes = λ s bytes m rest e.
      bind_case (u32_at s bytes) _ _ e (λ align mid e1 e2.
      bind_case (u32_at s mid) _ _ e2 (λ offset after e3 e4.
      take_is (IsMemArg bytes) (record { align = align; offset = offset }) m after rest e4 (
        mid,
        u32_law.takes s bytes align mid (sym e1),
        u32_law.takes s mid offset after (sym e3),
      )));
  again = λ s bytes m rest h. rw (u32_law.again s bytes m.align h.0 h.1, u32_law.again s h.0 m.offset rest h.2) refl;
  within = λ bytes m rest h. omega (arith, u32_law.within bytes m.align h.0 h.1, u32_law.within h.0 m.offset rest h.2);
}

reserved_law : (i : Instr) → Law (λ bytes j rest. IsReserved bytes rest × (j ≡ i)) (reserved_at i)
unfolding reserved_at
reserved_law i = record {
  takes = λ s bytes j rest e.
      one_case (tag_at kinds.UnknownByte 0x00 s bytes) (λ start. gives i start) (j, rest) e (λ start e1 e2.
      take_is (λ (k : Instr) (r : List ℕ). IsReserved bytes r × (k ≡ i))
      i j start rest e2 (tag_takes kinds.UnknownByte 0x00 s bytes start (sym e1), refl));
  again = λ s bytes j rest h. rw (h.0, h.1) refl;
  within = λ bytes j rest h. omega (arith, ap length h.0);
}

-- ---- instructions

atomic_shaped_law : (shape : AtomicShape) → Law (IsAtomicShaped shape) (atomic_shaped_at shape)
unfolding atomic_shaped_at
atomic_shaped_law (atomics.Access op) = map_law (λ m. instrs.Plain (plain.Atomic op m)) IsMemArg memarg_at memarg_law
atomic_shaped_law atomics.Fence = reserved_law (instrs.Plain plain.Fence)

atomic_law : Law IsAtomic atomic_at
unfolding atomic_at
atomic_law = record {
  takes = λ s bytes i rest e.
      bind_case (u32_at s bytes) _ _ e (λ n mid e1 e2.
      some_case (atomic_number n) (refused kinds.UnknownByte s bytes) (λ shape. atomic_shaped_at shape s mid) (i, rest) e2 (λ shape e3 e4.
      (n, mid, u32_law.takes s bytes n mid (sym e1), (shape, e3, (atomic_shaped_law shape).takes s mid i rest e4))));
  again = λ s bytes i rest h.
      rw (u32_law.again s bytes h.0 h.1 h.2, h.3.1) ((atomic_shaped_law h.3.0).again s h.1 i rest h.3.2);
  within = λ bytes i rest h. omega (arith, u32_law.within bytes h.0 h.1 h.2, (atomic_shaped_law h.3.0).within h.1 i rest h.3.2);
}

const_law : (t : ValType) → Law (IsConst t) (const_at t)
unfolding const_at
const_law types.I32 = map_law (λ n. const_instr (values.I32 n)) IsS32 s32_at s32_law
const_law types.I64 = map_law (λ n. const_instr (values.I64 n)) IsS64 s64_at s64_law

br_table_law : Law IsBrTable br_table_at
unfolding br_table_at
br_table_law =
    then_law (IsVector 0xffff_ffff IsU32) (vector_at 0xffff_ffff u32_at) _
    (λ labels s bytes. u32_at s bytes >>= λ n. Ok (instrs.Plain (plain.BrTable n.0 labels), n.1))
    (vector_law 0xffff_ffff IsU32 u32_at u32_law) (λ labels.
    map_law (λ n. instrs.Plain (plain.BrTable n labels)) IsU32 u32_at u32_law)

pub shaped_law : (shape : Shape) → Law (IsShaped shape) (shaped_at shape)
unfolding shaped_at call_indirect_at
shaped_law (shapes.Open op) = map_law (λ t. opening op t) IsBlockType block_type_at block_type_law
shaped_law shapes.Else = pure_law instrs.Else
shaped_law shapes.End = pure_law instrs.End
shaped_law (shapes.Bare op) = pure_law (instrs.Plain (bare_instr op))
shaped_law (shapes.Numeric op) = pure_law (instrs.Plain (plain.Numeric op))
shaped_law (shapes.Const t) = const_law t
shaped_law (shapes.Index op) = map_law (λ n. instrs.Plain (index_instr op n)) IsU32 u32_at u32_law
shaped_law shapes.BrTable = br_table_law
shaped_law shapes.CallIndirect =
    then_law IsU32 u32_at _ (λ n. reserved_at (instrs.Plain (plain.CallIndirect n))) u32_law (λ n. reserved_law (instrs.Plain (plain.CallIndirect n)))
shaped_law (shapes.Load op) = map_law (λ m. instrs.Plain (plain.Load op m)) IsMemArg memarg_at memarg_law
shaped_law (shapes.Store width) = map_law (λ m. instrs.Plain (plain.Store width m)) IsMemArg memarg_at memarg_law
shaped_law shapes.MemorySize = reserved_law (instrs.Plain plain.MemorySize)
shaped_law shapes.MemoryGrow = reserved_law (instrs.Plain plain.MemoryGrow)
shaped_law shapes.Atomic = atomic_law

atomic_opens : (shape : AtomicShape) (o : Bool) (opens : List Bool) (bytes : List ℕ) (i : Instr) (rest : List ℕ)
    → IsAtomicShaped shape bytes i rest → opens_behind (o ∷ opens) i ≡ Some (o ∷ opens)
atomic_opens (atomics.Access op) o opens bytes i rest h = rw h.2 refl
atomic_opens atomics.Fence o opens bytes i rest h = rw h.1 refl

-- The blocks that are open behind an instruction are those behind its shape.
opens_same : (offset : ℕ) (shape : Shape) (o : Bool) (opens : List Bool) (bytes : List ℕ) (i : Instr) (rest : List ℕ)
    → IsShaped shape bytes i rest → opens_behind (o ∷ opens) i ≡ found (stacked offset (o ∷ opens) shape)
opens_same offset (shapes.Open openers.Block) o opens bytes i rest h = rw h.2 (sym (enters offset false o opens))
opens_same offset (shapes.Open openers.Loop) o opens bytes i rest h = rw h.2 (sym (enters offset false o opens))
opens_same offset (shapes.Open openers.If) o opens bytes i rest h = rw h.2 (sym (enters offset true o opens))
opens_same offset shapes.Else true opens bytes i rest h = rw h.0 refl
opens_same offset shapes.Else false opens bytes i rest h = rw h.0 refl
opens_same offset shapes.End o opens bytes i rest h = rw h.0 refl
opens_same offset (shapes.Bare op) o opens bytes i rest h = rw h.0 refl
opens_same offset (shapes.Numeric op) o opens bytes i rest h = rw h.0 refl
opens_same offset (shapes.Const types.I32) o opens bytes i rest h = rw h.2 refl
opens_same offset (shapes.Const types.I64) o opens bytes i rest h = rw h.2 refl
opens_same offset (shapes.Index op) o opens bytes i rest h = rw h.2 refl
opens_same offset shapes.BrTable o opens bytes i rest h = rw h.3.2 refl
opens_same offset shapes.CallIndirect o opens bytes i rest h = rw h.3.1 refl
opens_same offset (shapes.Load op) o opens bytes i rest h = rw h.2 refl
opens_same offset (shapes.Store width) o opens bytes i rest h = rw h.2 refl
opens_same offset shapes.MemorySize o opens bytes i rest h = rw h.1 refl
opens_same offset shapes.MemoryGrow o opens bytes i rest h = rw h.1 refl
opens_same offset shapes.Atomic o opens bytes i rest h = atomic_opens h.3.0 o opens h.1 i rest h.3.2

known_is : (offset : ℕ) (o : Opcode) (shape : Shape) → known_at offset o ≡ good shape → o ≡ Ok shape
known_is offset (Ok s) shape e = ap (λ (x : Shape). Ok x) (good_is s shape e)
known_is offset (Err kind) shape e = absurd cc

shape_is : (s : Bounds) (code : ℕ) (bytes : List ℕ) (shape : Shape) (mid : List ℕ)
    → shape_at s (code ∷ bytes) ≡ Ok (shape, mid) → (opcode code ≡ Ok shape) × (mid ≡ bytes)
unfolding shape_at
shape_is s code bytes shape mid e =
    let offset = offset_of s (code ∷ bytes) in
    one_case (known_at offset (opcode code)) (λ x. gives x bytes) (shape, mid) e (λ x e1 e2.
    let same = good_pair x shape bytes mid e2 in
    (known_is offset (opcode code) shape (sym e1 ∙ ap (λ (y : Shape). good y) (sym same.0)), same.1))

-- An instruction as it is spelled, and the blocks that are open behind it.
IsNext : List Bool → List ℕ → Instr × List Bool → List ℕ → Type 0
IsNext opens bytes next rest = IsInstr bytes next.0 rest × (opens_behind opens next.0 ≡ Some next.1)

instr_takes : (o : Bool) (opens : List Bool) (s : Bounds) (bytes : List ℕ) (i : Instr) (inside : List Bool) (rest : List ℕ)
    → instr_at (o ∷ opens) s bytes ≡ Ok ((i, inside), rest) → IsInstr bytes i rest × (opens_behind (o ∷ opens) i ≡ Some inside)
unfolding instr_at IsNext shape_at
instr_takes o opens s [] i inside rest e = absurd cc
instr_takes o opens s (code ∷ bytes) i inside rest e =
    let offset = offset_of s (code ∷ bytes) in
    bind_case (shape_at s (code ∷ bytes)) (λ shape. stacked offset (o ∷ opens) shape.0 >>= λ now. shaped_at shape.0 s shape.1 >>= λ
    instr. gives (instr.0, now) instr.1) ((i, inside), rest) e (λ shape mid e1 e2.
    one_case (stacked offset (o ∷ opens) shape) (λ now. shaped_at shape s mid >>= λ instr. gives (instr.0, now) instr.1) ((i, inside), rest) e2 (λ now n1 e3.
    bind_case (shaped_at shape s mid) (λ instr. gives (instr.0, now) instr.1) ((i, inside), rest) e3 (λ j after e4 e5.
    let p = shape_is s code bytes shape mid (sym e1) in
    let spelled : IsShaped shape bytes j after = (shaped_law shape).takes s bytes j after (rw p.1 at (sym e4)) in
    take_is (IsNext (o ∷ opens) (code ∷ bytes)) (j, now)
    (i, inside) after rest e5 (
      (shape, p.0, spelled),
      opens_same offset shape o opens bytes j after spelled
          ∙ ap (λ (x : Result (List Bool) Refusal). found x) (sym n1),
    ))))

instr_again : (o : Bool) (opens : List Bool) (s : Bounds) (bytes : List ℕ) (i : Instr) (inside : List Bool) (rest : List ℕ)
    → IsInstr bytes i rest → opens_behind (o ∷ opens) i ≡ Some inside → instr_at (o ∷ opens) s bytes ≡ Ok ((i, inside), rest)
unfolding instr_at shape_at
instr_again o opens s [] i inside rest h same = absurd h
instr_again o opens s (code ∷ bytes) i inside rest h after =
    let offset = offset_of s (code ∷ bytes) in
    let same : stacked offset (o ∷ opens) h.0 ≡ good inside = found_is (stacked offset (o ∷ opens) h.0) inside
    (sym (opens_same offset h.0 o opens bytes i rest h.2) ∙ after) in
    rw (h.1, same, (shaped_law h.0).again s bytes i rest h.2) refl

instr_shrinks : (bytes : List ℕ) (i : Instr) (rest : List ℕ) → IsInstr bytes i rest → length rest < length bytes
instr_shrinks [] i rest h = absurd h
instr_shrinks (code ∷ bytes) i rest h = omega (arith, (shaped_law h.0).within bytes i rest h.2)

-- ---- expressions

code_takes : (most : ℕ) (opens : List Bool) (s : Bounds) (bytes : List ℕ) (code : List Instr) (rest : List ℕ)
    → code_at most opens s bytes ≡ Ok (code, rest) → IsCode opens bytes code rest
unfolding kept_at
code_takes most [] s bytes code rest e = take_is (λ (c : List Instr) (r : List ℕ). IsCode [] bytes c r) [] code bytes rest e (refl, refl)
code_takes zero (b ∷ opens) s bytes code rest e = absurd cc
code_takes (suc most) (b ∷ opens) s bytes code rest e =
    bind_case (instr_at (b ∷ opens) s bytes)
    (λ first. code_at most first.0.1 s first.1 >>= λ others. gives (first.0.0 ∷ others.0) others.1)
    (code, rest) e (λ next mid e1 e2.
    bind_case (code_at most next.1 s mid) (λ others. gives (next.0 ∷ others.0) others.1) (code, rest) e2 (λ others after e3 e4.
    let t = instr_takes b opens s bytes next.0 next.1 mid (sym e1) in
    take_is (IsCode (b ∷ opens) bytes) (next.0 ∷ others) code after rest e4 (
      omega arith,
      (next.1, t.1, (mid, t.0, code_takes most next.1 s mid others after (sym e3))),
    )))

code_again : (most : ℕ) (opens : List Bool) (s : Bounds) (bytes : List ℕ) (code : List Instr) (rest : List ℕ)
    → length bytes ≤ most → IsCode opens bytes code rest → code_at most opens s bytes ≡ Ok (code, rest)
unfolding kept_at
code_again most opens s bytes [] rest le h = rw (h.0, h.1) refl
code_again most [] s bytes (i ∷ code) rest le h = absurd (omega (arith, h.0))
code_again zero (b ∷ opens) s bytes (i ∷ code) rest le h = absurd (omega (arith, instr_shrinks bytes i h.1.2.0 h.1.2.1))
code_again (suc most) (b ∷ opens) s bytes (i ∷ code) rest le h =
    rw (
      instr_again b opens s bytes i h.1.0 h.1.2.0 h.1.2.1 h.1.1,
      code_again most h.1.0 s h.1.2.0 code rest (omega (arith, instr_shrinks bytes i h.1.2.0 h.1.2.1)) h.1.2.2,
    ) refl

instrs_within : (bytes : List ℕ) (code : List Instr) (rest : List ℕ) → AreInstrs bytes code rest → length rest ≤ length bytes
instrs_within bytes [] rest h = omega (arith, ap length h)
instrs_within bytes (i ∷ code) rest h = omega (arith, instr_shrinks bytes i h.0 h.1, instrs_within h.0 code rest h.2)

pub expression_law : Law SpellsExpression expression_at
unfolding expression_at each_kept_at
expression_law = record {
  takes = λ s bytes code rest e.
      let taken = code_takes (length bytes) (false ∷ []) s bytes code rest e in
      (code_spells (false ∷ []) bytes code rest taken, code_nested bytes code rest taken);
  again = λ s bytes code rest h. code_again (length bytes) (false ∷ []) s bytes code rest (omega arith) (nested_code bytes code rest h.0 h.1);
  within = λ bytes code rest h. instrs_within bytes code rest h.0;
}
