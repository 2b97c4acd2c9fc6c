-- The program's tables are the groups of opcodes and of numbers.
use Rattle.std.proofs.Common.{◌≡◌, ℕ, ◌+◌, ◌-◌, ◌<◌, ◌≤◌, List, [], ◌∷◌, map, length, slice_index_or, Option, None, refl, ap, ◌∙◌, arith}
use Rattle.std.proofs.lemmas.Bool.{le-ltb}
use Rattle.std.specs.List.{range_with_len}
use Rattle.std.proofs.lemmas.List.{get_or_past}
use Rattle.std.proofs.lemmas.List.FromFn.{get_or-map-range_with_len}
use Rattle.binary_instructions.specs.declared.opcodes.TheConstants.{OPCODES, ATOMICS}
use Rattle.binary_instructions.specs.declared.opcodes.AtomicShape.{AtomicShape}
use Rattle.binary_instructions.specs.Opcodes.{Group, Opcode, opcode, atomic_number, atomic_groups, among}

opcodes_are : OPCODES ≡ map opcode (range_with_len 0 256)
unfolding opcode
opcodes_are = refl

pub opcode_is : (index code : ℕ) (d : Opcode) → index ≡ code → code < 256 → slice_index_or OPCODES index d ≡ opcode code
opcode_is index code d e lt = ap (λ xs. slice_index_or xs index d) opcodes_are ∙ get_or-map-range_with_len opcode 0 256 index code d (omega arith) (omega arith)

atomics_are : ATOMICS ≡ map atomic_number (range_with_len 0 79)
unfolding atomic_number
atomics_are = refl

pub atomic_is : (n : ℕ) (d : Option AtomicShape) → n < 79 → slice_index_or ATOMICS n d ≡ atomic_number n
atomic_is n d lt = ap (λ xs. slice_index_or xs n d) atomics_are ∙ get_or-map-range_with_len atomic_number 0 79 n n d lt (omega arith)

-- past the last number of a group
past_group : {A : Type 0} (g : Group A) (groups : List (Group A)) (other : A) (n : ℕ)
    → g.first + length g.members ≤ n → among (g ∷ groups) other n ≡ among groups other n
past_group g groups other n le =
    rw (le-ltb n g.first (omega arith)) (get_or_past g.members (n - g.first) (among groups other n) (omega arith))

AllBelow : {A : Type 0} → ℕ → List (Group A) → Type 0
AllBelow top [] = Unit {0}
AllBelow top (g ∷ groups) = (g.first + length g.members ≤ top) × AllBelow top groups

past_groups : {A : Type 0} (top : ℕ) (groups : List (Group A)) (other : A) (n : ℕ) → AllBelow top groups → top ≤ n → among groups other n ≡ other
unfolding AllBelow
past_groups top [] other n below le = refl
past_groups top (g ∷ groups) other n below le = past_group g groups other n (omega (arith, below.0)) ∙ past_groups top groups other n below.1 le

pub atomic_past : (n : ℕ) → 79 ≤ n → atomic_number n ≡ None
unfolding atomic_number AllBelow
atomic_past n le =
    past_groups 79 atomic_groups None n (
      omega arith,
      (
        omega arith,
        (
          omega arith,
          (
            omega arith,
            (omega arith, (omega arith, (omega arith, (omega arith, (omega arith, (omega arith, tt)))))),
          ),
        ),
      ),
    ) le
