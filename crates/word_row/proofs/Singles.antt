-- The single exchanges that make a store of a whole word and the read-modify-writes.
use Rattle.std.proofs.Common.{◌≡◌, ℕ, ◌+◌, ◌%◌, ◌^◌, ◌<◌, refl, sym, ap, ◌∙◌, subst, bit_and, bit_or, bit_xor, arith}
use Rattle.types.specs.declared.event.Event.TheVariants.{Store, Rmw}
use Rattle.types.specs.declared.event.RmwOp.{RmwOp}
use Rattle.types.specs.declared.event.RmwOp.TheVariants as ops
use Rattle.shared_memory.specs.Events.{IsPart, IsAtomic, FitsWidth}
use Rattle.shared_memory.specs.Memory.{combined}
use Rattle.shared_memory_sequential.specs.Words.{lane_of, IsWithLane}
use Rattle.shared_memory_sequential.proofs.Operators.{IsBitwise, bitwise_lane, whole_lane, lane_of-whole}
use Rattle.shared_memory_sequential.proofs.Operators.{and_is_bitwise, or_is_bitwise, xor_is_bitwise, and_ones, or_zeros, xor_zeros}
use Rattle.word_row.specs.Answers.{IsMadeBy, after_single}
use Rattle.word_row.specs.declared.single.Single.TheVariants as single
use Rattle.word_row.proofs.Settling.{atomic_in_word}

-- A store of a whole word.
pub store_made : (addr reach value : ℕ) → IsPart addr 8 reach → IsMadeBy (Store addr 8 reach value) (λ _. value)
store_made addr reach value part max word small = let one = part.one_word in whole_lane word addr value (omega arith)

-- A read-modify-write of a whole word makes of it what it makes of its lane.
whole_made : (op : RmwOp) (addr value : ℕ) (makes : ℕ → ℕ) → IsAtomic addr 8
    → ((word : ℕ) → word < 2 ^ 64 → combined op 8 word value ≡ makes word) → IsMadeBy (Rmw op addr 8 value) makes
whole_made op addr value makes atomic same max word small =
    let lane : lane_of word addr 8 ≡ word = lane_of-whole word addr small atomic.aligned in
    subst (λ (n : ℕ). IsWithLane word addr 8 n (makes word)) (sym (ap (λ n. combined op 8 n value) lane ∙ same word small))
    (whole_lane word addr (makes word) atomic.aligned)

pub swap_made : (addr value : ℕ) → IsAtomic addr 8 → IsMadeBy (Rmw ops.Xchg addr 8 value) (after_single (single.Swap value))
swap_made addr value atomic = whole_made ops.Xchg addr value (λ _. value) atomic (λ word small. refl)

pub add_made : (addr value : ℕ) → IsAtomic addr 8 → IsMadeBy (Rmw ops.Add addr 8 value) (after_single (single.Add value))
add_made addr value atomic = whole_made ops.Add addr value (λ word. (word + value) % 2 ^ 64) atomic (λ word small. refl)

-- to subtract is to add the negated value
pub sub_made : (addr value negated : ℕ) → IsAtomic addr 8 → value < 2 ^ 64 → negated < 2 ^ 64 → (negated + value) % 2 ^ 64 ≡ 0
    → IsMadeBy (Rmw ops.Sub addr 8 value) (after_single (single.Add negated))
sub_made addr value negated atomic fits negated_fits is =
    whole_made ops.Sub addr value (λ word. (word + negated) % 2 ^ 64) atomic (λ word small. omega (arith, is))

-- A bitwise read-modify-write of any width, by an operand that leaves the bits outside its lane as they are.
module _ (op : RmwOp) (f : ℕ → ℕ → ℕ) (bitwise : IsBitwise f) (outside addr width value operand : ℕ)
    (outside_fits : outside < 2 ^ 64) (operand_fits : operand < 2 ^ 64)
    (is : (n : ℕ) → combined op width n value ≡ f n value) (leaves : (word : ℕ) → word < 2 ^ 64 → f word outside ≡ word) where
  bitwise_made : IsAtomic addr width → FitsWidth width value → IsWithLane outside addr width value operand
      → IsMadeBy (Rmw op addr width value) (λ word. f word operand)
  bitwise_made atomic fits lane max word small =
      subst (λ (n : ℕ). IsWithLane word addr width n (f word operand)) (sym (is (lane_of word addr width)))
      (bitwise_lane f bitwise word addr width value outside operand outside_fits operand_fits
      (atomic_in_word addr width atomic).one_word fits (leaves word small) lane)

pub and_made : (addr width value operand : ℕ) → operand < 2 ^ 64 → IsAtomic addr width → FitsWidth width value
    → IsWithLane 18446744073709551615 addr width value operand → IsMadeBy (Rmw ops.And addr width value) (after_single (single.And operand))
and_made addr width value operand operand_fits =
    bitwise_made ops.And bit_and and_is_bitwise 18446744073709551615 addr width value operand (omega arith) operand_fits (λ n. refl) and_ones

pub or_made : (addr width value operand : ℕ) → operand < 2 ^ 64 → IsAtomic addr width → FitsWidth width value
    → IsWithLane 0 addr width value operand → IsMadeBy (Rmw ops.Or addr width value) (after_single (single.Or operand))
or_made addr width value operand operand_fits =
    bitwise_made ops.Or bit_or or_is_bitwise 0 addr width value operand (omega arith) operand_fits (λ n. refl) (λ word _. or_zeros word)

pub xor_made : (addr width value operand : ℕ) → operand < 2 ^ 64 → IsAtomic addr width → FitsWidth width value
    → IsWithLane 0 addr width value operand → IsMadeBy (Rmw ops.Xor addr width value) (after_single (single.Xor operand))
xor_made addr width value operand operand_fits =
    bitwise_made ops.Xor bit_xor xor_is_bitwise 0 addr width value operand (omega arith) operand_fits (λ n. refl) (λ word _. xor_zeros word)
