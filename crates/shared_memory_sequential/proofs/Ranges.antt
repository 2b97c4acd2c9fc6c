-- The ranges that an access is cut into are parts of it.
use Rattle.std.proofs.Common.{◌≡◌, ℕ, ◌+◌, ◌≤◌, Option, Some, None, arith}
use Rattle.shared_memory.specs.Events.{IsPart}
use Rattle.shared_memory_sequential.specs.declared.range.Part.{Part}
use Rattle.shared_memory_sequential.specs.Ranges.{SplitsInto, IsRest}

-- the first range is a part of the access
pub first_is_part : (addr width : ℕ) (first : Part) (second : Option Part) → width ≤ 8
    → SplitsInto addr width first second → IsPart first.addr first.width (addr + width)
first_is_part addr width first None at_most s =
    let alone : first.width ≡ width = s.alone in
    record {
      some = s.in_one_word.some;
      one_word = s.in_one_word.one_word;
      ends = omega arith;
      near = omega arith;
    }
first_is_part addr width first (Some second) at_most s =
    let rest : IsRest width first second = s.rest in
    record {
      some = s.in_one_word.some;
      one_word = s.in_one_word.one_word;
      ends = omega arith;
      near = omega arith;
    }

-- the second range is a part of the access
pub second_is_part : (addr width : ℕ) (first second : Part) → width ≤ 8 → SplitsInto addr width first (Some second)
    → IsPart second.addr second.width (addr + width)
second_is_part addr width first second at_most s =
    let rest : IsRest width first second = s.rest in
    record {
      some = rest.in_one_word.some;
      one_word = rest.in_one_word.one_word;
      ends = omega arith;
      near = omega arith;
    }
