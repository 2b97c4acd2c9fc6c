-- How an access is cut into ranges that each lie in one aligned word of 8 bytes.
use Rattle.std.specs.Prelude.{ℕ, ◌≡◌, ◌+◌, ◌%◌, ◌<◌, ◌≤◌, ◌↔◌, Option, IsSome, IfSome, IfNone}
use Rattle.shared_memory_sequential.specs.declared.range.Part.{Part}

-- A range has at least one byte, and its bytes lie in one aligned word of 8 bytes.
pub record InOneWord (part : Part) : Type 0 where
  pub some : 1 ≤ part.width
  pub one_word : part.addr % 8 + part.width ≤ 8

-- A second range begins in the next word, where the first one ends, and both have the whole width.
pub record IsRest (width : ℕ) (first second : Part) : Type 0 where
  pub follows : first.addr + first.width ≡ second.addr
  pub aligned : second.addr % 8 ≡ 0
  pub in_one_word : InOneWord second
  pub widths : first.width + second.width ≡ width

-- A range of so many bytes at an address is one range in one word, or two, and two only where it touches two words.
pub record SplitsInto (addr width : ℕ) (first : Part) (second : Option Part) : Type 0 where
  pub begins : first.addr ≡ addr
  pub in_one_word : InOneWord first
  pub two_exactly : IsSome second ↔ (8 < addr % 8 + width)
  pub alone : IfNone second (first.width ≡ width)
  pub rest : IfSome second (IsRest width first)
