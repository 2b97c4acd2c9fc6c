-- The words of a memory, as loads of eight bytes find them.
use Rattle.std.proofs.Common.{◌≡◌, ◌≢◌, ℕ, ◌+◌, ◌%◌, Bool, true, false, cond, length, take, drop, refl, sym, ap, ◌∙◌, arith}
use Rattle.std.specs.Prelude.{nat_le}
use Rattle.std.proofs.lemmas.Bool.{leb-false}
use Rattle.std.proofs.lemmas.List.{drop_all}
use Rattle.types.specs.declared.event.Event.TheVariants.{Load}
use Rattle.types.specs.declared.event.Reply.{Reply}
use Rattle.types.specs.declared.event.Reply.TheVariants.{Value, OutOfBounds}
use Rattle.shared_memory.specs.Numbers.{le_number}
use Rattle.shared_memory.specs.Memory.{Memory, loaded, reply_of}
use Rattle.shared_memory_sequential.specs.Opening.{IsSized}

-- past the end there is nothing, and its number is zero
pub zero_past : (m : Memory) (addr : ℕ) (reply : Reply) → IsSized m → addr % 8 ≡ 0
    → reply ≡ reply_of m (Load addr 8 (addr + 8)) → ((word : ℕ) → reply ≢ Value word)
    → 0 ≡ le_number (take 8 (drop addr m.bytes))
zero_past m addr reply s aligned is none = by_test (nat_le (addr + 8) (length m.bytes)) refl
  where
    by_test : (b : Bool) → nat_le (addr + 8) (length m.bytes) ≡ b → 0 ≡ le_number (take 8 (drop addr m.bytes))
    by_test true e = absurd (none (loaded m addr 8) (is ∙ ap (λ t. cond t (Value (loaded m addr 8)) OutOfBounds) e))
    by_test false e =
        let whole = s.whole in
        let past = leb-false (addr + 8) (length m.bytes) e in
        sym (ap (λ l. le_number (take 8 l)) (drop_all addr m.bytes (omega arith)))
