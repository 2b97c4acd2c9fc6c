use Rattle.std.proofs.Common.{◌<◌, ℕ, List, length, sym, subst}
use Rattle.show_said.proofs.Hearing.{letter_heard}
use Rattle.show_said.proofs.letters.hear_word.Goals as goal

pub loop-byte-preserved : goal.loop-byte-preserved
loop-byte-preserved c =
    let less = subst (λ (bytes : List ℕ). c.loop-byte.byte-index < length bytes) (sym c.to_le_bytes-bytes.ensures) c.loop-byte-test.true in
    letter_heard c.args.voice c.to_le_bytes-bytes.result c.loop-byte.byte-index _ less _ _ _ _ _ _ c.loop-byte.invariant
    c.in_ok-hear_byte.ensures
