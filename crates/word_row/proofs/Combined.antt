-- What a read-modify-write makes of two values fits their width.
use Rattle.std.proofs.Common.{ℕ, ◌+◌, ◌-◌, ◌*◌, ◌^◌, ◌<◌, mod-lt, arith}
use Rattle.std.proofs.lemmas.Nat.{pow_pos, and_le_r, or_lt, xor_lt}
use Rattle.types.specs.declared.event.RmwOp.{RmwOp}
use Rattle.types.specs.declared.event.RmwOp.TheVariants as ops
use Rattle.shared_memory.specs.Memory.{combined}

pub combined-fits : (op : RmwOp) (width old value : ℕ) → old < 2 ^ (8 * width) → value < 2 ^ (8 * width) → combined op width old value < 2 ^ (8 * width)
combined-fits ops.Add width old value h k = mod-lt (old + value) (pow_pos (8 * width))
combined-fits ops.Sub width old value h k = mod-lt (old + (2 ^ (8 * width) - value)) (pow_pos (8 * width))
combined-fits ops.And width old value h k = let e = and_le_r old value in omega arith
combined-fits ops.Or width old value h k = or_lt (8 * width) old value h k
combined-fits ops.Xor width old value h k = xor_lt (8 * width) old value h k
combined-fits ops.Xchg width old value h k = k
