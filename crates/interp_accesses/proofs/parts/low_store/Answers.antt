use Rattle.std.proofs.Common.{arith}
use Rattle.interp_accesses.proofs.Cuts.{first_stored}
use Rattle.interp_accesses.proofs.parts.low_store.Goals as goal

pub returns : goal.returns
returns c = first_stored _ _ _ _ _ _ c.bytes_in_first-first.ensures (let e = c.from.ensures in omega arith) c.low_bytes.ensures
