use Rattle.std.proofs.Common.{◌/◌, ℕ, List, length, ap}
use Rattle.types.specs.declared.limits.TheConstants.{PAGE_SIZE}
use Rattle.locked_recorder.proofs.Access.{recorded, bounded}
use Rattle.locked_recorder.proofs.keeper.Keeper.finish.Goals as goal

pub returns-clause-record : goal.returns-clause-record
returns-clause-record g c = recorded _ _ _ _ _ _ _ c.self.invariant.3 (ap (λ (b : List ℕ). length b / PAGE_SIZE) c.bytes.ensures.value) c.into_bytes.ensures

pub returns-clause-bounds : goal.returns-clause-bounds
returns-clause-bounds g c =
    bounded _ _ _ _ _ _ _ c.self.invariant.3 c.self.invariant.2 (ap (λ (b : List ℕ). length b / PAGE_SIZE) c.bytes.ensures.value) c.bytes.ensures.sized
