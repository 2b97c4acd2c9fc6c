use Rattle.waiters_desk.proofs.Turning.{quiet_beside}
use Rattle.waiters_desk.proofs.locked.Locked.new.Goals as goal

pub invariant_of-result-clause-tied : goal.invariant_of-result-clause-tied
invariant_of-result-clause-tied g c = let beside = quiet_beside _ c.requires.quiet in rw (c.new.ensures) beside.tied

pub invariant_of-result-clause-legal : goal.invariant_of-result-clause-legal
invariant_of-result-clause-legal g c = let beside = quiet_beside _ c.requires.quiet in beside.legal
