use Rattle.std.proofs.Common.{ap, ◌∙◌}
use Rattle.types.specs.declared.limits.TheConstants.{DESK_NAME}
use Rattle.shared_memory.specs.History.{entries_of}
use Rattle.waiters_desk.proofs.Entering.{beside_from, met_silent, twice_beside, twice_enters, twice_none}
use Rattle.waiters_desk.proofs.Beginning.{begins_with}
use Rattle.waiters_desk.proofs.locked.Locked.begin.Goals as goal

pub invariant_of-self-clause-tied : goal.invariant_of-self-clause-tied
invariant_of-self-clause-tied g c =
    let self = c.args.self.now in
    let last = rw (c.meet.ensures.one) at c.meet-2.ensures.longer in
    let done = twice_beside _ _ _ _ _ _ _ _ _ _ _ _ _ c.meet.ensures.longer self.right
    (beside_from _ _ self.tied self.legal) (rw (c.meet.ensures.names.0) at last) in
    rw (c.meet-2.ensures.one) done.tied

pub invariant_of-self-clause-legal : goal.invariant_of-self-clause-legal
invariant_of-self-clause-legal g c =
    let self = c.args.self.now in
    let last = rw (c.meet.ensures.one) at c.meet-2.ensures.longer in
    let done = twice_beside _ _ _ _ _ _ _ _ _ _ _ _ _ c.meet.ensures.longer self.right
    (beside_from _ _ self.tied self.legal) (rw (c.meet.ensures.names.0) at last) in
    rw (c.meet-2.ensures.one) done.legal

pub invariant_of-self-clause-silent : goal.invariant_of-self-clause-silent
invariant_of-self-clause-silent g c =
    let self = c.args.self.now in
    let first = met_silent _ _ _ _ _ _ _ _ c.meet.ensures.longer self.named self.silent in
    let both = ap (entries_of DESK_NAME) c.meet.ensures.one ∙ first in
    let named = c.meet.ensures.names.1 ∙ self.named in
    rw (c.meet-2.ensures.one) (met_silent _ _ _ _ _ _ _ _ c.meet-2.ensures.longer named both)

pub returns-clause-begun : goal.returns-clause-begun
returns-clause-begun g c =
    let self = c.args.self.now in
    let last = rw (c.meet.ensures.names.0, c.meet.ensures.one) at c.meet-2.ensures.longer in
    let beside = beside_from _ _ self.tied self.legal in
    let name = c.meet-2.ensures.names.0 ∙ c.meet.ensures.names.0 in
    let told = rw (c.name.ensures, name) at c.arg_of.ensures in
    begins_with _ _ _ _ _ _ told c.requires.known (twice_beside _ _ _ _ _ _ _ _ _ _ _ _ _ c.meet.ensures.longer self.right beside last) c.requires.new
    (twice_enters _ _ _ _ _ _ _ _ _ _ _ _ _ c.meet.ensures.longer self.right beside last)
    (twice_none _ _ _ _ _ _ _ _ _ _ _ _ _ c.meet.ensures.longer self.right beside last c.requires.new)

pub returns-clause-stays : goal.returns-clause-stays
returns-clause-stays g c = record {
  same = record {
    name_is = c.meet-2.ensures.names.0 ∙ c.meet.ensures.names.0;
    right_is = c.meet-2.ensures.rights.0 ∙ c.meet.ensures.rights.1;
  };
  lost_is = c.meet-2.ensures.tries.0 ∙ c.meet.ensures.tries.0;
}
