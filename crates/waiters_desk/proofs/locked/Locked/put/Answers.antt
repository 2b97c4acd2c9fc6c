use Rattle.std.proofs.Common.{ap, ◌∙◌}
use Rattle.types.specs.declared.limits.TheConstants.{DESK_NAME}
use Rattle.shared_memory.specs.History.{entries_of}
use Rattle.waiters_desk.proofs.Entering.{beside_from, met_beside, met_free, met_silent, put_result_beside, put_result_did, put_result_full}
use Rattle.waiters_desk.proofs.Locks.{reads_after}
use Rattle.waiters_desk.proofs.locked.Locked.put.Goals as goal

pub put-asked-requires-clause-turn : goal.put-asked-requires-clause-turn
put-asked-requires-clause-turn g c κs within =
    let self = c.args.self.now in record {
      right = c.meet.ensures.rights.0 ∙ self.right;
      beside = met_beside _ _ _ _ _ _ _ _ _ c.meet.ensures.longer self.right (beside_from _ _ self.tied self.legal);
    }

pub put-asked-requires-clause-free : goal.put-asked-requires-clause-free
put-asked-requires-clause-free g c κs within =
    let self = c.args.self.now in
    rw (c.meet.ensures.names.0) (met_free _ _ _ _ _ _ _ _ _ c.meet.ensures.longer self.right (beside_from _ _ self.tied self.legal) c.requires.free)

pub invariant_of-self-clause-tied : goal.invariant_of-self-clause-tied
invariant_of-self-clause-tied g c =
    let self = c.args.self.now in
    let asked = rw (c.meet.ensures.names.0) at (c.put-asked.ensures.asked) in
    let full = rw (c.meet.ensures.names.0) at (c.put-asked.ensures.full) in
    let last = rw (c.put-asked.ensures.stays.same.name_is, c.meet.ensures.names.0, c.meet.ensures.one) at c.meet-2.ensures.longer in
    let done = put_result_beside _ _ _ _ _ _ _ _ _ _ _ _ _ _ _ c.args.question _ c.meet.ensures.longer self.right (beside_from _ _ self.tied self.legal)
    (c.put-asked.ensures.turn.beside) last c.put-asked.result asked full in
    rw (c.meet-2.ensures.one) done.tied

pub invariant_of-self-clause-legal : goal.invariant_of-self-clause-legal
invariant_of-self-clause-legal g c =
    let self = c.args.self.now in
    let asked = rw (c.meet.ensures.names.0) at (c.put-asked.ensures.asked) in
    let full = rw (c.meet.ensures.names.0) at (c.put-asked.ensures.full) in
    let last = rw (c.put-asked.ensures.stays.same.name_is, c.meet.ensures.names.0, c.meet.ensures.one) at c.meet-2.ensures.longer in
    let done = put_result_beside _ _ _ _ _ _ _ _ _ _ _ _ _ _ _ c.args.question _ c.meet.ensures.longer self.right (beside_from _ _ self.tied self.legal)
    (c.put-asked.ensures.turn.beside) last c.put-asked.result asked full in
    rw (c.meet-2.ensures.one) done.legal

pub invariant_of-self-clause-silent : goal.invariant_of-self-clause-silent
invariant_of-self-clause-silent g c =
    let self = c.args.self.now in
    let first = met_silent _ _ _ _ _ _ _ _ c.meet.ensures.longer self.named self.silent in
    let both = ap (entries_of DESK_NAME) c.meet.ensures.one ∙ first in
    let named = c.meet.ensures.names.1 ∙ self.named in
    rw (c.meet-2.ensures.one) (met_silent _ _ _ _ _ _ _ _ c.meet-2.ensures.longer named both)

pub returns-clause-asked : goal.returns-clause-asked
returns-clause-asked g c =
    let self = c.args.self.now in
    let asked = rw (c.meet.ensures.names.0) at (c.put-asked.ensures.asked) in
    let last = rw (c.put-asked.ensures.stays.same.name_is, c.meet.ensures.names.0, c.meet.ensures.one) at c.meet-2.ensures.longer in
    put_result_did _ _ _ _ _ _ _ _ _ _ _ _ _ _ _ c.args.question (g.M.SharedMemory.limit c.args.memory.now)
    c.meet.ensures.longer self.right (beside_from _ _ self.tied self.legal)
    (c.put-asked.ensures.turn.beside) last c.put-asked.result asked

pub returns-clause-full : goal.returns-clause-full
returns-clause-full g c =
    let self = c.args.self.now in
    let full = rw (c.meet.ensures.names.0) at (c.put-asked.ensures.full) in
    let last = rw (c.put-asked.ensures.stays.same.name_is, c.meet.ensures.names.0, c.meet.ensures.one) at c.meet-2.ensures.longer in
    put_result_full _ _ _ _ _ _ _ _ _ _ _ _ _ _ _ c.args.question _ c.meet.ensures.longer self.right (beside_from _ _ self.tied self.legal)
    (c.put-asked.ensures.turn.beside) last c.put-asked.result full

pub returns-clause-reads : goal.returns-clause-reads
returns-clause-reads g c = reads_after _ _ c.meet-2.ensures.longer.seen.legal

pub put-asked-requires-clause-question : goal.put-asked-requires-clause-question
put-asked-requires-clause-question g c κs within = c.requires.question

pub returns-clause-unchanged : goal.returns-clause-unchanged
returns-clause-unchanged g c = c.put-asked.ensures.unchanged

pub returns-clause-exempt : goal.returns-clause-exempt
returns-clause-exempt g c = c.put-asked.ensures.exempt

pub invariant_of-self-clause-right : goal.invariant_of-self-clause-right
invariant_of-self-clause-right g c = c.meet-2.ensures.rights.1 ∙ c.put-asked.ensures.turn.right

pub returns-clause-stays : goal.returns-clause-stays
returns-clause-stays g c =
    let s = c.put-asked.ensures.stays in record {
      same = record {
        name_is = c.meet-2.ensures.names.0 ∙ s.same.name_is ∙ c.meet.ensures.names.0;
        right_is = c.meet-2.ensures.rights.0 ∙ c.meet.ensures.rights.1;
      };
      lost_is = c.meet-2.ensures.tries.0 ∙ s.lost_is ∙ c.meet.ensures.tries.0;
    }
