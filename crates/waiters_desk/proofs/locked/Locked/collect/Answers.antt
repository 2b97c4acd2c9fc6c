use Rattle.std.proofs.Common.{ap, ◌∙◌}
use Rattle.types.specs.declared.limits.TheConstants.{DESK_NAME}
use Rattle.shared_memory.specs.History.{entries_of}
use Rattle.waiters_desk.proofs.Entering.{beside_from, met_beside, met_waiting, met_silent, collect_beside, collect_did}
use Rattle.waiters_desk.proofs.AtOnce.{due_waiting}
use Rattle.waiters_desk.proofs.locked.Locked.collect.Goals as goal

pub hear-answer-requires-clause-turn : goal.hear-answer-requires-clause-turn
hear-answer-requires-clause-turn g c κs within =
    let self = c.args.self.now in record {
      right = c.meet.ensures.rights.0 ∙ self.right;
      beside = met_beside _ _ _ _ _ _ _ _ _ c.meet.ensures.longer self.right (beside_from _ _ self.tied self.legal);
    }

pub hear-answer-requires-clause-due : goal.hear-answer-requires-clause-due
hear-answer-requires-clause-due g c κs within =
    let self = c.args.self.now in
    rw (c.meet.ensures.names.0)
    (due_waiting _ _ (met_waiting _ _ _ _ _ _ _ _ _ c.meet.ensures.longer self.right
    (beside_from _ _ self.tied self.legal) c.requires.waiting) c.requires.awake)

pub invariant_of-self-clause-tied : goal.invariant_of-self-clause-tied
invariant_of-self-clause-tied g c =
    let self = c.args.self.now in
    let heard = rw (c.meet.ensures.names.0) at (c.hear-answer.ensures.heard) in
    let due = rw (c.meet.ensures.names.0) at (c.hear-answer.ensures.due) in
    let after = rw (c.meet.ensures.names.0) at (c.hear-answer.ensures.after) in
    let last = rw (c.hear-answer.ensures.stays.same.name_is, c.meet.ensures.names.0, c.meet.ensures.one) at c.meet-2.ensures.longer in
    let beside = beside_from _ _ self.tied self.legal in
    let done = collect_beside _ _ _ _ _ _ _ _ _ _ _ _ _ _ _ c.meet.ensures.longer self.right beside
    (c.hear-answer.ensures.turn.beside) last _ c.requires.waiting due after heard in
    rw (c.meet-2.ensures.one) done.tied

pub invariant_of-self-clause-legal : goal.invariant_of-self-clause-legal
invariant_of-self-clause-legal g c =
    let self = c.args.self.now in
    let heard = rw (c.meet.ensures.names.0) at (c.hear-answer.ensures.heard) in
    let due = rw (c.meet.ensures.names.0) at (c.hear-answer.ensures.due) in
    let after = rw (c.meet.ensures.names.0) at (c.hear-answer.ensures.after) in
    let last = rw (c.hear-answer.ensures.stays.same.name_is, c.meet.ensures.names.0, c.meet.ensures.one) at c.meet-2.ensures.longer in
    let beside = beside_from _ _ self.tied self.legal in
    let done = collect_beside _ _ _ _ _ _ _ _ _ _ _ _ _ _ _ c.meet.ensures.longer self.right beside
    (c.hear-answer.ensures.turn.beside) last _ c.requires.waiting due after heard in
    rw (c.meet-2.ensures.one) done.legal

pub invariant_of-self-clause-silent : goal.invariant_of-self-clause-silent
invariant_of-self-clause-silent g c =
    let self = c.args.self.now in
    let first = met_silent _ _ _ _ _ _ _ _ c.meet.ensures.longer self.named self.silent in
    let both = ap (entries_of DESK_NAME) c.meet.ensures.one ∙ first in
    let named = c.meet.ensures.names.1 ∙ self.named in
    rw (c.meet-2.ensures.one) (met_silent _ _ _ _ _ _ _ _ c.meet-2.ensures.longer named both)

pub returns-clause-collected : goal.returns-clause-collected
returns-clause-collected g c =
    let self = c.args.self.now in
    let heard = rw (c.meet.ensures.names.0) at (c.hear-answer.ensures.heard) in
    let due = rw (c.meet.ensures.names.0) at (c.hear-answer.ensures.due) in
    let after = rw (c.meet.ensures.names.0) at (c.hear-answer.ensures.after) in
    let last = rw (c.hear-answer.ensures.stays.same.name_is, c.meet.ensures.names.0, c.meet.ensures.one) at c.meet-2.ensures.longer in
    let beside = beside_from _ _ self.tied self.legal in
    collect_did _ _ _ _ _ _ _ _ _ _ _ _ _ _ _ c.meet.ensures.longer self.right beside (c.hear-answer.ensures.turn.beside) last _ c.requires.waiting
    due after heard

pub invariant_of-self-clause-right : goal.invariant_of-self-clause-right
invariant_of-self-clause-right g c = c.meet-2.ensures.rights.1 ∙ c.hear-answer.ensures.turn.right

pub returns-clause-stays : goal.returns-clause-stays
returns-clause-stays g c =
    let s = c.hear-answer.ensures.stays in record {
      same = record {
        name_is = c.meet-2.ensures.names.0 ∙ s.same.name_is ∙ c.meet.ensures.names.0;
        right_is = c.meet-2.ensures.rights.0 ∙ c.meet.ensures.rights.1;
      };
      lost_is = c.meet-2.ensures.tries.0 ∙ s.lost_is ∙ c.meet.ensures.tries.0;
    }
