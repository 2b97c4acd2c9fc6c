use Rattle.std.proofs.Common.{sym, subst}
use Rattle.search_parts.specs.Walkers.{RestsAt}
use Rattle.schedule.specs.Scheduled.{after_event}
use Rattle.search_runs.specs.Called.{system_of}
use Rattle.search_parts.specs.declared.shared.HashedThread.{HashedThread}
use Rattle.search_parts.specs.Parts.{IsAfter}
use Rattle.search_modules.specs.Moved.{called}
use Rattle.search_modules.proofs.Following.{is_after, comes_after}
use Rattle.search_modules.proofs.after.thread_after.Goals as goal

pub is_untouched-requires : goal.is_untouched-requires
is_untouched-requires c = c.requires.few

pub rested-requires-clause-after : goal.rested-requires-clause-after
rested-requires-clause-after c =
    let s = c.args.searched.now in
    let r = c.requires.somewhere in (
      r.0,
      r.1,
      subst (λ (t : HashedThread). IsAfter s.valid.now s.worker c.args.made.now c.args.n t.standing c.args.m (called s) r.0 r.1) (sym c.walker-walker.ensures)
          (is_after s c.args.made.now c.args.n c.args.m c.args.thread.now.standing r.0 r.1 r.2 r.3),
    )

pub returns-then-is_untouched-clause-rests : goal.returns-then-is_untouched-clause-rests
returns-then-is_untouched-clause-rests c =
    let s = c.args.searched.now in
    comes_after s c.args.made.now c.args.n c.args.m c.args.thread.now c.in_ok-same.same
    (λ z e after. subst (λ (t : HashedThread). RestsAt s.valid.now (called s) ((after_event (system_of (called s)) z c.args.n e).threads c.args.m) t.standing)
    (sym c.in_ok-same.ensures)
    (c.is_untouched.ensures.untouched c.if-is_untouched.true s.valid.now s.worker c.args.thread.now.standing (called s) z e after))

pub returns-clause-rests : goal.returns-clause-rests
returns-clause-rests c =
    let s = c.args.searched.now in
    let rested = rw c.in-Some.is at c.in_ok-after.ensures.rests in
    comes_after s c.args.made.now c.args.n c.args.m c.args.thread.now c.in-Some.after
    (λ z e after. rested z e (subst (λ (t : HashedThread). IsAfter s.valid.now s.worker c.args.made.now c.args.n t.standing c.args.m (called s) z e)
    (sym c.walker-walker.ensures) after))

pub returns-in_default-clause-gives_up : goal.returns-in_default-clause-gives_up
returns-in_default-clause-gives_up c _ = λ z e made thread.
    let s = c.args.searched.now in
    c.in_ok-after.ensures.gives_up c.in_default.is z e
    (subst (λ (t : HashedThread). IsAfter s.valid.now s.worker c.args.made.now c.args.n t.standing c.args.m (called s) z e) (sym c.walker-walker.ensures)
    (is_after s c.args.made.now c.args.n c.args.m c.args.thread.now.standing z e made thread))
