use Rattle.std.proofs.Common.{sym, subst}
use Rattle.schedule.specs.Scheduled.{after_event}
use Rattle.search_runs.specs.Called.{system_of}
use Rattle.search_parts.specs.Walkers.{RestsAt}
use Rattle.search_parts.specs.declared.walker.RestingThread.{RestingThread}
use Rattle.search_modules.specs.Moved.{called}
use Rattle.search_modules.proofs.after.rested.Goals as goal

pub rest_after-requires-clause-after : goal.rest_after-requires-clause-after
rest_after-requires-clause-after c = let r = c.requires.after in (called c.args.searched.now, r.0, r.1, r.2)

pub rest_after-requires-clause-sound : goal.rest_after-requires-clause-sound
rest_after-requires-clause-sound c = c.args.searched.now.sound

pub rest_after-requires-clause-few : goal.rest_after-requires-clause-few
rest_after-requires-clause-few c = c.requires.few

pub returns-clause-rests : goal.returns-clause-rests
returns-clause-rests c =
    let s = c.args.searched.now in
    let rests = rw c.in-Some.is at c.in_ok-rest.ensures.rests in
    λ z e after. subst (λ (x : RestingThread). RestsAt s.valid.now (called s) ((after_event (system_of (called s)) z c.args.n e).threads c.args.m) x)
    (sym c.in_ok-walker.ensures) (rests (called s) z e after)

pub returns-in_default-clause-gives_up : goal.returns-in_default-clause-gives_up
returns-in_default-clause-gives_up c _ = λ z e after.
    (c.args.m, c.in_ok-rest.ensures.gives_up c.in_default.is (called c.args.searched.now) z e after)
