use Rattle.std.proofs.Common.{sym, subst}
use Rattle.search_settled.specs.Settled.{MakesTurns}
use Rattle.search_parts.specs.Walkers.{RestsAt, patience}
use Rattle.search_runs.specs.Called.{system_of}
use Rattle.schedule.specs.Scheduled.{hears_any}
use Rattle.search_parts.proofs.resting.told.Goals as goal

pub returns-clause-rests : goal.returns-clause-rests
returns-clause-rests c = λ b v of rested awaits.
    let after = rw c.in-Some-2.is at c.in_ok-after.ensures.rests in
    subst (λ o. RestsAt c.args.valid.now b (hears_any (system_of b) v o) c.in-Some-2.after) (sym c.in-Some.is)
    (after b v of rested.stands (awaits c.in-Some.answer c.in-Some.is))

pub returns-in_default-2-clause-gives_up : goal.returns-in_default-2-clause-gives_up
returns-in_default-2-clause-gives_up c _ = λ b v of rested awaits.
    subst (λ o. MakesTurns (system_of b) patience (hears_any (system_of b) v o)) (sym c.in-Some.is)
    (c.in_ok-after.ensures.gives_up c.in_default-2.is b v of rested.stands (awaits c.in-Some.answer c.in-Some.is))
