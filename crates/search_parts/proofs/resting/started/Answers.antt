use Rattle.std.proofs.Common.{inl, inr, sym, subst}
use Rattle.interp_machine.specs.State.{At}
use Rattle.search_threads.specs.Unlimited.{Unlimited.Going}
use Rattle.search_settled.specs.Settled.{MakesTurns}
use Rattle.search_runs.specs.Called.{system_of}
use Rattle.search_parts.specs.Walkers.{RestsAt, patience}
use Rattle.search_parts.specs.Parts.{AreWorkers, IsWorkerFunction}
use Rattle.search_parts.proofs.resting.started.Goals as goal

pub begin-requires-clause-begins : goal.begin-requires-clause-begins
begin-requires-clause-begins c =
    let k : IsWorkerFunction c.args.valid.now.parts c.requires.starts.0 c.in-Some.own =
    subst (λ o. AreWorkers c.args.valid.now.parts c.requires.starts.0 o) c.in-Some.is c.requires.starts.1 in
    (k.func_type, k.body, k.function, sym k.takes)

pub returns-clause-rests : goal.returns-clause-rests
returns-clause-rests c = λ b of workers.
    let k : IsWorkerFunction c.args.valid.now.parts b.worker c.in-Some.own = subst (λ o. AreWorkers c.args.valid.now.parts b.worker o) c.in-Some.is workers in
    let rested = rw c.in-Some-2.is at c.in_ok-standing.ensures.rests in
    subst (λ x. RestsAt c.args.valid.now b (Going (At x)) c.in-Some-2.standing) (sym (k.begins c.args.begun.id c.args.begun.arg))
    (rested b k.func_type k.body of k.function)

pub returns-in_default-clause-gives_up : goal.returns-in_default-clause-gives_up
returns-in_default-clause-gives_up c _ = λ b of workers. inr c.in_default.is

pub returns-in_default-2-clause-gives_up : goal.returns-in_default-2-clause-gives_up
returns-in_default-2-clause-gives_up c _ = λ b of workers.
    let k : IsWorkerFunction c.args.valid.now.parts b.worker c.in-Some.own = subst (λ o. AreWorkers c.args.valid.now.parts b.worker o) c.in-Some.is workers in
    inl (subst (λ x. MakesTurns (system_of b) patience (Going (At x))) (sym (k.begins c.args.begun.id c.args.begun.arg))
    (c.in_ok-standing.ensures.gives_up c.in_default-2.is b k.func_type k.body of k.function))
