use Rattle.std.proofs.Common.{ℕ, List, inr, subst}
use Rattle.wathread_c.specs.Calls.{RunsNamed}
use Rattle.wathread_c.proofs.running.wathread_run.Goals as goal

pub returns-in-Ok : goal.returns-in-Ok
returns-in-Ok c =
    inr (subst (λ (name : List ℕ). RunsNamed c.args.module.now name c.args.args.now c.args.options.now c.args.record.now c.run_named.new.record
    c.run_named.new.answer c.run_named.result) c.in-Ok.ensures.cases.0 c.run_named.ensures)
