use Rattle.std.proofs.Common.{ℕ, List, inr, subst}
use Rattle.wathread_c.specs.Kept.{CallsNamed}
use Rattle.wathread_c.proofs.calling.call_held.Goals as goal

pub returns-in-Ok : goal.returns-in-Ok
returns-in-Ok c =
    inr (subst (λ (name : List ℕ). CallsNamed c.args.held.now c.call_named.new.held name c.args.args.now c.args.options.now c.args.record.now
    c.call_named.new.record c.call_named.new.answer c.call_named.result) c.in-Ok.ensures.cases.0 c.call_named.ensures)
