use Rattle.std.proofs.Common.{ℕ, List, inr, subst}
use Rattle.wathread_c.specs.Kept.{SearchesNamedOver}
use Rattle.wathread_c.proofs.calling.search_held.Goals as goal

pub returns-in-Ok : goal.returns-in-Ok
returns-in-Ok c =
    inr (subst (λ (name : List ℕ). SearchesNamedOver c.args.held.now name c.args.args.now c.args.options.now c.args.text.now
    c.search_named.new.text c.search_named.new.answer c.search_named.result) c.in-Ok.ensures.cases.0 c.search_named.ensures)
