use Rattle.std.proofs.Common.{ℕ, List, inr, subst}
use Rattle.wathread_c.specs.Calls.{SearchesNamed}
use Rattle.wathread_c.proofs.searching.wathread_search.Goals as goal

pub returns-in-Ok : goal.returns-in-Ok
returns-in-Ok c =
    inr (subst (λ (name : List ℕ). SearchesNamed c.args.module.now name c.args.args.now c.args.options.now c.args.text.now c.search_named.new.text
    c.search_named.new.answer c.search_named.result) c.in-Ok.ensures.cases.0 c.search_named.ensures)
