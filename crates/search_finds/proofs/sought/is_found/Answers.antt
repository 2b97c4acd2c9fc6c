use Rattle.std.proofs.Common.{◌≡◌, ◌↔◌, true, IfOk, subst, sym}
use Rattle.selection.specs.declared.sought.Find.{Find}
use Rattle.search_finds.specs.Finds.{IsFoundBy}
use Rattle.search_finds.proofs.sought.is_found.Goals as goal

pub returns-in-Words : goal.returns-in-Words
returns-in-Words c =
    subst (λ (f : Find). IfOk c.has_line_with.result (λ is. (is ≡ true) ↔ IsFoundBy f c.args.ending.now.outcomes)) (sym c.in-Words.is)
    c.has_line_with.ensures
