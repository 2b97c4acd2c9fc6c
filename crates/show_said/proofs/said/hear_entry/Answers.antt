use Rattle.std.proofs.Common.{◌≡◌, ◌∙◌, ℕ, List, get_or, sym, subst}
use Rattle.show_said.proofs.Entries.{line_set, lines_told}
use Rattle.show_said.proofs.said.hear_entry.Goals as goal

pub returns-clause-lines : goal.returns-clause-lines
returns-clause-lines c =
    let was = subst (λ (line : List ℕ). line ≡ get_or c.args.lines.now.items c.args.entry.now.thread line) (sym c.replace.ensures.value)
    c.index_mut.ensures.value in
    line_set c.args.ports.now c.args.lines.now.items c.args.entry.now c.in-Some.value c.requires c.in-Some.ensures
    c.replace.result c.into_vec-text.result.items was c.into_vec-text.ensures _ _ (c.from_vec.ensures ∙ c.in_ok-hear.ensures.line_is)

pub returns-clause-said : goal.returns-clause-said
returns-clause-said c =
    let was = subst (λ (line : List ℕ). line ≡ get_or c.args.lines.now.items c.args.entry.now.thread line) (sym c.replace.ensures.value)
    c.index_mut.ensures.value in
    lines_told c.args.ports.now c.args.lines.now.items c.args.entry.now c.in-Some.value c.requires c.in-Some.ensures
    c.replace.result c.into_vec-text.result.items was c.into_vec-text.ensures c.args.line _ _ c.in_ok-hear.ensures.said_is
