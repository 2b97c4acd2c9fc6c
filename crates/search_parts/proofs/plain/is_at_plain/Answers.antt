use Rattle.std.proofs.Common.{sym, ◌∙◌, ap}
use Rattle.std.specs.List.{slice_get}
use Rattle.search_settled.proofs.Threads.{at-get}
use Rattle.search_parts.proofs.Placing.{found, body-of, no-body, past}
use Rattle.search_parts.proofs.plain.is_at_plain.Goals as goal

pub returns-in_default : goal.returns-in_default
returns-in_default c = λ x kept. absurd (no-body c.args.valid.now c.args.kept.now x kept c.in_default.ensures)

pub returns-in-Some-get : goal.returns-in-Some-get
returns-in-Some-get c = λ x kept.
    let at = ap (λ l. slice_get l c.args.kept.now.pc) (sym c.as_slice.ensures)
    ∙ at-get c.as_slice.result.now c.args.kept.now.pc c.in-Some-get.instr.now c.in-Some-get.ensures.lookup.3.0 c.in-Some-get.ensures.lookup.1 in
    c.is_plain_access.ensures ∙ (sym (ap found at) ∙ body-of c.args.valid.now c.args.kept.now x kept c.in-Some.body.now c.in-Some.ensures)

pub returns-in-None : goal.returns-in-None
returns-in-None c = λ x kept.
    sym (ap (λ l. found (slice_get l c.args.kept.now.pc)) (sym c.as_slice.ensures) ∙
    ap found (past c.as_slice.result.now c.args.kept.now.pc c.in-None.ensures.lookup.3))
    ∙ body-of c.args.valid.now c.args.kept.now x kept c.in-Some.body.now c.in-Some.ensures
