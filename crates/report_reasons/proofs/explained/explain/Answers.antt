use Rattle.std.proofs.Common.{◌≡◌, ◌∙◌, List, [], ◌++◌, ℕ, if◌then◌else◌, ap, subst, sym}
use Rattle.std.specs.Prelude.{Err, IfOk, Ok, Result, ⊤, is_ok}
use Rattle.std.specs.String.{string_bytes}
use Rattle.report_jobs.specs.declared.undone.Done.{Done}
use Rattle.report_jobs.specs.declared.undone.Undone.{Undone}
use Rattle.report_reasons.specs.Reasons.{Explains}
use Rattle.report_reasons.proofs.Explaining.{explains_behind}
use Rattle.report_reasons.proofs.explained.explain.Goals as goal

-- where it is put behind the text, and where memory for it is refused
written : {E : Type 0} (ended : Result Done Undone) (saved old lines text new : List ℕ) (r : Result ⊤ E) → text ≡ lines → Explains ended saved [] lines
    → new ≡ (if is_ok r then old ++ text else old) → IfOk r (λ _. Explains ended saved old new)
written ended saved old lines text new (Err e) same here is = tt
written ended saved old lines text new (Ok done) same here is =
    subst (λ (xs : List ℕ). Explains ended saved old xs) (sym (is ∙ ap (λ (t : List ℕ). old ++ t) same)) (explains_behind ended saved old lines here)

pub returns-clause-line : goal.returns-clause-line
returns-clause-line c =
    let ended = c.args.ended.now in
    let saved = c.args.given.saved.now in
    let old = string_bytes c.args.out.now in
    let lines = string_bytes c.write_lines.new.out in
    let here : Explains ended saved [] lines =
    subst (λ (xs : List ℕ). Explains ended saved xs lines) c.new-lines.ensures.bytes c.in_ok-write_lines.ensures in
    written ended saved old lines c.as_str.result.now (string_bytes c.push_str.new.self) c.push_str.result c.as_str.ensures.value here
    c.push_str.ensures.bytes
