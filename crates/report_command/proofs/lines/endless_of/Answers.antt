use Rattle.std.proofs.Common.{true≢false, sym, ◌∙◌}
use Rattle.std.proofs.lemmas.Str.Pattern.{contains_text}
use Rattle.report_command.proofs.lines.endless_of.Goals as goal

pub returns-then-contains : goal.returns-then-contains
returns-then-contains c = (contains_text _ _ _ c.contains.ensures.cases).0 c.if-contains.true

pub returns-then-contains-2 : goal.returns-then-contains-2
returns-then-contains-2 c = (
  (contains_text _ _ _ c.contains-2.ensures.cases).0 c.if-contains-2.true,
  λ has. true≢false (sym ((contains_text _ _ _ c.contains.ensures.cases).1 has) ∙ c.if-contains.false),
)
