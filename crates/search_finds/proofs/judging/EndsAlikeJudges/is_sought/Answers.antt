use Rattle.std.proofs.Common.{sym, ◌∙◌}
use Rattle.search_endings.specs.Equal.{equal_ones, same_ones}
use Rattle.search_finds.proofs.judging.EndsAlikeJudges.is_sought.Goals as goal

pub returns : goal.returns
returns c = (
  λ t. sym c.in_ok-ending.ensures ∙ equal_ones _ _ (sym c.eq.ensures ∙ t),
  λ same. c.eq.ensures ∙ same_ones _ _ (c.in_ok-ending.ensures ∙ same),
)
