use Rattle.std.proofs.Common.{◌∙◌, ◌++◌, ℕ, ap, codes, string_bytes}
use Rattle.std.specs.Fmt.{decimal}
use Rattle.show_moments.proofs.scene.Scene.other_text.Goals as goal

pub returns : goal.returns
returns c = λ within. (
  string_bytes c.in_ok-entry.entry,
  c.in_ok-entry.ensures,
  c.in_ok-text.ensures.ok ∙ ap (λ (n : ℕ). codes "entry " ++ (decimal n ++ (codes " races with "
      ++ (string_bytes c.in_ok-entry.entry ++ codes "\n")))) c.line_of-line.ensures,
)
