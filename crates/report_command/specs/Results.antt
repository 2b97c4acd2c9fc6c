-- The results that the command line spells.
use Rattle.std.specs.Prelude.{ℕ, ◌≡◌, ◌⊎◌, ◌++◌, List, codes}
use Rattle.types.specs.declared.outcome.Outcome.{Outcome}
use Rattle.types.specs.Outcomes.{outcome_text}

-- The words are the result as the line of a thread has it, or what is behind `ok ` there.
abbrev pub IsSpelledBy : List ℕ → Outcome → Type 0
IsSpelledBy words o = (outcome_text o ≡ words) ⊎ (outcome_text o ≡ codes "ok " ++ words)
