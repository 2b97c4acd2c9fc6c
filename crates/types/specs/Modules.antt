-- Which parts make a module.
use Rattle.std.specs.Prelude.{◌≡◌, length}
use Rattle.std.specs.List.{All}
use Rattle.types.specs.declared.parts.Parts.{Parts}
use Rattle.types.specs.Within.{IsWithinLimits}
use Rattle.types.specs.Nesting.{IsExpression}

-- The parts keep the limits, each function has a body, and each expression is nested blocks with a final end.
pub record IsModule (m : Parts) : Type 0 where
  pub limits : IsWithinLimits m
  pub bodies : length m.functions ≡ length m.bodies
  pub initial_values : All (λ g. IsExpression g.init) m.globals
  pub element_offsets : All (λ e. IsExpression e.offset) m.elements
  pub data_offsets : All (λ d. IsExpression d.offset) m.data
  pub code : All (λ b. IsExpression b.code) m.bodies
