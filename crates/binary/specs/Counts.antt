-- How many functions a module may have.
use Rattle.std.specs.Prelude.{ℕ, ◌-◌, List, count_by}
use Rattle.types.specs.Within.{is_func}
use Rattle.types.specs.declared.parts.Import.{Import}
use Rattle.types.specs.declared.limits.TheConstants.{MOST_FUNCTIONS}

-- The functions that a module with these imports may have of its own: 10,000 with the imported ones.
abbrev pub function_room : List Import → ℕ
function_room imports = MOST_FUNCTIONS - count_by (λ i. is_func i.desc) imports
