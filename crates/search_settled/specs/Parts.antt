-- The parts of a state.
use Rattle.std.specs.Prelude.{◌≡◌, List}
use Rattle.search_settled.specs.declared.flat.RestingState.{RestingState}

-- These are its parts.
abbrev pub HasParts : {G H : Type 0} → G → List H → RestingState G H → Type 0
HasParts shared threads c = (c.shared ≡ shared) × (c.threads.items ≡ threads)
