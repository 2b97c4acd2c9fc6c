-- The functions that were put in the place of their calls at an offset of the code.
use Rattle.std.specs.Prelude.{ℕ, find, Option, option_and_then}
use Rattle.std.specs.List.{slice_get}
use Rattle.dwarf_units.specs.Spans.{holds}
use Rattle.dwarf_frames.specs.declared.frames.Chain.{Chain}
use Rattle.dwarf_frames.specs.declared.chains.Chains.{Chains}

-- The chain of an offset, if it has one.
abbrev pub chain_at : Chains → ℕ → Option Chain
chain_at chains offset =
    option_and_then (λ span. slice_get chains.chains.items span.entry) (find (holds offset) chains.spans.items.items)
