use Rattle.std.proofs.Common.{◌≡◌, ◌++◌, take, codes}
use Rattle.std.specs.String.{string_bytes}
use Rattle.std.specs.List.{flat_map}
use Rattle.show_told.specs.Functions.{typed_text}
use Rattle.show_told.proofs.functions.listed_text.Given as goal

abbrev pub invariant-loop-place : goal.invariant-loop-place
invariant-loop-place l = string_bytes l.text ≡ (codes "  " ++ l.name) ++ flat_map typed_text (take l.place l.words)
