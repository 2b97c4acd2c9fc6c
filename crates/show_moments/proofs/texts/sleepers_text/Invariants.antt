use Rattle.std.proofs.Common.{◌≡◌, ◌++◌, take, codes}
use Rattle.std.specs.String.{string_bytes}
use Rattle.std.specs.List.{flat_map}
use Rattle.show_moments.specs.Texts.{sleeper_text}
use Rattle.show_moments.proofs.texts.sleepers_text.Given as goal

abbrev pub invariant-loop-place : goal.invariant-loop-place
invariant-loop-place l = string_bytes l.text ≡ codes "asleep:" ++ flat_map sleeper_text (take l.place l.sleepers)
