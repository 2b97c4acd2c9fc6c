use Rattle.std.proofs.Common.{◌≡◌, map, take}
use Rattle.std.specs.List.{enumerate_from}
use Rattle.show_moments.specs.Scenes.{typed_word}
use Rattle.show_moments.proofs.scene.typed_words.Given as goal

abbrev pub invariant-loop-place : goal.invariant-loop-place
invariant-loop-place l = l.typed.items ≡ map (typed_word l.types) (take l.place (enumerate_from 0 l.words))
