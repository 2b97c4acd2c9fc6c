use Rattle.std.proofs.Common.{◌≡◌, ℕ, ◌<◌, ◌≤◌, Some, slice_get}
use Rattle.types.specs.declared.event.Entry.{Entry}
use Rattle.show_named.specs.Lasts.{Does}
use Rattle.show_named.proofs.lasts.last_of.Given as goal

abbrev pub invariant-loop-place : goal.invariant-loop-place
invariant-loop-place l = (j : ℕ) (e : Entry) → l.place ≤ j → j < l.before → slice_get l.log j ≡ Some e → Does l.act e → ⊥
