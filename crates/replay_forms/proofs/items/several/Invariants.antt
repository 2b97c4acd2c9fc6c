use Rattle.std.proofs.Common.{◌≡◌, ◌-◌, length}
use Rattle.replay_forms.specs.Reading.{several}
use Rattle.replay_forms.proofs.Repeated.{prepend}
use Rattle.replay_forms.proofs.items.several.Given as goal

abbrev pub invariant-loop-place : goal.invariant-loop-place
invariant-loop-place g l = record {
  so_far : prepend l.items.items (several (g.T.Item.at l.kind) l.place (l.most - l.place) l.rest) ≡ several (g.T.Item.at l.kind) 0 l.most l.fn.bytes;
  count : length l.items.items ≡ l.place;
}
