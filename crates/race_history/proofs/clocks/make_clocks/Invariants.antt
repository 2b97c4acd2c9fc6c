use Rattle.std.proofs.Common.{◌≡◌, ◌<◌, ℕ, None, get_or, length}
use Rattle.std.specs.Global.{Vec}
use Rattle.std.specs.List.{All}
use Rattle.race_history.specs.Sources.{last_of, rows}
use Rattle.race_history.specs.Clocks.{AreClocks}
use Rattle.race_history.proofs.clocks.make_clocks.Given as goal

abbrev pub invariant-loop-place : goal.invariant-loop-place
invariant-loop-place l = record {
  long : length l.previous.items ≡ l.threads;
  previous : (n : ℕ) → n < l.threads → get_or l.previous.items n None ≡ last_of l.log n l.place;
  wide : All (λ (v : Vec ℕ). length v.items ≡ l.threads) l.clocks.items;
  clocks : AreClocks l.log l.sites l.opening l.threads l.place (rows l.clocks.items);
}
