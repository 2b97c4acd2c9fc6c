use Rattle.std.proofs.Common.{◌≡◌, ◌<◌, ℕ, false}
use Rattle.show_races.specs.Releases.{is_atomic_write}
use Rattle.show_races.proofs.release.next_atomic_write.Given as goal

abbrev pub invariant-loop-at : goal.invariant-loop-at
invariant-loop-at l = record {
  behind : l.first < l.at;
  none : (k : ℕ) → l.first < k → k < l.at → is_atomic_write l.log l.sites l.thread k ≡ false;
}
