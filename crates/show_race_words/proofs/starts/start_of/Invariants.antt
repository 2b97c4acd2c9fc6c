use Rattle.std.proofs.Common.{◌≡◌, ◌<◌, ℕ, false}
use Rattle.show_race_words.specs.Starts.{is_start}
use Rattle.show_race_words.proofs.starts.start_of.Given as goal

abbrev pub invariant-loop-at : goal.invariant-loop-at
invariant-loop-at l = (k : ℕ) → k < l.at → is_start l.log l.story l.thread k ≡ false
