use Rattle.std.proofs.Common.{◌≡◌, ◌<◌, ◌≤◌, ℕ, get_or, max}
use Rattle.race_history.proofs.clocks.join.Given as goal

abbrev pub invariant-loop-n : goal.invariant-loop-n
invariant-loop-n l = record {
  done : (k : ℕ) → k < l.n → get_or l.row k 0 ≡ max (get_or l.initial.row k 0) (get_or l.other k 0);
  rest : (k : ℕ) → l.n ≤ k → get_or l.row k 0 ≡ get_or l.initial.row k 0;
}
