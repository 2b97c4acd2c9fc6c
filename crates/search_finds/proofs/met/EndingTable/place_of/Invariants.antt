use Rattle.std.proofs.Common.{ℕ, ◌<◌, ◌≢◌, get_or}
use Rattle.search_finds.specs.declared.met.Met.{Met}
use Rattle.search_finds.proofs.met.EndingTable.place_of.Given as goal

abbrev pub invariant-loop-place : goal.invariant-loop-place
invariant-loop-place l = (k : ℕ) → k < l.place → (d : Met) → (get_or l.self.met.items k d).ending ≢ l.ending
