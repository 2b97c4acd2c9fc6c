use Rattle.std.proofs.Common.{ℕ, ◌<◌}
use Rattle.types.specs.declared.outcome.Outcome.{Outcome}
use Rattle.search_finds.specs.Words.{HasWordsAt}
use Rattle.search_finds.proofs.words.has_line_with.Given as goal

abbrev pub invariant-loop-thread : goal.invariant-loop-thread
invariant-loop-thread l = (k : ℕ) → k < l.thread → (o : Outcome) → HasWordsAt l.words l.ending.outcomes k o → ⊥
