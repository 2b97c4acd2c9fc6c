use Rattle.std.proofs.Common.{◌≡◌, ◌+◌, length, take}
use Rattle.std.specs.Prelude.{vec_capacity}
use Rattle.word_row.specs.Words.{words_of}
use Rattle.word_row.proofs.prepared.words.Given as goal

abbrev pub invariant-loop-k : goal.invariant-loop-k
invariant-loop-k l = record {
  items : l.words.items ≡ take (l.k + 1) (words_of l.initial.memory);
  count : length l.words.items ≡ l.k + 1;
  same : l.memory ≡ l.initial.memory;
  room : vec_capacity l.words ≡ l.count + 1;
}
