use Rattle.std.proofs.Common.{◌≡◌, ◌++◌, map, take, vec_capacity}
use Rattle.interp_state.specs.Words.{word_of, AreInRange}
use Rattle.interp.proofs.opening.push_words.Given as goal

abbrev pub invariant-loop-value : goal.invariant-loop-value
invariant-loop-value l =
    record {
      items : l.words.items ≡ l.initial.words.items ++ map word_of (take l.value-index l.values);
      in_range : AreInRange (take l.value-index l.values);
      capacity : vec_capacity l.words ≡ vec_capacity l.initial.words;
    }
