use Rattle.std.proofs.Common.{◌≡◌, ◌++◌, drop, string_bytes}
use Rattle.show_waits.specs.CycleTexts.{chain_text}
use Rattle.show_waits.proofs.cycle_texts.words_of.Given as goal

abbrev pub invariant-loop-next : goal.invariant-loop-next
invariant-loop-next l = string_bytes l.text ++ chain_text l.at (drop l.next-index l.others) l.n ≡ chain_text l.n l.others l.n
