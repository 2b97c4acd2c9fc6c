use Rattle.std.proofs.Common.{◌≡◌, take, length}
use Rattle.std.specs.List.{fold}
use Rattle.search_table.specs.Tables.{mix}
use Rattle.search_table.proofs.states.digest_of.Given as goal

abbrev pub invariant-loop-word : goal.invariant-loop-word
invariant-loop-word l = l.digest ≡ fold mix (length l.row) (take l.word-index l.row)
