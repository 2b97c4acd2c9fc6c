use Rattle.std.proofs.Common.{take}
use Rattle.std.specs.String.{string_bytes}
use Rattle.show_stacks.specs.Texts.{AddsCalls}
use Rattle.show_stacks.proofs.texts.push_calls.Given as goal

abbrev pub invariant-loop-at : goal.invariant-loop-at
invariant-loop-at l = AddsCalls l.code (take l.at l.calls) (string_bytes l.initial.text) (string_bytes l.text)
