use Rattle.dwarf_frames.specs.Scopes.{BeginsWith}
use Rattle.dwarf_frames.proofs.scopes.scopes_from.Given as goal

abbrev pub invariant-loop : goal.invariant-loop
invariant-loop l = BeginsWith l.fn.function l.scopes.items
