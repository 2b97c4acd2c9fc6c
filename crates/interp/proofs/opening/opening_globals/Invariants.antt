use Rattle.std.proofs.Common.{◌≡◌, map, take}
use Rattle.interp_machine.specs.Program.{constant_of}
use Rattle.interp.proofs.opening.opening_globals.Given as goal

abbrev pub invariant-loop-global : goal.invariant-loop-global
invariant-loop-global l = l.globals.items ≡ map (λ g. constant_of g.init) (take l.global-index l.parts.globals)
