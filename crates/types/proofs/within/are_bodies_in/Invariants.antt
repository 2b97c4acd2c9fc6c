use Rattle.std.proofs.Common.{◌≡◌, drop}
use Rattle.std.specs.List.{list_all, zip}
use Rattle.types.specs.Tests.{is_body_within}
use Rattle.types.proofs.within.are_bodies_in.Given as goal

-- The bodies from here on are as they may be exactly where all are.
abbrev pub invariant-loop-i : goal.invariant-loop-i
invariant-loop-i l =
    list_all (λ f. is_body_within l.types f.0 f.1) (zip (drop l.i l.functions) (drop l.i l.bodies))
    ≡ list_all (λ f. is_body_within l.types f.0 f.1) (zip l.functions l.bodies)
