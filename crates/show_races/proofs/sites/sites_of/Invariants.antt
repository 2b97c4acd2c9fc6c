use Rattle.std.proofs.Common.{◌≡◌}
use Rattle.show_races.specs.Sites.{sites_before}
use Rattle.show_races.proofs.sites.sites_of.Given as goal

abbrev pub invariant-loop-at : goal.invariant-loop-at
invariant-loop-at l = l.sites.items ≡ sites_before l.allowed l.shown l.at
