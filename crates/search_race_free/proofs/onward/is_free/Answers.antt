use Rattle.std.proofs.Common.{◌∙◌, sym, eqb-true}
use Rattle.search_race_free.proofs.onward.is_free.Goals as goal

pub returns-in-Some : goal.returns-in-Some
returns-in-Some c same apart = absurd (apart (eqb-true c.args.m c.args.n same))

pub returns-in-None : goal.returns-in-None
returns-in-None c _ _ = sym c.next_of.ensures ∙ c.in-None.is
