use Rattle.std.proofs.Common.{refl}
use Rattle.std.proofs.lemmas.Bool.{eq-eqb, eqb-true}
use Rattle.show_waits.proofs.Owned.{if_own, none_own, own_if}
use Rattle.show_waits.proofs.waits.is_own.Goals as goal

pub returns-in-Some : goal.returns-in-Some
returns-in-Some c = (
  λ same. own_if c.args.log.now c.args.n c.args.addrs c.in-Some.at c.in-Some.ensures.found _ (eqb-true _ _ same),
  λ own. eq-eqb _ _ (if_own c.args.log.now c.args.n c.args.addrs c.in-Some.at c.in-Some.ensures.found _ own),
)

pub returns-in-None : goal.returns-in-None
returns-in-None c = (λ no. absurd (cc no), λ own. absurd (none_own c.args.log.now c.args.n c.args.addrs (c.in-None.ensures.none refl) own))
