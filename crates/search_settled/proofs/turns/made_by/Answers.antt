use Rattle.std.proofs.Common.{subst}
use Rattle.search_settled.specs.Known.{IsNotedIn}
use Rattle.search_settled.proofs.Knowing.{recalled}
use Rattle.search_settled.proofs.turns.made_by.Goals as goal

pub returns-in-Some-clause-made : goal.returns-in-Some-clause-made
returns-in-Some-clause-made g c =
    let args = c.args in
    recalled (g.M.Moves.threads args.system.now) args.met.now c.requires.known args.shared args.thread args.n c.in-Some.turn
    (subst (λ l. IsNotedIn l args.shared args.thread args.n c.in-Some.turn) c.as_slice-known.ensures.value c.in-Some.ensures)
