use Rattle.std.proofs.Common.{subst}
use Rattle.search_settled.specs.Known.{IsNotedIn, IsTurnBy}
use Rattle.search_settled.proofs.Knowing.{turn-recalled}
use Rattle.search_race_free.specs.Known.{Stills, GoesOnAlone}
use Rattle.search_race_free.proofs.Rowing.{turn-known}
use Rattle.search_race_free.proofs.known.turn_by.Goals as goal

pub returns-in-Alone-clause-turn : goal.returns-in-Alone-clause-turn
returns-in-Alone-clause-turn g c =
    let k = g.M.Moves.threads c.args.system.now in
    let of = c.args.of in
    let turn = c.in-Some.turn in
    let so = turn-recalled Stills (GoesOnAlone k) c.args.parts.now c.args.known.now.items c.requires.known of.held of.thread of.n turn
    (subst (λ l. IsNotedIn l of.held of.thread of.n turn) c.as_slice.ensures.value c.in-Some.ensures) in
    turn-known k c.args.parts.now of (record { held = c.in-Alone.shared; thread = c.in-Alone.thread }) c.requires.of
    (λ h t a b. subst (IsTurnBy Stills (GoesOnAlone k) c.args.parts.now h t of.n) c.in-Alone.is (so h t a b))
