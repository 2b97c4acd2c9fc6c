use Rattle.std.proofs.Common.{Option, Some, None, sym, subst}
use Rattle.std.specs.Prelude.{IfSome, option_map}
use Rattle.search_race_free.specs.Turns.{IsRaceOf}
use Rattle.search_race_free.specs.declared.race.ThreadRace.{ThreadRace}
use Rattle.search_race_free.specs.declared.states.RaceBehind.{RaceBehind}
use Rattle.search_race_free.specs.Same.{owning_eq, owning_alike}
use Rattle.search_race_free.specs.Reduced.{reduced_steps}
use Rattle.search_race_free.proofs.Missing.{goes-on-within, none-race}
use Rattle.search_race_free.proofs.Timing.{none-timed}
use Rattle.search_race_free.proofs.states.search_race_free.Goals as goal

race_of : (Is : ThreadRace → Type 0) (o : Option RaceBehind) → IfSome o (λ r. Is r.race) → IfSome (option_map (λ b. b.race) o) Is
race_of Is None h = tt
race_of Is (Some r) h = h

pub returns-clause-race : goal.returns-clause-race
returns-clause-race g c =
    let is = IsRaceOf g.M.Moves c.args.system.now in
    subst (λ (o : Option ThreadRace). IfSome o is) (sym c.racing.ensures) (race_of is c.in_ok-behind.behind c.in_ok-behind.ensures)

pub returns-clause-none : goal.returns-clause-none
returns-clause-none g c all =
    let m = c.args.system.now in
    let k = g.M.Moves.threads m in
    let r = c.in_ok-reached.ensures.reached in
    let met = c.in_ok-ended.ensures.all all in
    none-race k (g.M.Moves.ends m) (g.M.Moves.stuck m) (g.met.M.Moves.tame m) (g.met.M.Accesses.plain m) (g.met.M.Accesses.beyond m)
    g.M.Shared.PartialEq.eq g.M.Thread.PartialEq.eq
    (owning_alike g.M.Shared.PartialEq.eq g.M.Thread.PartialEq.eq g.met.M.Shared.Eq.laws g.met.M.Thread.Eq.laws k (g.met.M.Moves.same_shared m)
    (g.met.M.Moves.same_thread m))
    r.states (r.found.all met)
    (goes-on-within (reduced_steps k (g.M.Moves.ends m) (g.M.Moves.stuck m)) (owning_eq g.M.Shared.PartialEq.eq g.M.Thread.PartialEq.eq) r.states
    c.in_ok-reached.reached.moves.items (r.whole met))

pub returns-clause-untimed : goal.returns-clause-untimed
returns-clause-untimed g c all none =
    let m = c.args.system.now in
    let r = c.in_ok-reached.ensures.reached in
    none-timed (g.M.Moves.threads m) (g.M.Moves.ends m) (g.M.Moves.stuck m) (g.met.M.Moves.tame m) (g.met.M.Accesses.plain m)
    (g.met.M.Accesses.beyond m) r.states (r.found.all (c.in_ok-ended.ensures.all all))
    (λ s among. c.in_ok-timed.ensures.none (c.in_ok-ended.ensures.all all) none r.states (r.held).owning s among)

pub waits_timed-requires : goal.waits_timed-requires
waits_timed-requires g c = let r = c.in_ok-reached.ensures.reached in (r.states, (r.held).owning, r.found.sound)

pub race_in-requires : goal.race_in-requires
race_in-requires g c = let r = c.in_ok-reached.ensures.reached in (r.states, (r.held).owning, r.found.sound)

pub returns-clause-obeys : goal.returns-clause-obeys
returns-clause-obeys g c = c.in_ok-ended.ensures.obeys (g.F.Follows.wish c.args.follower.now) c.in_ok-reached.ensures.obeys
