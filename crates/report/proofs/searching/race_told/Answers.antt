use Rattle.report.proofs.Pairs.{can_tell, raced_in}
use Rattle.report.proofs.searching.race_told.Goals as goal

pub tell_race-requires : goal.tell_race-requires
tell_race-requires g c =
    can_tell c.args.call.request.now c.args.call.search.now c.args.call.allowed _ c.in_ok-raced.raced c.in_ok-raced.ensures.raced

pub returns-clause-tells : goal.returns-clause-tells
returns-clause-tells g c =
    c.in_ok-tell_race.ensures.tells
    (raced_in c.args.call.request.now c.args.call.search.now c.args.call.allowed _ c.in_ok-raced.raced c.in_ok-raced.ensures.raced)
