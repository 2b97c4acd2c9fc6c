use Rattle.std.proofs.Common.{refl}
use Rattle.report.proofs.Wholly.{and_none}
use Rattle.report.proofs.searching.tell_race.Goals as goal

pub returns-clause-tells : goal.returns-clause-tells
returns-clause-tells g c raced = c.in_ok-tell.ensures.tells c.args.call.request.now.parts raced

pub returns-clause-others : goal.returns-clause-others
returns-clause-others g c = ((λ none. c.keep_raced.ensures.unwanted (and_none c.args.call.search.now.races none)), refl, refl)

pub returns-in_err-keep_raced-clause-others : goal.returns-in_err-keep_raced-clause-others
returns-in_err-keep_raced-clause-others g c =
    ((λ none. c.keep_raced.ensures.unwanted (and_none c.args.call.search.now.races none)), refl, refl)
