use Rattle.show_races.specs.Sites.{opening_shown, sites_shown}
use Rattle.show_races.proofs.Laws.{each_below, races_within}
use Rattle.show_races.proofs.found.racing_pairs.Goals as goal

pub returns-clause-each : goal.returns-clause-each
returns-clause-each c =
    each_below c.args.shown.record.now.log (sites_shown c.args.allowed.now c.args.shown) (opening_shown c.args.shown) c.in_ok-all.all.pairs.items
    c.in_ok-all.all.is_cut c.args.most c.in_ok-all.ensures.each c.in_ok-all.ensures.cut

pub returns-clause-within : goal.returns-clause-within
returns-clause-within c =
    races_within c.args.shown.record.now.log (sites_shown c.args.allowed.now c.args.shown) (opening_shown c.args.shown) c.in_ok-all.all.pairs.items
    c.in_ok-all.ensures.races
