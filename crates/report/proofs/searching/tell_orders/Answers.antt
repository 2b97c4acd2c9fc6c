use Rattle.std.proofs.Common.{rules, refl}
use Rattle.report.proofs.AllTold.{rest_told}
use Rattle.report.proofs.Keeping.{found_can}
use Rattle.report.proofs.searching.tell_orders.Goals as goal

pub kept_if_found-requires : goal.kept_if_found-requires
kept_if_found-requires g c = (
  search rules,
  found_can c.args.call.request.now c.args.call.search.now c.args.met.now.whole c.in_ok-behind.behind.found c.in_ok-behind.ensures.has,
)

pub returns-clause-tells : goal.returns-clause-tells
returns-clause-tells g c =
    let contents = g.W.Write.contents in
    let before = contents c.args.streams.now.out in
    let after = contents c.end_orders.new.out in
    record {
      told = _;
      whole_is = refl;
      raced_is = refl;
      most_is = refl;
      status_told = refl;
      dump_is = refl;
      found = c.in_ok-behind.behind.found;
      has = c.in_ok-behind.ensures.has;
      one = c.in_ok-behind.ensures.one;
      is_kept = c.in_ok-kept.ensures.kept;
      keeps_found = c.in_ok-end_orders.ensures.kept;
      tells = λ m raced. rest_told g.T.Teller.form m _ c.in_ok-behind.behind.found before (contents c.tell.new.out)
          (contents c.tell-2.new.out) after (c.in_ok-tell.ensures.tells m tt) (c.in_ok-tell-2.ensures.tells m tt)
          (c.in_ok-end_orders.ensures.tells m raced);
      status_is = c.in_ok-behind.ensures.status;
    }

pub returns-clause-others : goal.returns-clause-others
returns-clause-others g c = (c.end_orders.ensures.unwanted, refl, refl)
