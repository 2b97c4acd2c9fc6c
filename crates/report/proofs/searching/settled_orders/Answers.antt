use Rattle.std.proofs.Common.{rules, ap, sym, refl, ◌∙◌}
use Rattle.report.proofs.Orders.{gone_by}
use Rattle.report.proofs.Pairs.{can_tell, raced_in}
use Rattle.report.specs.declared.searching.OrdersMet.{OrdersMet}
use Rattle.report.proofs.searching.settled_orders.Goals as goal

pub tell_race-requires : goal.tell_race-requires
tell_race-requires g c =
    can_tell c.args.call.request.now c.args.call.search.now c.args.call.allowed _ c.in-Ok.found.1 c.in-Ok.ensures.raced

pub tell_orders-requires : goal.tell_orders-requires
tell_orders-requires g c =
    (search rules, can_tell c.args.call.request.now c.args.call.search.now c.args.call.allowed _ c.in-Ok.found.1 c.in-Ok.ensures.raced)

pub returns-then-settles-clause-settled : goal.returns-then-settles-clause-settled
returns-then-settles-clause-settled g c =
    let q = c.args.call.request.now in
    let s = c.args.call.search.now in
    let may = c.args.call.allowed in
    let saved = g.S.Write.contents in
    let contents = g.W.Write.contents in
    let a = saved c.args.streams.now.save in
    let b = saved c.tell_race.new.streams.save in
    let last = saved c.tell_orders.new.streams.save in
    let before = contents c.args.streams.now.out in
    let between = contents c.tell_race.new.streams.out in
    let after = contents c.tell_orders.new.streams.out in
    let met : OrdersMet = record { whole = c.in-Ok.found.0; raced = c.in-Ok.found.1; most = c.args.orders.now.most } in
    let is_raced = c.in-Ok.ensures.raced in
    let pair = gone_by q s may c.requires.asked g.T.Teller.form c.requires.form met c.requires.every_order before between after a b last
    (λ no. ap saved (c.tell_race.ensures.unkept no)) c.in_ok-done.done.status c.in_ok-done.ensures.tells c.in-Ok.ensures.whole _ refl
    is_raced c.in_ok-tell_race.ensures.kept (c.in_ok-tell_race.ensures.tells (raced_in q s may _ c.in-Ok.found.1 is_raced)) in
    (pair.0, pair.1 ∙ (sym c.settles.ensures ∙ c.if-settles.true))

pub returns-then-settles-clause-others : goal.returns-then-settles-clause-others
returns-then-settles-clause-others g c = (
  (λ none. c.tell_orders.ensures.others.0 none ∙ c.tell_race.ensures.others.0 none),
  c.tell_orders.ensures.others.1 ∙ c.tell_race.ensures.others.1,
  c.tell_orders.ensures.others.2 ∙ c.tell_race.ensures.others.2,
)

pub returns-in_err-done-clause-others : goal.returns-in_err-done-clause-others
returns-in_err-done-clause-others g c = (
  (λ none. c.tell_orders.ensures.others.0 none ∙ c.tell_race.ensures.others.0 none),
  c.tell_orders.ensures.others.1 ∙ c.tell_race.ensures.others.1,
  c.tell_orders.ensures.others.2 ∙ c.tell_race.ensures.others.2,
)
