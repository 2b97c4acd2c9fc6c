use Rattle.std.proofs.Common.{rules, ap, ◌∙◌}
use Rattle.std.proofs.lemmas.Result.{IfOk-weaker}
use Rattle.report_jobs.specs.Prints.{change}
use Rattle.report.specs.Rest.{TellsRest}
use Rattle.report.specs.Searched.{IsGoneThrough}
use Rattle.report.proofs.Orders.{gone_by}
use Rattle.report.specs.declared.searching.OrdersMet.{OrdersMet}
use Rattle.report.proofs.Pairs.{can_tell}
use Rattle.report.proofs.searching.search_orders.Goals as goal

pub tell_orders-requires : goal.tell_orders-requires
tell_orders-requires g c =
    (search rules, can_tell c.args.call.request.now c.args.call.search.now c.args.call.allowed _ c.in_ok-raced.raced c.in_ok-raced.ensures.raced)

pub returns-clause-searched : goal.returns-clause-searched
returns-clause-searched g c =
    let q = c.args.call.request.now in
    let s = c.args.call.search.now in
    let saved = g.S.Write.contents in
    let contents = g.W.Write.contents in
    let a = saved c.args.streams.now.save in
    let b = saved c.race_told.new.streams.save in
    let last = saved c.tell_orders.new.streams.save in
    let before = contents c.args.streams.now.out in
    let between = contents c.race_told.new.streams.out in
    let after = contents c.tell_orders.new.streams.out in
    let met : OrdersMet = record { whole = c.in_ok-whole.whole; raced = c.in_ok-raced.raced; most = c.args.orders.now.most } in
    IfOk-weaker c.tell_orders.result
    (λ done. TellsRest g.T.Teller.form q s met (change between after) (change b last) done.status)
    (λ done. IsGoneThrough c.args.orders.now.most q.parts s c.args.call.allowed (change before after) (change a last) done.status)
    (λ done rest. (gone_by q s c.args.call.allowed c.requires.asked g.T.Teller.form c.requires.form met c.requires.every_order before between after a b last
    (λ no. ap saved (c.race_told.ensures.unkept no)) done.status rest c.in_ok-whole.ensures.whole _ c.in_ok-whole.ensures.racing
    c.in_ok-raced.ensures.raced c.in_ok-raced.ensures.kept c.in_ok-raced.ensures.tells).0) c.tell_orders.ensures.tells

pub returns-clause-others : goal.returns-clause-others
returns-clause-others g c = (
  (λ none. c.tell_orders.ensures.others.0 none ∙ c.race_told.ensures.others.0 none),
  c.tell_orders.ensures.others.1 ∙ c.race_told.ensures.others.1,
  c.tell_orders.ensures.others.2 ∙ c.race_told.ensures.others.2,
)
