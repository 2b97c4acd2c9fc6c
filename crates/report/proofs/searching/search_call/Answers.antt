use Rattle.std.proofs.lemmas.Result.{IfOk-weaker}
use Rattle.report_jobs.specs.Prints.{changed}
use Rattle.report.specs.Searched.{IsDrawn, IsGoneThrough, IsSearched}
use Rattle.report.proofs.AllTold.{by_draws, by_orders}
use Rattle.report.proofs.searching.search_call.Goals as goal

pub returns-else-search-2-clause-searched : goal.returns-else-search-2-clause-searched
returns-else-search-2-clause-searched g c =
    let q = c.args.call.request.now in
    let s = c.args.call.search.now in
    let may = c.args.call.allowed in
    let out = changed g.W.Write.contents c.args.streams.now.out c.search_orders.new.streams.out in
    let save = changed g.S.Write.contents c.args.streams.now.save c.search_orders.new.streams.save in
    IfOk-weaker c.search_orders.result (λ done. IsGoneThrough c.in-Some-all.most q.parts s may out save done.status)
    (λ done. IsSearched q.parts s may out save done.status)
    (λ done gone. by_orders q.parts s may out save done.status c.in-Some-all.most c.in-Some-all.is c.if-search-2.false gone) c.search_orders.ensures.searched

pub returns-in-None-all-clause-searched : goal.returns-in-None-all-clause-searched
returns-in-None-all-clause-searched g c =
    let q = c.args.call.request.now in
    let s = c.args.call.search.now in
    let may = c.args.call.allowed in
    let out = changed g.W.Write.contents c.args.streams.now.out c.search_drawn.new.streams.out in
    let save = changed g.S.Write.contents c.args.streams.now.save c.search_drawn.new.streams.save in
    IfOk-weaker c.search_drawn.result (λ done. IsDrawn q.parts s may out save done.status)
    (λ done. IsSearched q.parts s may out save done.status)
    (λ done drawn. by_draws q.parts s may out save done.status c.in-None-all.is drawn) c.search_drawn.ensures.searched
