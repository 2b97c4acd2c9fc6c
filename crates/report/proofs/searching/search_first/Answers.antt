use Rattle.std.proofs.Common.{ℕ, List, Option, ◌∙◌, inl, inr, subst}
use Rattle.report_jobs.specs.Prints.{change, changed}
use Rattle.report.specs.Searched.{IsDrawn}
use Rattle.report.proofs.AllTold.{by_first}
use Rattle.report.proofs.searching.search_first.Goals as goal

pub returns-in-Some-clause-searched : goal.returns-in-Some-clause-searched
returns-in-Some-clause-searched g c =
    let q = c.args.call.request.now in
    let s = c.args.call.search.now in
    let out = changed g.W.Write.contents c.args.streams.now.out c.settled_orders.new.streams.out in
    let save = changed g.S.Write.contents c.args.streams.now.save c.settled_orders.new.streams.save in
    by_first q.parts s c.args.call.allowed out save c.in-Some.done.status c.args.orders.now.most c.requires.every_order c.requires.first
    (inl (rw c.in-Some.is at c.in_ok-done.ensures.settled))

pub returns-in_ok-done-in-None-clause-searched : goal.returns-in_ok-done-in-None-clause-searched
returns-in_ok-done-in-None-clause-searched g c =
    let q = c.args.call.request.now in
    let s = c.args.call.search.now in
    let may = c.args.call.allowed in
    let contents = g.W.Write.contents in
    let saved = g.S.Write.contents in
    let new = c.search_drawn.new.streams in
    let between = c.settled_orders.new.streams in
    let status = c.in_ok-done-in-None.done.status in
    let same = c.in_ok-done.ensures.unsettled c.in-None.is in
    let drawn = subst (λ (o : Option (List ℕ)). IsDrawn q.parts s may (change o (contents new.out)) (changed saved between.save new.save) status)
    same.0 c.in_ok-done-in-None.ensures.searched in
    let is = subst (λ (o : Option (List ℕ)). IsDrawn q.parts s may (changed contents c.args.streams.now.out new.out) (change o (saved new.save)) status)
    same.1 drawn in
    by_first q.parts s may _ _ status c.args.orders.now.most c.requires.every_order c.requires.first (inr is)

pub returns-in_ok-done-in-None-clause-others : goal.returns-in_ok-done-in-None-clause-others
returns-in_ok-done-in-None-clause-others g c = (
  (λ none. c.search_drawn.ensures.others.0 none ∙ c.settled_orders.ensures.others.0 none),
  c.search_drawn.ensures.others.1 ∙ c.settled_orders.ensures.others.1,
  c.search_drawn.ensures.others.2 ∙ c.settled_orders.ensures.others.2,
)

pub returns-in_err-done-in-None-clause-others : goal.returns-in_err-done-in-None-clause-others
returns-in_err-done-in-None-clause-others g c = (
  (λ none. c.search_drawn.ensures.others.0 none ∙ c.settled_orders.ensures.others.0 none),
  c.search_drawn.ensures.others.1 ∙ c.settled_orders.ensures.others.1,
  c.search_drawn.ensures.others.2 ∙ c.settled_orders.ensures.others.2,
)
