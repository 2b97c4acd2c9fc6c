use Rattle.std.proofs.Common.{IfOk, subst}
use Rattle.std.proofs.lemmas.Result.{IfErr-weaker}
use Rattle.types.specs.declared.parts.Parts.{Parts}
use Rattle.report_jobs.specs.Arguments.{texts_in}
use Rattle.report_jobs.specs.Prints.{changed}
use Rattle.report_jobs.specs.Troubles.{IsTroubleOf}
use Rattle.report_telling.specs.Troubles.{IsOfSystem}
use Rattle.report.specs.Searched.{IsSearched}
use Rattle.report.proofs.Asking.{of_system}
use Rattle.report.proofs.searching.search_module.Goals as goal

pub returns-in-Lines-clause-searched : goal.returns-in-Lines-clause-searched
returns-in-Lines-clause-searched g c =
    let old = c.args.streams.now in
    let new = c.search_call.new.streams in
    let out = changed g.W.Write.contents old.out new.out in
    let save = changed g.S.Write.contents old.save new.save in
    subst (λ (m : Parts). IfOk c.search_call.result (λ done. IsSearched m c.args.asked.search.now c.args.asked.allowed out save done.status))
    c.request_of-request.ensures.parts c.search_call.ensures.searched

pub returns-in-Lines-clause-trouble : goal.returns-in-Lines-clause-trouble
returns-in-Lines-clause-trouble g c =
    let m = c.args.asked.«module».now.parts in
    let words = c.args.asked.search.now.call in
    IfErr-weaker c.search_call.result IsOfSystem (IsTroubleOf m words) (of_system m words.invoke.now (texts_in words.args.items))
    c.search_call.ensures.trouble

pub returns-clause-searched : goal.returns-clause-searched
returns-clause-searched g c =
    let old = c.args.streams.now in
    let new = c.search_call-in-Json.new.streams in
    let out = changed g.W.Write.contents old.out new.out in
    let save = changed g.S.Write.contents old.save new.save in
    subst (λ (m : Parts). IfOk c.search_call-in-Json.result (λ done. IsSearched m c.args.asked.search.now c.args.asked.allowed out save done.status))
    c.request_of-request.ensures.parts c.search_call-in-Json.ensures.searched

pub returns-clause-trouble : goal.returns-clause-trouble
returns-clause-trouble g c =
    let m = c.args.asked.«module».now.parts in
    let words = c.args.asked.search.now.call in
    IfErr-weaker c.search_call-in-Json.result IsOfSystem (IsTroubleOf m words) (of_system m words.invoke.now (texts_in words.args.items))
    c.search_call-in-Json.ensures.trouble
