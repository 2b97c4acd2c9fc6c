use Rattle.std.proofs.Common.{List, refl, sym, ◌∙◌, subst}
use Rattle.std.proofs.lemmas.Result.{err_from_is_err_and}
use Rattle.types.specs.declared.event.Entry.{Entry}
use Rattle.replay_walk.specs.Walked.{WalkCame}
use Rattle.replay.proofs.Deciding.{is_recorded}
use Rattle.search_scheduled.specs.Nowhere.{AreReports}
use Rattle.search_scheduled.proofs.Nowhere.{none_lacks, none_named}
use Rattle.search_scheduled.proofs.Unused.{unused_are}
use Rattle.search_scheduled.proofs.concluding.conclude.Goals as goal

pub returns-clause-concludes : goal.returns-clause-concludes
returns-clause-concludes g c = λ run came most budget limit. record {
  last = c.args.course.walk.memory;
  recorded = is_recorded run _ limit most budget (sym c.from_vec.ensures) c.deref-2.ensures.value came.walk
      c.pages-pages.ensures c.first_wrong_end.result c.first_wrong_end.ensures c.in-None.is;
  threads = c.in_ok-threads.ensures.items ∙ (c.deref.ensures.value ∙ sym c.from_vec-2.ensures);
  pages = refl;
  bytes = c.into_bytes.ensures;
}

pub returns-clause-unused : goal.returns-clause-unused
returns-clause-unused g c = λ run came. unused_are g.T.TakesTurns.meaning run c.args.course came _ c.in_ok-unused_of-in-None.ensures

pub returns-in_err-ends-clause-none : goal.returns-in_err-ends-clause-none
returns-in_err-ends-clause-none g c =
    let m = g.T.TakesTurns.meaning in
    let w = c.args.course.walk in
    let p = err_from_is_err_and c.from_residual.result c.from_residual.ensures.1 in
    rw (p.1, p.2) (λ same run made last came most budget limit header log recorded.
    none_lacks m run made (limit ∙ sym header.limit) (most ∙ sym header.threads) (budget ∙ sym header.fuel) w
    (subst (λ (l : List Entry). WalkCame m run l w) (sym log) came.walk) last recorded (c.in_err-ends.ensures.lacks same))

pub returns-in-Some-clause-none : goal.returns-in-Some-clause-none
returns-in-Some-clause-none g c = λ same run made last came most budget limit header log recorded.
    let m = g.T.TakesTurns.meaning in
    let w = c.args.course.walk in
    none_named m run made (limit ∙ sym header.limit) (most ∙ sym header.threads) (budget ∙ sym header.fuel) w
    (subst (λ (l : List Entry). WalkCame m run l w) (sym log) came.walk) last recorded _ budget
    (subst (AreReports m w) (sym c.from_vec-2.ensures) c.in_ok-ends.ensures.ends) (sym c.pages-pages.ensures) _ c.deref-2.ensures.value _
    c.pages-pages.ensures _ c.first_wrong_end.result c.in-Some.is c.first_wrong_end.ensures
