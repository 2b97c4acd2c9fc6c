use Rattle.std.proofs.Common.{List, Option, subst}
use Rattle.std.proofs.lemmas.Result.{IfOk-weaker}
use Rattle.show_rows.specs.declared.rows.Row.{Row}
use Rattle.show_races.specs.Races.{Says, SaysOfRun}
use Rattle.show_races.specs.Rows.{sites_of}
use Rattle.show_races.specs.Sites.{opening_of}
use Rattle.search_races.proofs.judge.has_race.Goals as goal

pub returns : goal.returns
returns c =
    let m = c.args.module.now.parts in
    let r = c.args.record.now in
    let seen = c.in-Ok.ensures.run in
    IfOk-weaker c.is_racy_by.result _ (SaysOfRun c.args.allowed.now m r)
    (λ is says. record {
      rows = c.in-Ok.rows.items;
      end = seen.0;
      run = seen.1;
      rows_are = seen.2;
      says = subst (λ (l : List (Option Row)). Says r.log (sites_of c.args.allowed.now m r l) (opening_of m) is) c.as_slice.ensures.value says;
    })
    c.is_racy_by.ensures
