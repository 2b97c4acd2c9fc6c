use Rattle.std.proofs.Common.{List, Option, map, ap, subst, ◌∙◌}
use Rattle.std.proofs.lemmas.Result.{IfOk-weaker}
use Rattle.types.specs.declared.parts.Parts.{Parts}
use Rattle.interp.specs.declared.place.CodePlace.{CodePlace}
use Rattle.show_rows.specs.declared.rows.Row.{Row}
use Rattle.search_races.specs.Heard.{row_heard}
use Rattle.show_races.specs.Races.{Says, SaysOfRun}
use Rattle.show_races.specs.Rows.{sites_of}
use Rattle.show_races.specs.Sites.{opening_of}
use Rattle.search_races.proofs.Heard.{heard_so}
use Rattle.search_races.proofs.judge.has_heard_race.Goals as goal

pub returns : goal.returns
returns c =
    let q = c.args.request.now in
    let made = c.args.made.now in
    let places = made.heard.places.items in
    let alike = c.in_ok-rows.ensures ∙ ap (λ (l : List CodePlace). map row_heard l) c.as_slice.ensures.value in
    IfOk-weaker c.is_racy_by.result _ (SaysOfRun c.args.allowed.now q.parts made.record)
    (λ is says.
    heard_so c.args.allowed.now q c.requires.find.0 made c.in_ok-rows.rows c.requires.find.1 c.requires.heard alike is
    (subst (λ (p : Parts). Says made.record.log (sites_of c.args.allowed.now p made.record (map row_heard places)) (opening_of p) is) c.module.ensures
    (subst (λ (l : List (Option Row)). Says made.record.log (sites_of c.args.allowed.now c.module.result.now.parts made.record l)
    (opening_of c.module.result.now.parts) is)
    (c.as_slice-2.ensures.value ∙ alike) says)))
    c.is_racy_by.ensures
