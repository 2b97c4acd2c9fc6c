use Rattle.std.proofs.Common.{◌≡◌, ◌≤◌, ◌<◌, ◌∙◌, ℕ, List, length, sym, ap, subst, arith}
use Rattle.types.specs.declared.event.Entry.{Entry}
use Rattle.race_history.specs.declared.access.Site.{Site}
use Rattle.race_history.specs.declared.race.Race.{Race}
use Rattle.race_history.specs.Races.{AreRaces, HasEach, IsCut}
use Rattle.show_races.specs.Sites.{opening_of, opening_shown, sites_shown}
use Rattle.show_races.proofs.Laws.{carried, sites_length, no_race}
use Rattle.show_races.proofs.Told.{says_by}
use Rattle.search_races.proofs.judge.is_racy.Goals as goal

pub races_of-requires-clause-sites : goal.races_of-requires-clause-sites
races_of-requires-clause-sites c =
    ap (λ (l : List Site). length l) (c.as_slice.ensures.value ∙ c.in_ok-sites.ensures)
    ∙ (sites_length c.args.allowed.now c.args.shown (length c.args.shown.record.now.log) ∙ ap (λ (l : List Entry). length l) (sym c.as_slice-log.ensures))

pub returns : goal.returns
returns c =
    let pairs = c.in_ok-races.races.pairs.items in
    let is_cut = c.in_ok-races.races.is_cut in
    let from = c.as_slice-log.result.now in
    let log = c.args.shown.record.now.log in
    let sites = sites_shown c.args.allowed.now c.args.shown in
    let opening = opening_shown c.args.shown in
    let made = c.in_ok-opening.opening in
    let opens : made ≡ opening = c.in_ok-opening.ensures ∙ ap opening_of c.parts.ensures in
    let alike = c.as_slice.ensures.value ∙ c.in_ok-sites.ensures in
    let of = c.as_slice.result.now in
    says_by log sites opening pairs c.is_any.result
    (subst (λ (n : ℕ). AreRaces log sites n pairs) opens
    (carried (λ l k. AreRaces l k made pairs) from log of sites c.as_slice-log.ensures alike c.in_ok-races.ensures.races))
    (no_race log sites opening pairs pairs is_cut 1 (omega arith)
    (λ whole. subst (λ (n : ℕ). HasEach log sites n pairs) opens
    (carried (λ l k. HasEach l k made pairs) from log of sites c.as_slice-log.ensures alike (c.in_ok-races.ensures.each whole)))
    (λ some. subst (λ (n : ℕ). IsCut log sites n pairs 1) opens
    (carried (λ l k. IsCut l k made pairs 1) from log of sites c.as_slice-log.ensures alike (c.in_ok-races.ensures.cut some))) (λ h. h))
    (λ is. subst (λ (l : List Race). 1 ≤ length l) c.as_slice-2.ensures.value (c.is_any.ensures.some is))
    (λ is. subst (λ (l : List Race). length l < 1) c.as_slice-2.ensures.value (c.is_any.ensures.none is))
