use Rattle.std.proofs.Common.{◌≡◌, ◌∙◌, List, true, false, All, subst, sym, arith}
use Rattle.race_history.specs.declared.race.Race.{Race}
use Rattle.race_history.specs.Races.{AreInOrder}
use Rattle.show_races.specs.Sites.{opening_shown, sites_shown}
use Rattle.show_races.specs.Told.{IsFirstAmong, IsLeftOut, IsTold}
use Rattle.show_races.proofs.Firsts.{among_all, cut_all, each_all, firsts_all, some_told}
use Rattle.show_races.proofs.Laws.{no_race, races_within, some_races}
use Rattle.show_races.proofs.found.races_shown.Goals as goal

pub returns-clause-races : goal.returns-clause-races
returns-clause-races c =
    let shown = c.args.shown in
    let story = c.args.story.now in
    let told = c.in_ok-told.told.pairs.items in
    let from = subst (λ (l : List Race). All (IsFirstAmong shown story l) told) c.as_slice-2.ensures.value
    c.in_ok-told.ensures.from in
    some_races shown.record.now.log (sites_shown c.args.allowed.now shown) (opening_shown shown) c.in_ok-all.all.pairs.items told c.in_ok-all.ensures.races
    (among_all shown story c.in_ok-all.all.pairs.items told from)

pub returns-clause-in_order : goal.returns-clause-in_order
returns-clause-in_order c =
    c.in_ok-told.ensures.in_order (subst AreInOrder (sym c.as_slice-2.ensures.value) c.in_ok-all.ensures.in_order)

pub returns-clause-firsts : goal.returns-clause-firsts
returns-clause-firsts c =
    let shown = c.args.shown in
    let story = c.args.story.now in
    let told = c.in_ok-told.told.pairs.items in
    let from = subst (λ (l : List Race). All (IsFirstAmong shown story l) told) c.as_slice-2.ensures.value
    c.in_ok-told.ensures.from in
    let all = c.in_ok-all.ensures in
    firsts_all shown story c.args.allowed.now c.in_ok-all.all.pairs.items told c.in_ok-all.all.is_cut 1000000 all.in_order from all.races
    all.each all.cut

pub returns-clause-each : goal.returns-clause-each
returns-clause-each c =
    let shown = c.args.shown in
    let story = c.args.story.now in
    let told = c.in_ok-told.told.pairs.items in
    let tells = λ (whole : c.in_ok-told.told.is_cut ≡ false).
    subst (λ (l : List Race). All (IsTold shown story told) l) c.as_slice-2.ensures.value
    (c.in_ok-told.ensures.each whole) in
    let all = c.in_ok-all.ensures in
    λ whole. each_all shown story c.args.allowed.now c.in_ok-all.all.pairs.items told c.in_ok-all.all.is_cut c.in_ok-told.told.is_cut
    (sym c.either.ensures ∙ whole) all.races all.each tells

pub returns-clause-cut : goal.returns-clause-cut
returns-clause-cut c =
    let shown = c.args.shown in
    let story = c.args.story.now in
    let told = c.in_ok-told.told.pairs.items in
    let left = λ (cut : c.in_ok-told.told.is_cut ≡ true).
    subst (λ (l : List Race). IsLeftOut shown story l told c.args.most) c.as_slice-2.ensures.value
    (c.in_ok-told.ensures.cut cut) in
    let all = c.in_ok-all.ensures in
    λ some. cut_all shown story c.args.allowed.now c.in_ok-all.all.pairs.items told c.in_ok-all.all.is_cut c.in_ok-told.told.is_cut
    c.args.most (sym c.either.ensures ∙ some) all.races all.cut left

pub returns-clause-none : goal.returns-clause-none
returns-clause-none c =
    let shown = c.args.shown in
    let story = c.args.story.now in
    let told = c.in_ok-told.told.pairs.items in
    let tells = λ (whole : c.in_ok-told.told.is_cut ≡ false).
    subst (λ (l : List Race). All (IsTold shown story told) l) c.as_slice-2.ensures.value
    (c.in_ok-told.ensures.each whole) in
    let left = λ (cut : c.in_ok-told.told.is_cut ≡ true).
    subst (λ (l : List Race). IsLeftOut shown story l told c.args.most) c.as_slice-2.ensures.value
    (c.in_ok-told.ensures.cut cut) in
    let pairs = c.in_ok-all.all.pairs.items in
    no_race shown.record.now.log (sites_shown c.args.allowed.now shown) (opening_shown shown) pairs told c.in_ok-all.all.is_cut 1000000 (omega arith)
    c.in_ok-all.ensures.each c.in_ok-all.ensures.cut
    (some_told shown story pairs told c.in_ok-told.told.is_cut c.args.most c.requires.some tells left)

pub returns-clause-within : goal.returns-clause-within
returns-clause-within c =
    races_within c.args.shown.record.now.log (sites_shown c.args.allowed.now c.args.shown) (opening_shown c.args.shown) c.in_ok-told.told.pairs.items
    (returns-clause-races c)
