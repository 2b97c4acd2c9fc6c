use Rattle.std.proofs.Common.{◌≡◌, ◌∙◌, ℕ, List, false, length, IfOk, subst, sym, ap}
use Rattle.types.specs.declared.event.Entry.{Entry}
use Rattle.race_history.specs.declared.access.Site.{Site}
use Rattle.race_history.specs.Races.{HasEach}
use Rattle.show_races.specs.Sites.{sites_shown}
use Rattle.show_races.proofs.Laws.{carried, sites_length}
use Rattle.show_races.proofs.found.all_races.Goals as goal

pub races_of-requires-clause-sites : goal.races_of-requires-clause-sites
races_of-requires-clause-sites c =
    ap (λ (l : List Site). length l) c.requires.sites
    ∙ (sites_length c.args.allowed.now c.args.shown (length c.args.shown.record.now.log)
    ∙ ap (λ (l : List Entry). length l) (sym c.as_slice.ensures))

pub returns-clause-each : goal.returns-clause-each
returns-clause-each c =
    subst (λ (n : ℕ). IfOk c.races_of.result (λ r. r.is_cut ≡ false
    → HasEach c.args.shown.record.now.log (sites_shown c.args.allowed.now c.args.shown) n r.pairs.items)) c.requires.opening
    (carried (λ l k. IfOk c.races_of.result (λ r. r.is_cut ≡ false → HasEach l k c.args.opening r.pairs.items)) c.as_slice.result.now
    c.args.shown.record.now.log c.args.sites.now (sites_shown c.args.allowed.now c.args.shown) c.as_slice.ensures c.requires.sites c.races_of.ensures.each)
