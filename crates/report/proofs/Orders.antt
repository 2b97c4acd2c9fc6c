-- What comes of all orders, put together of the race that is told first and of what is told behind it.
use Rattle.std.proofs.Common.{ℕ, ◌≡◌, ◌∙◌, false, List, Option, Some, refl, sym, subst, ap}
use Rattle.std.specs.Prelude.{is_some}
use Rattle.allowed_races.specs.declared.allowed.Allowed.{Allowed}
use Rattle.spawn_host.specs.Requests.{Requested}
use Rattle.report_command.specs.declared.form.Form.{Form}
use Rattle.report_command.specs.declared.search.Search.{Search}
use Rattle.report_jobs.specs.Asked.{IsAskedBy}
use Rattle.report_jobs.specs.Prints.{WriterChange, change}
use Rattle.report_telling.specs.Racing.{SaysRaced}
use Rattle.report_telling.specs.Telling.{InLines}
use Rattle.report_telling.specs.declared.racing.Raced.{Raced}
use Rattle.report_telling.specs.declared.telling.ToldSearch.{ToldSearch}
use Rattle.report_telling.specs.declared.racing.Racing.{Racing}
use Rattle.report_telling.specs.declared.found.WholeSearch.{WholeSearch}
use Rattle.report_finds.specs.Racing.{IsRacedOf, IsWhole, KeepsRaced, keeps_race}
use Rattle.report.specs.Rest.{TellsRest}
use Rattle.report.specs.Searched.{IsGoneThrough, settles}
use Rattle.report.specs.Searches.{Finds}
use Rattle.report.specs.Told.{AllIn, TellsAll}
use Rattle.report.specs.declared.searching.OrdersMet.{OrdersMet}
use Rattle.report.proofs.AllTold.{all_told}
use Rattle.report.proofs.Keeping.{found_kept, quiet_by}
use Rattle.report.proofs.Pairs.{raced_in, raced_kept}
use Rattle.report.proofs.Wholly.{finds_all, well_by}

module _ (q : Requested) (s : Search) (may : Allowed) (asked : IsAskedBy s.call q) (form : Form) (is_form : form ≡ s.form) (met : OrdersMet)
    (every_order : s.all ≡ Some met.most) (before between after a b c : Option (List ℕ))
    (unkept : keeps_race s ≡ false → b ≡ a) (status : ℕ) (rest : TellsRest form q s met (change between after) (change b c) status) where
  abbrev t : ToldSearch
  t = rest.told

  abbrev w : WholeSearch
  w = t.whole.now

  abbrev raced : Raced
  raced = t.raced.now

  -- what comes of it, and whether that settles all
  abbrev Settling : WriterChange → WriterChange → Type 0
  Settling out save = (gone : IsGoneThrough met.most q.parts s may out save status)
      × (settles gone.tells.told.whole.now.all.verdict ≡ settles met.whole.all.verdict)

  module _ (whole : IsWhole q s may w) (is_raced : IsRacedOf q s may w.racing raced) (keeps : KeepsRaced s raced (change a b))
      (told : InLines form (change before between) (SaysRaced q.parts raced)) where
    finds : Finds q.parts s may (change a c) status
    finds = finds_all q.parts s may a b c status s.races refl unkept
        (quiet_by q s w rest.found t.kept.now (change b c) rest.has rest.is_kept rest.keeps_found)
        (raced_kept q s may asked w.racing raced is_raced (change a b) keeps unkept)
        (found_kept q s may asked (change b c) w status rest.status_is.statuses rest.found t.kept.now (ap is_some every_order) rest.one rest.has
        rest.is_kept rest.keeps_found) rest.status_is.statuses

    tells : TellsAll q.parts s may met.most (change before after) (change a c) status
    tells = record {
      request = q;
      parts_are = refl;
      asked = asked;
      told = t;
      most_is = rest.most_is;
      status_told = rest.status_told;
      dump_is = rest.dump_is;
      is_whole = whole;
      is_raced = is_raced;
      found = rest.found;
      has = rest.has;
      is_kept = rest.is_kept;
      between = b;
      keeps_race = keeps;
      keeps_found = rest.keeps_found;
      tells = subst (λ (f : Form). AllIn f q.parts t rest.found (change before after)) is_form
          (all_told form q.parts t rest.found before between after told (rest.tells q.parts (raced_in q s may w.racing raced is_raced)));
      status_is = rest.status_is;
    }

    gone : Settling (change before after) (change a c)
    unfolding tells
    gone = (
      record { finds = finds; well = well_by q s may asked w whole status rest.status_is; tells = tells },
      ap (λ (x : WholeSearch). settles x.all.verdict) rest.whole_is,
    )

  pub gone_by : IsWhole q s may met.whole → (racing : Racing) → met.whole.racing ≡ racing → IsRacedOf q s may racing met.raced
      → KeepsRaced s met.raced (change a b) → InLines form (change before between) (SaysRaced q.parts met.raced)
      → Settling (change before after) (change a c)
  gone_by whole racing racing_is is_raced keeps told =
      let same : met.raced ≡ raced = sym rest.raced_is in
      let racing_same : racing ≡ w.racing = sym racing_is ∙ ap (λ (x : WholeSearch). x.racing) (sym rest.whole_is) in
      gone (subst (IsWhole q s may) (sym rest.whole_is) whole)
      (subst (λ (r : Raced). IsRacedOf q s may w.racing r) same (subst (λ (x : Racing). IsRacedOf q s may x met.raced) racing_same is_raced))
      (subst (λ (r : Raced). KeepsRaced s r (change a b)) same keeps)
      (subst (λ (r : Raced). InLines form (change before between) (SaysRaced q.parts r)) same told)
