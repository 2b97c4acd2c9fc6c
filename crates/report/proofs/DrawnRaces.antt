-- What is so of a search that looks for a drawn run with a race.
use Rattle.std.proofs.Common.{ℕ, ◌≡◌, IsTrue, true, false, List, refl, subst}
use Rattle.allowed_races.specs.declared.allowed.Allowed.{Allowed}
use Rattle.spawn_host.specs.Requests.{Requested}
use Rattle.search_scheduled.specs.Headers.{IsOfCall}
use Rattle.search_scheduled.specs.declared.running.MadeRun.{MadeRun}
use Rattle.search_finds.specs.Finds.{IsFind}
use Rattle.search_finds.specs.Judged.{IsPassed}
use Rattle.search_finds.specs.Noted.{AreNotedBy}
use Rattle.search_finds.specs.declared.finding.Halt.{Halt}
use Rattle.search_finds.specs.declared.finding.Halt.TheVariants as halts
use Rattle.search_finds.specs.declared.met.EndingTable.{EndingTable}
use Rattle.search_finds.proofs.Noting.{noted_weaker}
use Rattle.show_races.specs.Races.{SaysOfRun}
use Rattle.selection.specs.declared.sought.Sought.{Sought}
use Rattle.report_command.specs.declared.search.Search.{Search}
use Rattle.report_jobs.specs.Asked.{IsAskedBy}
use Rattle.report_jobs.specs.Prints.{WriterChange, KeepsRecord}
use Rattle.std.specs.Prelude.{is_some}
use Rattle.report_finds.specs.DrawnRaces.{SaysRaceOf}
use Rattle.report.specs.Searches.{IsRaceKept}

-- where the search stops, none that was made has a race
pub none_races : (q : Requested) (may : Allowed) (s : Sought) (t : EndingTable) (h : Halt) → ((f : _) → h ≡ halts.Found f → ⊥)
    → AreNotedBy (IsPassed (SaysRaceOf q may) s h) q s t → s.stops ≡ true → AreNotedBy (λ run made. SaysRaceOf q may made false) q s t
none_races q may s t (halts.Found f) unfound noted stops = absurd (unfound f refl)
none_races q may s t halts.AllMade unfound noted stops =
    noted_weaker (λ run made. IsTrue s.stops → SaysRaceOf q may made false) (λ run made. SaysRaceOf q may made false) (λ run made is. is stops) q s t noted
none_races q may s t halts.Told unfound noted stops =
    noted_weaker (λ run made. IsTrue s.stops → SaysRaceOf q may made false) (λ run made. SaysRaceOf q may made false) (λ run made is. is stops) q s t noted

-- the run with a race, as it is kept
pub race_is_kept : (q : Requested) (s : Search) (may : Allowed) → IsAskedBy s.call q → (made : MadeRun) → IsFind q s.sought.limit made
    → SaysOfRun may q.parts made.record true
    → (save : WriterChange) → KeepsRecord (is_some s.save) save made.record → s.races ≡ true
    → IsRaceKept q.parts s may save
race_is_kept q s may asked made find said save kept races = record {
  looked_for = races;
  args = q.args;
  spelled = asked.spelled;
  record_is = made.record;
  end = made.end;
  run = find.run;
  of_call = subst (λ (name : List ℕ). IsOfCall q.parts name q.args s.call.fuel s.sought.limit made.record) asked.name_is
      (subst (λ (fuel : ℕ). IsOfCall q.parts q.name q.args fuel s.sought.limit made.record) asked.fuel_is find.of_call);
  races = said;
  kept = kept;
}
