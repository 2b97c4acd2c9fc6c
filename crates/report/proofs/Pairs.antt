-- The race of a run's record, as it is kept.
use Rattle.std.specs.Prelude.{is_some}
use Rattle.std.proofs.Common.{ℕ, ◌≡◌, ◌&&◌, Bool, true, false, List, inl, inr, refl, subst}
use Rattle.allowed_races.specs.declared.allowed.Allowed.{Allowed}
use Rattle.spawn_host.specs.Requests.{Requested}
use Rattle.search_scheduled.specs.Headers.{IsOfCall}
use Rattle.search_scheduled.specs.declared.running.MadeRun.{MadeRun}
use Rattle.search_finds.specs.Finds.{IsFind}
use Rattle.show_races.specs.Races.{SaysOfRun}
use Rattle.report_command.specs.declared.search.Search.{Search}
use Rattle.report_jobs.specs.Asked.{IsAskedBy}
use Rattle.report_jobs.specs.Prints.{WriterChange, KeepsRecord}
use Rattle.report_looks.proofs.Sightings.{says_race}
use Rattle.report_telling.specs.Racing.{IsRacedIn, CanTell}
use Rattle.report_telling.specs.declared.racing.Raced.{Raced}
use Rattle.report_telling.specs.declared.racing.Raced.TheVariants.{Run, Threads, Untold}
use Rattle.report_telling.specs.declared.racing.Racing.{Racing}
use Rattle.report_finds.specs.Racing.{IsRacedOf, KeepsRaced, keeps_race}
use Rattle.report.specs.Searches.{KeepsNoneOrRace}

and_first : (x y : Bool) → (x && y) ≡ true → x ≡ true
and_first true y is = refl
and_first false y is = is

-- where the record of a run with a race is kept, it is one
pub race_kept : (q : Requested) (s : Search) (may : Allowed) → IsAskedBy s.call q → (made : MadeRun) → IsFind q s.sought.limit made
    → SaysOfRun may q.parts made.record true → (save : WriterChange) → KeepsRecord (keeps_race s) save made.record → (keeps : Bool)
    → keeps_race s ≡ keeps → (keeps_race s ≡ false → save.new ≡ save.old) → KeepsNoneOrRace q.parts s may save
race_kept q s may asked made find raced save kept false is stays = inl (stays is)
race_kept q s may asked made find raced save kept true is stays = inr (record {
  looked_for = and_first s.races (is_some s.save) is;
  args = q.args;
  spelled = asked.spelled;
  record_is = made.record;
  end = made.end;
  run = find.run;
  of_call = subst (λ (name : List ℕ). IsOfCall q.parts name q.args s.call.fuel s.sought.limit made.record) asked.name_is
      (subst (λ (fuel : ℕ). IsOfCall q.parts q.name q.args fuel s.sought.limit made.record) asked.fuel_is find.of_call);
  races = raced;
  kept = λ wanted. kept is;
})

pub raced_kept : (q : Requested) (s : Search) (may : Allowed) → IsAskedBy s.call q → (racing : Racing) (raced : Raced)
    → IsRacedOf q s may racing raced → (save : WriterChange) → KeepsRaced s raced save → (keeps_race s ≡ false → save.new ≡ save.old)
    → KeepsNoneOrRace q.parts s may save
raced_kept q s may asked racing (Run run is_kept) (is, (find, race, same), keeps) save kept stays =
    race_kept q s may asked run.made find (subst (λ (x : Allowed). SaysOfRun x q.parts run.made.record true) same
    (says_race q.parts run.made.record run.race race (record { first = 0; second = 0 }))) save kept (keeps_race s) refl stays
raced_kept q s may asked racing (Threads r) is save kept stays = inl kept
raced_kept q s may asked racing Untold is save kept stays = inl kept

-- what is told of a race is so in the module of the call, and can be told
pub raced_in : (q : Requested) (s : Search) (may : Allowed) (racing : Racing) (raced : Raced) → IsRacedOf q s may racing raced
    → IsRacedIn q.parts raced
raced_in q s may racing (Run run kept) (is, (find, race, same), keeps) = race
raced_in q s may racing (Threads r) is = tt
raced_in q s may racing Untold is = tt

pub can_tell : (q : Requested) (s : Search) (may : Allowed) (racing : Racing) (raced : Raced) → IsRacedOf q s may racing raced → CanTell raced
can_tell q s may racing (Run run kept) (is, (find, race, same), keeps) = race.told
can_tell q s may racing (Threads r) is = tt
can_tell q s may racing Untold is = tt
