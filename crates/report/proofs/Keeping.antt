-- What is kept of what was found.
use Rattle.std.proofs.Common.{ℕ, ◌≡◌, ◌≤◌, ◌∙◌, Bool, true, false, List, Option, Some, None, inl, inr, refl, sym, subst, ap, true≢false}
use Rattle.std.specs.Prelude.{IfSome, is_some}
use Rattle.allowed_races.specs.declared.allowed.Allowed.{Allowed}
use Rattle.spawn_host.specs.Requests.{Requested}
use Rattle.search_scheduled.specs.Headers.{IsOfCall}
use Rattle.search_scheduled.specs.declared.running.MadeRun.{MadeRun}
use Rattle.search_finds.specs.Finds.{IsFind, IsLookedFor, EndsAsLookedFor}
use Rattle.report_command.specs.declared.search.Search.{Search}
use Rattle.report_jobs.specs.Asked.{IsAskedBy}
use Rattle.report_jobs.specs.Prints.{WriterChange, KeepsRecord}
use Rattle.report_telling.specs.declared.found.FoundRun.{FoundRun}
use Rattle.report_telling.specs.declared.found.KeptRun.{KeptRun}
use Rattle.report_telling.specs.declared.found.WholeSearch.{WholeSearch}
use Rattle.report_finds.specs.Found.{AreKeptOf, CanBeKept, HasFirst, HasFound, HasKnown, HasRun, IsKeptAs, IsKeptOf, KeepsFound, KeepsMade, can_shrink}
use Rattle.report_finds.specs.Found.{endless_as}
use Rattle.report_finds.specs.Sought.{stops_behind}
use Rattle.report_finds.specs.declared.all.EndlessWay.{EndlessWay}
use Rattle.report_finds.specs.declared.all.EndlessWay.TheVariants.{ToNoEnd, Round}
use Rattle.report.specs.Searches.{Finds, IsFindKept}
use Rattle.report.proofs.Sought.{known_is_sought}

-- one that never ends isn't shrunk
pub endless_stays : (way : EndlessWay) (entries : ℕ) → can_shrink (endless_as way entries) ≡ false
endless_stays ToNoEnd entries = refl
endless_stays Round entries = refl

-- by other names of what was found
kept_as : (q : Requested) (s : Search) (a b : Bool) (x y : Option MadeRun) (k : KeptRun) → a ≡ b → x ≡ y → IsKeptAs q s a x k → IsKeptAs q s b y k
kept_as q s a b x y k same alike kept =
    subst (λ (o : Option MadeRun). IsKeptAs q s b o k) alike (subst (λ (is : Bool). IsKeptAs q s is x k) same kept)

module _ (q : Requested) (s : Search) (may : Allowed) (asked : IsAskedBy s.call q) (save : WriterChange) where
  of_call : (made : MadeRun) → IsFind q s.sought.limit made
      → IsOfCall q.parts s.call.invoke.now q.args s.call.fuel s.sought.limit made.record
  of_call made find = subst (λ (name : List ℕ). IsOfCall q.parts name q.args s.call.fuel s.sought.limit made.record) asked.name_is
      (subst (λ (fuel : ℕ). IsOfCall q.parts q.name q.args fuel s.sought.limit made.record) asked.fuel_is find.of_call)

  find_kept : (made : MadeRun) → IsFind q s.sought.limit made → EndsAsLookedFor s.sought s.sought.dump made.end
      → KeepsRecord (is_some s.save) save made.record → IsFindKept q.parts s save
  find_kept made find ends kept = record {
    args = q.args;
    spelled = asked.spelled;
    record_is = made.record;
    end = made.end;
    run = find.run;
    of_call = of_call made find;
    ends = ends;
    kept = kept;
  }

  made_kept : (k : KeptRun) (made : MadeRun) → k.made ≡ Some made → KeepsMade s k.made save → KeepsRecord (is_some s.save) save made.record
  made_kept k made is kept = subst (λ (o : Option MadeRun). KeepsMade s o save) is kept

  none_kept : (k : KeptRun) → k.made ≡ None → KeepsMade s k.made save → save.new ≡ save.old
  none_kept k is kept = subst (λ (o : Option MadeRun). KeepsMade s o save) is kept

  -- a run that ends as is looked for, or a smaller one
  pub run_is_kept : (found : MadeRun) (k : KeptRun) → EndsAsLookedFor s.sought s.sought.dump found.end → HasRun q s found k
      → KeepsMade s k.made save → IsFindKept q.parts s save
  run_is_kept found k sought has kept =
      find_kept has.made has.find (subst (IsLookedFor s.sought) (sym has.ends) sought) (made_kept k has.made has.made_is kept)

  -- what was found of every order
  module _ (w : WholeSearch) (status : ℕ) (few : status ≤ 1) where
    first_kept : (f : FoundRun) (k : KeptRun) → status ≡ 1 → HasFirst q s w f → IsKeptOf q s f k → KeepsMade s k.made save
        → Finds q.parts s may save status
    first_kept f k one first is kept = elim first.one [
      | inl met ↦
          let way : can_shrink f.found_as ≡ true = ap can_shrink met.as_is in
          let has : HasRun q s met.found k = kept_as q s (can_shrink f.found_as) true f.made (Some met.found) k way met.made_is is.kept in
          let sought = subst (IsLookedFor s.sought) met.ends first.is_first.sought in
          inr (inl (one, inl (run_is_kept met.found k sought has kept)))
      | inr other ↦
          let way : can_shrink f.found_as ≡ true = ap can_shrink other.as_is in
          let none = kept_as q s (can_shrink f.found_as) true f.made None k way other.none is.kept in
          inl (few, none_kept k none.0 kept)
    ]

    known_kept : (f : FoundRun) (k : KeptRun) → is_some s.all ≡ true → status ≡ 1 → HasKnown q s w f → IsKeptOf q s f k
        → KeepsMade s k.made save → Finds q.parts s may save status
    known_kept f k every one known is kept =
        let has = known.filled.2 in
        let way : can_shrink f.found_as ≡ false = ap can_shrink has.as_is ∙ endless_stays known.filled.0.way has.entries in
        let same = kept_as q s (can_shrink f.found_as) false f.made (Some has.made) k way has.made_is is.kept in
        inr (inl (
          one,
          inr (record {
            every_order = every;
            sought = known_is_sought s.sought.target w.all.liveness known.known known.is_known;
            args = q.args;
            spelled = asked.spelled;
            record_is = has.made.record;
            end = has.made.end;
            run = has.find.run;
            of_call = of_call has.made has.find;
            kept = made_kept k has.made same.0 kept;
          }),
        ))

    pub found_kept : (o : Option FoundRun) (p : Option KeptRun) → is_some s.all ≡ true → IfSome o (λ f. status ≡ 1) → HasFound q s w o
        → AreKeptOf q s o p → KeepsFound s p save → Finds q.parts s may save status
    found_kept None None every one has is kept = inl (few, kept)
    found_kept None (Some k) every one has is kept = absurd is
    found_kept (Some f) None every one has is kept = absurd is
    found_kept (Some f) (Some k) every one has is kept = elim has.1 [
      | inl first ↦ first_kept f k one first is kept
      | inr known ↦ known_kept f k every one known is kept
    ]

-- where the search doesn't stop nothing is kept of what was found
pub quiet_by : (q : Requested) (s : Search) (w : WholeSearch) (o : Option FoundRun) (p : Option KeptRun) (save : WriterChange) → HasFound q s w o
    → AreKeptOf q s o p → KeepsFound s p save → stops_behind s ≡ false → save.new ≡ save.old
quiet_by q s w None None save has is kept quiet = kept
quiet_by q s w None (Some k) save has is kept quiet = absurd is
quiet_by q s w (Some f) None save has is kept quiet = absurd is
quiet_by q s w (Some f) (Some k) save has is kept quiet = absurd (true≢false (sym has.0 ∙ quiet))

-- what was found can be kept: a run of it is one by the call
one_can : (q : Requested) (s : Search) (w : WholeSearch) (f : FoundRun) → HasFirst q s w f → CanBeKept q s f.made
one_can q s w f first = elim first.one [
  | inl met ↦ subst (CanBeKept q s) (sym met.made_is) met.find
  | inr other ↦ subst (CanBeKept q s) (sym other.none) tt
]

pub found_can : (q : Requested) (s : Search) (w : WholeSearch) (o : Option FoundRun) → HasFound q s w o → IfSome o (λ f. CanBeKept q s f.made)
found_can q s w None has = tt
found_can q s w (Some f) has = elim has.1 [
  | inl first ↦ one_can q s w f first
  | inr known ↦ subst (CanBeKept q s) (sym known.filled.2.made_is) known.filled.2.find
]
