-- Runs that are looked for by how they end.
use Rattle.std.proofs.Common.{◌≡◌, ◌↔◌, Bool, IsTrue, true, false, refl, subst, sym, true≢false}
use Rattle.spawn_host.specs.Requests.{Requested}
use Rattle.selection.specs.declared.sought.Sought.{Sought}
use Rattle.search_scheduled.specs.declared.running.MadeRun.{MadeRun}
use Rattle.search_finds.specs.Finds.{EndsAsLookedFor, HasNoneLookedFor, IsFound, IsLookedFor}
use Rattle.search_finds.specs.Judged.{IsFindBy, IsPassed}
use Rattle.search_finds.specs.Halts.{IfFound}
use Rattle.search_finds.specs.Noted.{AreNotedBy}
use Rattle.search_finds.specs.declared.met.EndingTable.{EndingTable}
use Rattle.search_finds.specs.declared.finding.Halt.{Halt}
use Rattle.search_finds.specs.declared.finding.Halt.TheVariants as halts
use Rattle.search_finds.proofs.Noting.{rows_of}

-- what is said of a run by how it ends
abbrev pub ends_so : Sought → MadeRun → Bool → Type 0
ends_so s made is = (is ≡ true) ↔ EndsAsLookedFor s s.dump made.end

pub found_so : (q : Requested) (s : Sought) (h : Halt) → IfFound h (λ f. IsFindBy (ends_so s) q s.limit f.made)
    → IfFound h (λ f. IsFound q s f.made)
found_so q s (halts.Found f) found = (found.0, found.1.0 refl)
found_so q s halts.AllMade found = tt
found_so q s halts.Told found = tt

unsought : (s : Sought) (made : MadeRun) → EndsAsLookedFor s s.dump made.end → ends_so s made false → ⊥
unsought s made looked says = true≢false (sym (says.1 looked))

pub none_so : (q : Requested) (s : Sought) (t : EndingTable) (h : Halt) → AreNotedBy (IsPassed (ends_so s) s h) q s t → h ≡ halts.AllMade
    → IsTrue s.stops → HasNoneLookedFor s t
none_so q s t halts.AllMade noted is stops = λ k d within looked.
    let met = rows_of (IsPassed (ends_so s) s halts.AllMade) q s t noted k d within in
    unsought s met.made (subst (IsLookedFor s) met.ending looked) (met.holds stops)
none_so q s t (halts.Found f) noted is stops = absurd cc
none_so q s t halts.Told noted is stops = absurd cc
