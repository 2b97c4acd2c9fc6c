-- Runs that never end, of a search through every order of entries: which are looked for, and what is known of one.
use Rattle.std.specs.Prelude.{◌≡◌, ◌≢◌, ◌⊎◌, ◌||◌, Bool, false, true, [], Option, Some, is_some}
use Rattle.search_reach.specs.declared.liveness.FairCycle.{FairCycle}
use Rattle.search_reach.specs.declared.liveness.FairRuns.TheVariants.{GoOn}
use Rattle.search_reach.specs.declared.liveness.Liveness.{Liveness}
use Rattle.selection.specs.declared.sought.Find.{Find}
use Rattle.selection.specs.declared.sought.Find.TheVariants as finds
use Rattle.selection.specs.declared.sought.SearchTarget.{SearchTarget}
use Rattle.report_finds.specs.declared.all.EndlessRun.{EndlessRun}
use Rattle.report_finds.specs.declared.all.EndlessWay.{EndlessWay}
use Rattle.report_finds.specs.declared.all.EndlessWay.TheVariants.{ToNoEnd, Round}

-- By this runs are found that come to where none ends; and by this those that go round for ever.
abbrev pub finds_no_end : Find → Bool
finds_no_end finds.Nothing = false
finds_no_end finds.Failure = true
finds_no_end (finds.Words words) = false
finds_no_end finds.NoEnd = true
finds_no_end finds.ForEver = false

abbrev pub finds_for_ever : Find → Bool
finds_for_ever finds.Nothing = false
finds_for_ever finds.Failure = true
finds_for_ever (finds.Words words) = false
finds_for_ever finds.NoEnd = false
finds_for_ever finds.ForEver = true

-- They are looked for also where a result is expected, to which they don't come.
abbrev pub looks_for_no_end : SearchTarget → Bool
looks_for_no_end t = is_some t.expect || finds_no_end t.find

abbrev pub looks_for_ever : SearchTarget → Bool
looks_for_ever t = is_some t.expect || finds_for_ever t.find

abbrev pub FindsEndless : SearchTarget → Type 0
FindsEndless t = (looks_for_no_end t ≡ true) ⊎ (looks_for_ever t ≡ true)

-- Runs to where none ends are looked for, and there is one; or such as go round for ever, and there is this one.
abbrev pub HasNoEnd : SearchTarget → Liveness → Type 0
HasNoEnd t l = (looks_for_no_end t ≡ true) × (l.endless.items ≢ [])

abbrev pub GoesRound : SearchTarget → Liveness → FairCycle → Type 0
GoesRound t l c = (looks_for_ever t ≡ true) × (l.fair_runs ≡ GoOn c)

-- What is known of what never ends has none that is looked for.
abbrev pub HasNoEndless : SearchTarget → Option Liveness → Type 0
HasNoEndless t o = (l : Liveness) → o ≡ Some l → (HasNoEnd t l → ⊥) × ((c : FairCycle) → GoesRound t l c → ⊥)

-- It has this one, by the choices of its path, and of its round where it goes one. It goes round only where none comes
-- to where none ends.
abbrev pub IsKnownSo : EndlessWay → SearchTarget → Liveness → EndlessRun → Type 0
IsKnownSo ToNoEnd t l run = HasNoEnd t l × (run.path.now ≡ l.path.items)
IsKnownSo Round t l run =
    (HasNoEnd t l → ⊥) × (c : FairCycle) × GoesRound t l c × (run.path.now ≡ c.path.items)
    × (run.round.now ≡ c.walk.items)

abbrev pub IsKnownIn : SearchTarget → Liveness → EndlessRun → Type 0
IsKnownIn t l run = IsKnownSo run.way t l run

abbrev pub IsKnown : SearchTarget → Option Liveness → EndlessRun → Type 0
IsKnown t o run = (l : Liveness) × (o ≡ Some l) × IsKnownIn t l run

-- It never ends in the same way, by the choices that were noted, or where those leave plain accesses out, with these
-- filled in.
abbrev pub IsFilled : Bool → EndlessRun → EndlessRun → Type 0
IsFilled is_free known run = (run.way ≡ known.way) × (is_free ≡ false → run.path.now ≡ known.path.now)
