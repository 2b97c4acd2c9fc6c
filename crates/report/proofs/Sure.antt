-- Where it is said that every state can end and that every fair run does, the threads of the call are sure to end.
use Rattle.std.proofs.Common.{◌≡◌, ℕ, Bool, true, false, Option, Some, None, subst}
use Rattle.std.specs.Option.{MatchOption}
use Rattle.allowed_races.specs.declared.allowed.Allowed.{Allowed}
use Rattle.spawn_host.specs.Requests.{Requested}
use Rattle.search_reach.specs.declared.liveness.Liveness.{Liveness}
use Rattle.search_reach.specs.declared.search.Verdict.{Verdict}
use Rattle.search_reach.specs.declared.search.Verdict.TheVariants as verdicts
use Rattle.search_modules.specs.Moved.{called}
use Rattle.schedule.specs.System.{State}
use Rattle.schedule_threads.specs.Shared.{Shared}
use Rattle.search_runs.specs.Called.{Walker as Thread}
use Rattle.search_modules.specs.declared.called.Searched.{Searched}
use Rattle.search_modules.specs.Liveness.{SaysBy, SaysOfRuns, RestsLater, RestsPlainly, is_same_state, is_same_owned}
use Rattle.search_endings.specs.Endings.{Ending}
use Rattle.search_reach.specs.declared.ending.Ended.{Ended}
use Rattle.report_telling.specs.Complete.{EndsForSure, IsSure}
use Rattle.report_finds.specs.Complete.{FindsEvery, FindsNoOther}
use Rattle.report_finds.specs.Racing.{IsCompleteBy}
use Rattle.report.specs.Searches.{IsSureToEnd}

module _ {S : Type 0} (eq : S → S → Bool) (rests : Searched → S → State Shared Thread → Type 0) where
  pub sure : (q : Requested) (dump states : ℕ) (verdict : Verdict) (o : Option Liveness) → verdict ≡ verdicts.All
      → (l : Liveness) × (o ≡ Some l) × EndsForSure l
      → MatchOption o (verdict ≡ verdicts.All → ⊥) (λ l. (verdict ≡ verdicts.All) × SaysBy eq rests q dump states l)
      → IsSureToEnd q.parts q.name q.args dump
  sure q dump states verdict None is_all well none = absurd (none is_all)
  sure q dump states verdict (Some l) is_all well says =
      let there = well.1 in
      let same : well.0 ≡ l = cc in
      let so : EndsForSure l = subst EndsForSure same well.2 in
      let s = says.1 in
      record {
        called = called s.searched;
        call = s.call;
        can_end = s.every so.none;
        fair_runs_end = subst (SaysOfRuns (called s.searched)) so.fair s.fair_runs;
      }

-- The same of either search.
pub every_by : (q : Requested) (may : Allowed) (dump : ℕ) (is_free : Bool) (all : Ended Ending) → IsCompleteBy q may dump is_free all
    → FindsEvery q dump all
every_by q may dump true all c = c.every
every_by q may dump false all c = c.every

pub can_by : (q : Requested) (may : Allowed) (dump : ℕ) (is_free : Bool) (all : Ended Ending) → IsCompleteBy q may dump is_free all
    → FindsNoOther q dump all
can_by q may dump true all c = c.can
can_by q may dump false all c = c.can

pub sure_by : (q : Requested) (may : Allowed) (dump : ℕ) (is_free : Bool) (all : Ended Ending) → IsCompleteBy q may dump is_free all
    → IsSure all → IsSureToEnd q.parts q.name q.args dump
sure_by q may dump true all c is = sure is_same_owned (RestsPlainly may) q dump all.states all.verdict all.liveness is.are_all is.live c.live
sure_by q may dump false all c is = sure is_same_state RestsLater q dump all.states all.verdict all.liveness is.are_all is.live c.live
