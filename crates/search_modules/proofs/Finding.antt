-- What a search through the threads of a call finds, said of the runs of the module.
use Rattle.std.specs.Prelude.{ℕ, ◌≡◌, ◌⊎◌, List, length, Contains, Option, Some, None, refl}
use Rattle.std.proofs.Common.{sym, subst, inl, inr}
use Rattle.types.specs.declared.value.Value.{Value}
use Rattle.types.specs.declared.parts.Parts.{Parts}
use Rattle.validate_typing.specs.Validity.{HasDistinctNames}
use Rattle.schedule.specs.System as systems
use Rattle.schedule_threads.specs.Shared.{Shared}
use Rattle.spawn_host.specs.Entries.{StartsThreads}
use Rattle.search_graph.specs.Paths.{Reaches}
use Rattle.search_reach.specs.Search.{StepSystem, HasAllEnds, AreEnds, CanGetStuck}
use Rattle.search_settled.specs.Settled.{StepsBy}
use Rattle.search_settled.specs.Turns.{turn_steps}
use Rattle.search_settled.specs.declared.flat.RestingState.{RestingState}
use Rattle.search_runs.specs.Called.{Called, Walker as Thread, system_of, first_state}
use Rattle.search_endings.specs.Endings.{Ending, reported_ending, is_same_ending}
use Rattle.search_endings.specs.Equal.{equal_ones}
use Rattle.search_runs.specs.Ends.{HasEndedSo}
use Rattle.search_runs.proofs.Tame.{scheduled}
use Rattle.search_modules.specs.Returned.{IsCall}
use Rattle.search_modules.proofs.Returning.{what_runs_return_is_reached, what_runs_return_is_within}
use Rattle.search_runs.proofs.Within.{comes-more}
use Rattle.search_settled.specs.Levels.{HasEndsBehind}
use Rattle.search_reach.specs.Sought.{SeeksIn}
use Rattle.search_reach.specs.declared.search.Verdict.{Verdict}
use Rattle.search_parts.specs.Parts.{IsLost}
use Rattle.search_parts.specs.declared.shared.Common.{Common}
use Rattle.search_parts.specs.declared.shared.HashedThread.{HashedThread as SharedWalker}
use Rattle.search_parts.specs.Rests.{RunsOn}
use Rattle.search_modules.specs.declared.called.Searched.{Searched}
use Rattle.search_modules.specs.Moved.{called, threads, IsStuck}
use Rattle.search_modules.specs.Endings.{HasEveryEnding, HasEveryEndingWithin, HasSought, AllCanEndSo, IsWorkerOf, BeginsUnknown, CanBeLost}

-- what is gone through
abbrev pub gone : Searched → StepSystem (RestingState Common SharedWalker) (systems.State Shared Thread) Ending
gone s = turn_steps (threads s) (HasEndedSo s.dump) (IsStuck s)

module _ (m : Parts) (entry : List ℕ) (args : List Value) (s : Searched) (call : IsCall m entry args (called s)) (dump : ℕ)
    (looked : s.dump ≡ dump) (endings : List Ending) where
  abbrev b : Called
  b = called s

  every : HasDistinctNames m.exports → HasAllEnds (gone s) is_same_ending endings → HasEveryEnding m entry args s.dump endings
  every distinct all fuel loses limit history end ends enough =
      let reached = what_runs_return_is_reached m distinct entry args b call fuel loses limit history end ends enough s.dump in
      let told = reported_ending s.dump end.threads.items end.pages end.bytes.items in
      let found = all (first_state b) reached.0 told refl reached.1 reached.2 in
      subst (Contains endings) (sym (equal_ones told found.key found.is)) found.among

  pub every_by : HasDistinctNames m.exports → HasAllEnds (gone s) is_same_ending endings → HasEveryEnding m entry args dump endings
  every_by distinct all = subst (λ (d : ℕ). HasEveryEnding m entry args d endings) looked (every distinct all)

  -- those of short runs
  every_within : HasDistinctNames m.exports → (most : ℕ) → HasEndsBehind (system_of b) (first_state b) (HasEndedSo s.dump) is_same_ending endings most
      → HasEveryEndingWithin m entry args s.dump endings most
  every_within distinct most has fuel loses limit history end ends enough few =
      let within = what_runs_return_is_within m distinct entry args b call fuel loses limit history end ends enough s.dump in
      let told = reported_ending s.dump end.threads.items end.pages end.bytes.items in
      let path = within.1 in
      let found = has within.0 told (path.0, comes-more (system_of b) path.0 (length history) most (first_state b) within.0 few path.1) within.2 in
      subst (Contains endings) (sym (equal_ones told found.key found.is)) found.among

  pub every_within_by : HasDistinctNames m.exports → (most : ℕ) → HasEndsBehind (system_of b) (first_state b) (HasEndedSo s.dump) is_same_ending endings most
      → HasEveryEndingWithin m entry args dump endings most
  every_within_by distinct most has = subst (λ (d : ℕ). HasEveryEndingWithin m entry args d endings most) looked (every_within distinct most has)

  sound : AreEnds (gone s) endings → AllCanEndSo m entry args s.dump endings
  sound are e among =
      let is = are e among in
      let reached : Reaches (StepsBy (system_of b)) (first_state b) is.can.end =
      subst (λ (w : systems.State Shared Thread). Reaches (StepsBy (system_of b)) w is.can.end) is.begun is.can.path in
      record {
        called = b;
        call = call;
        end = is.can.end;
        reached = reached;
        scheduled = scheduled b is.can.end reached;
        ended = is.can.is;
      }

  pub sound_by : AreEnds (gone s) endings → AllCanEndSo m entry args dump endings
  sound_by are = subst (λ (d : ℕ). AllCanEndSo m entry args d endings) looked (sound are)

-- what is looked for
pub sought_by : (Sought : Ending → Type 0) (verdict : Verdict) (endings : List Ending) → SeeksIn Sought is_same_ending verdict endings
    → HasSought Sought verdict endings
sought_by Sought verdict endings seeks = record {
  some = λ v. (let f = seeks.some v in (f.0, subst (Contains endings) (sym (equal_ones f.0 f.2.key f.2.is)) f.2.among, f.1));
  none = seeks.none;
}

-- where it cannot tell

module _ (m : Parts) (b : Called) where
  unknown : (worker : Option ℕ) → IsWorkerOf m worker → worker ≡ None → StartsThreads m → ⊥
  unknown None is none = is
  unknown (Some own) is none = absurd (cc none)

  lost_so : (worker : Option ℕ) → IsWorkerOf m worker → (z : systems.State Shared Thread) (n : ℕ) → IsLost worker b z n
      → RunsOn b (z.threads n) ⊎ BeginsUnknown m b n (z.threads n)
  lost_so worker is z n lost = elim lost [
    | inl makes ↦ inl makes
    | inr begins ↦ inr (unknown worker is begins.0, begins.1, begins.2)
  ]

pub lost_by : (m : Parts) (s : Searched) (entry : List ℕ) (args : List Value) → IsCall m entry args (called s) → IsWorkerOf m s.worker
    → CanGetStuck (gone s) → CanBeLost m entry args
lost_by m s entry args call worker stuck =
    let gets = stuck.gets in
    let b = called s in
    let reached : Reaches (StepsBy (system_of b)) (first_state b) gets.end =
    subst (λ (w : systems.State Shared Thread). Reaches (StepsBy (system_of b)) w gets.end) stuck.begun gets.path in
    record {
      called = b;
      call = call;
      state = gets.end;
      reached = reached;
      thread = gets.is.0;
      lost = lost_so m b s.worker worker gets.end gets.is.0 gets.is.1;
    }
