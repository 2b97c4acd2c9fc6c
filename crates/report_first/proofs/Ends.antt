-- How each run of a module of one atomic add ends.
use Rattle.std.proofs.Common.{◌≡◌, ℕ, zero, suc, ◌+◌, ◌-◌, ◌<◌, ◌≤◌, Bool, List, [], ◌∷◌, length, map, Option, Some, refl, sym, ◌∙◌, ap, subst, arith}
use Rattle.std.specs.Prelude.{slice_get, codes}
use Rattle.types.specs.declared.event.Entry.{Entry}
use Rattle.types.specs.declared.outcome.Outcome.{Outcome}
use Rattle.types.specs.declared.outcome.ThreadReport.{ThreadReport}
use Rattle.types.specs.declared.parts.FuncType.{FuncType}
use Rattle.types.specs.declared.parts.Body.{Body}
use Rattle.shared_memory.specs.Memory.{Memory, pages}
use Rattle.shared_memory.specs.History.{memory_after}
use Rattle.shared_memory.specs.Legal.{IsMemoryLegal}
use Rattle.shared_memory.specs.Access.{HasReached}
use Rattle.schedule.specs.Machine.{Thread.Runs}
use Rattle.interp_machine.specs.State.{At}
use Rattle.interp.specs.Starts.{start_of}
use Rattle.schedule_runs.specs.Runs.{Start}
use Rattle.spawn_host.specs.Entries.{Exports}
use Rattle.spawn_host.specs.Runs.{opening_memory, Tells, start_by, IsRunHistory}
use Rattle.spawn_host.specs.declared.end.EndState.{EndState}
use Rattle.spawn_host.specs.RunEnds.{EndsRun}
use Rattle.report_first.specs.First.{zeros, first_type, first_body, first_parts, page_after}
use Rattle.report_first.specs.Laws.{IsFirstEnd, FirstModulesEndSo}
use Rattle.report_first.proofs.Machine.{RunsOn}
use Rattle.report_first.proofs.Alone.{unspawned, runs_alone}
use Rattle.report_first.proofs.Page.{page, one_page}
use Rattle.report_first.proofs.Run.{program, c0, EndsSo, ends_so}

-- ---- the function that is called

single : {A : Type 0} (x y : A) (k : ℕ) → slice_get (x ∷ []) k ≡ Some y → x ≡ y
single x y zero is = cc is
single x y (suc k) is = absurd (cc is)

module _ (a v own : ℕ) (t : FuncType) (b : Body) (x : Exports (first_parts a v) (codes "f") own t b) where
  pub type_is : first_type ≡ t
  type_is = single first_type t 0 (subst (λ k. slice_get (first_type ∷ []) k ≡ Some t) (sym (single 0 x.function.index own x.function.typed))
      x.function.type_is)

  body_is : first_body a v ≡ b
  body_is = single (first_body a v) b own x.function.body_is

  starts : start_of (first_parts a v) t b [] ≡ c0 a v
  starts = sym (ap (λ u. start_of (first_parts a v) u (first_body a v) []) type_is ∙ ap (λ c. start_of (first_parts a v) t c []) body_is)

opens : (a v : ℕ) → opening_memory (first_parts a v) ≡ page
unfolding zeros
opens a v = refl

-- ---- its one report

one_report : (threads : List ThreadReport) (fuel : ℕ) (outcome : Outcome) (left : ℕ) → length threads ≡ 1
    → ((report : ThreadReport) → slice_get threads 0 ≡ Some report → Tells report fuel outcome left)
    → map (λ (r : ThreadReport). r.outcome) threads ≡ outcome ∷ []
one_report [] fuel outcome left one reports = absurd (omega (arith, one))
one_report (r ∷ []) fuel outcome left one reports = ap (λ o. o ∷ []) (reports r refl).outcome_is
one_report (r ∷ s ∷ more) fuel outcome left one reports = absurd (omega (arith, one))

-- ---- its end

module _ (a v fuel : ℕ) (loses : Bool) (limit : Option ℕ) (H : List Entry) (end : EndState) (below : a < 64) (small : v < 64) (enough : 4 ≤ fuel)
    (room : HasReached limit [] → ⊥) (ends : EndsRun (first_parts a v) (codes "f") [] fuel loses limit H end) where
  abbrev is_history : IsRunHistory (first_parts a v) (codes "f") [] fuel loses limit end.threads.items H
  is_history = ends.is_history

  abbrev start : Start
  start = start_by (first_parts a v) (codes "f") [] fuel is_history.beginning

  four : fuel ≡ suc (suc (suc (suc (fuel - 4))))
  four = omega arith

  on_start : RunsOn (program a v) start.spawned fuel limit (is_history.outcomes 0) (is_history.lefts 0)
      (Runs (At (c0 a v)) (suc (suc (suc (suc (fuel - 4)))))) [] H
  on_start =
      let alone = runs_alone start loses limit H is_history.outcomes is_history.lefts is_history.together refl in
      let same = starts a v is_history.beginning.own is_history.beginning.func_type is_history.beginning.body is_history.beginning.exports in
      subst (λ n. RunsOn (program a v) start.spawned fuel limit (is_history.outcomes 0) (is_history.lefts 0) (Runs (At (c0 a v)) n) [] H) four
      (subst (λ c. RunsOn (program a v) start.spawned fuel limit (is_history.outcomes 0) (is_history.lefts 0) (Runs (At c) fuel) [] H) same alone)

  ended : EndsSo a v (is_history.outcomes 0) H
  ended = ends_so a v below small start.spawned fuel limit (is_history.outcomes 0) (is_history.lefts 0) (fuel - 4) H room
      (subst (λ m. IsMemoryLegal m H) (opens a v) is_history.together.memory) on_start

  memory_is : memory_after (opening_memory (first_parts a v)) H ≡ record { bytes = page_after a v; max = 1 }
  memory_is = ap (λ m. memory_after m H) (opens a v) ∙ ended.memory

  first_end : IsFirstEnd a v end
  first_end = record {
    threads = one_report end.threads.items fuel (is_history.outcomes 0) (is_history.lefts 0)
        (is_history.count ∙ ap (λ (args : List ℕ). length args + 1)
        (unspawned start loses limit H is_history.outcomes is_history.lefts is_history.together refl))
        (is_history.reports 0) ∙ ap (λ o. o ∷ []) ended.outcome_is;
    pages = ends.pages_after ∙ (ap pages memory_is ∙ one_page a v below);
    bytes = ends.bytes_after ∙ ap (λ (m : Memory). m.bytes) memory_is;
  }

pub first_modules_end_so : FirstModulesEndSo
first_modules_end_so a v fuel loses limit H end below small enough room ends = first_end a v fuel loses limit H end below small enough room ends
