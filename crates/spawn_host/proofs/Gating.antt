-- How the threads of a module's run go by its gate.
use Rattle.std.proofs.Common.{◌≡◌, inl, inr, ℕ, zero, suc, All, List, [], ◌∷◌, Option, Some, None, refl, sym, subst, slice_get}
use Rattle.std.specs.Prelude.{Result, Ok, Err, IfOk}
use Rattle.std.proofs.lemmas.List.Elements.{All-head, All-tail}
use Rattle.types.specs.declared.value.Value.{Value}
use Rattle.types.specs.declared.value.Value.TheVariants as values
use Rattle.types.specs.declared.parts.Parts.{Parts}
use Rattle.types.specs.declared.outcome.ThreadReport.{ThreadReport}
use Rattle.schedule.specs.Machine.{Thread.Runs}
use Rattle.interp_machine.specs.Program.{Program, program_of}
use Rattle.interp_machine.specs.State.{At}
use Rattle.interp_trait.specs.Turns.{Running, Meaning}
use Rattle.interp_trait.specs.declared.gate.Gate.{Ghosts}
use Rattle.interp.specs.Starts.{start_of}
use Rattle.spawn_host_workers.specs.declared.report.RunEnd.{RunEnd}
use Rattle.spawn_host_workers.specs.Gated.{IsGated, Passage, PassesFirst, PassesGate, PassesOther, PassesSpawned}
use Rattle.spawn_host.specs.declared.call.Call.{Call}
use Rattle.spawn_host.specs.Requests.{Requested, IsRequestOf}
use Rattle.spawn_host.specs.Threads.{IsCall, BeginsRequest, BeginBeside, AreSpawnable}
use Rattle.spawn_host.specs.Gates.{IsGatedRun, IsGatedCall, Passes, requested}

all_at : {A : Type 0} (P : A → Type 0) (xs : List A) (k : ℕ) (x : A) → All P xs → slice_get xs k ≡ Some x → P x
all_at P [] k x all is = absurd (cc is)
all_at P (y ∷ xs) zero x all is = let same : y ≡ x = cc is in subst P same (All-head P y xs all)
all_at P (y ∷ xs) (suc k) x all is = all_at P xs k x (All-tail P y xs all) is

module _ {T G : Type 0} (meaning : T → Meaning) (gate : Ghosts G) (old new : G) (r : Requested) where
  -- of this program, and with this budget
  as_requested : (thread : T) (n : ℕ) (t : Running) (report : ThreadReport) (now : G)
      → (meaning thread).program ≡ program_of r.parts → (meaning thread).fuel ≡ r.fuel
      → PassesGate gate (meaning thread).program n t report.outcome report.spent (meaning thread).fuel old now
      → PassesGate gate (program_of r.parts) n t report.outcome report.spent r.fuel old now
  as_requested thread n t report now program fuel h =
      subst (λ (p : Program). PassesGate gate p n t report.outcome report.spent r.fuel old now) program
      (subst (λ (f : ℕ). PassesGate gate (meaning thread).program n t report.outcome report.spent f old now) fuel h)

  first_passes : (first : T) → BeginsRequest meaning r first → (report : Option ThreadReport) (now : G)
      → PassesFirst gate 0 (meaning first) report old now → Passes gate r 0 report old now
  first_passes first begins None now h = absurd h
  first_passes first begins (Some report) now h =
      let t : Running = Runs (At (start_of r.parts begins.takes.func_type begins.takes.body r.args)) r.fuel in (
        t,
        (begins.takes, refl),
        as_requested first 0 t report now begins.call.program_is begins.call.fuel_is (h t begins.call.stands_so tt),
      )

  spawned_passes : (args : List Value) (threads : List T) → AreSpawnable meaning r.parts args r.fuel threads → (k : ℕ) (thread : T)
      → slice_get threads k ≡ Some thread → (report : Option ThreadReport) (now : G)
      → PassesSpawned gate (suc k) (meaning thread) report old now → Passes gate r (suc k) report old now
  spawned_passes args threads w k thread at None now h = h
  spawned_passes args threads w k thread at (Some report) now h =
      let call = all_at (IsCall meaning r.parts w.func_type w.body args r.fuel) threads k thread w.calls at in
      let t : Running = Runs (At (start_of r.parts w.func_type w.body (values.I32 (suc k) ∷ values.I32 h.0 ∷ []))) r.fuel in
      let passed = h.1 w.func_type.params (start_of r.parts w.func_type w.body) call.begins_so in (
        t,
        (w.own, w.func_type, w.body, w.is_start, h.0, refl),
        as_requested thread (suc k) t report now call.program_is call.fuel_is
            (subst (λ (f : ℕ). PassesGate gate (meaning thread).program (suc k)
            (Runs (At (start_of r.parts w.func_type w.body (values.I32 (suc k) ∷ values.I32 h.0 ∷ []))) f)
            report.outcome report.spent (meaning thread).fuel old now) call.fuel_is passed),
      )

  none_passes : (n : ℕ) (report : Option ThreadReport) (now : G) → report ≡ None → now ≡ old → Passes gate r n report old now
  none_passes n report now none same = subst (λ (o : Option ThreadReport). Passes gate r n o old now) (sym none) same

  module _ (threads : List T) (k : ℕ) (x : Passage G) where
    beside : (args : List Value) → AreSpawnable meaning r.parts args r.fuel threads → (o : Option T) → slice_get threads k ≡ o
        → PassesOther gate meaning (suc k) o x old → Passes gate r (suc k) x.report old x.gate
    beside args w None at h = none_passes (suc k) x.report x.gate h.0 h.1
    beside args w (Some thread) at h = spawned_passes args threads w k thread at x.report x.gate h

    other_passes : BeginBeside meaning r threads → PassesOther gate meaning (suc k) (slice_get threads k) x old
        → Passes gate r (suc k) x.report old x.gate
    other_passes (inl some) h = beside some.1.0 some.1.1 (slice_get threads k) refl h
    other_passes (inr none) h =
        let alone = subst (λ (l : List T). PassesOther gate meaning (suc k) (slice_get l k) x old) none.1 h in
        none_passes (suc k) x.report x.gate alone.0 alone.1

  gated : (first : T) (others : List T) → BeginsRequest meaning r first → BeginBeside meaning r others → (threads : List ThreadReport)
      → IsGated gate meaning first others threads old new → IsGatedRun gate r threads old new
  gated first others begins besides threads g = record {
    passages = g.lead ∷ g.others;
    reports = g.reports;
    each = each;
    gathered = g.gathered;
  }
    where
      each : (n : ℕ) (x : Passage G) → slice_get (g.lead ∷ g.others) n ≡ Some x → Passes gate r n x.report old x.gate
      each zero x is =
          let same : g.lead ≡ x = cc is in
          subst (λ (y : Passage G). Passes gate r 0 y.report old y.gate) same
          (first_passes first begins (Passage.report g.lead) (Passage.gate g.lead) g.leads)
      each (suc k) x is = other_passes others k x besides (g.works k x is)

  pub gated_result : {S F : Type 0} (first : T) (others : List T) → BeginsRequest meaning r first → BeginBeside meaning r others
      → (result : Result (RunEnd S) F)
      → IfOk result (λ (end : RunEnd S). IsGated gate meaning first others end.threads.items old new)
      → IfOk result (λ (end : RunEnd S). IsGatedRun gate r end.threads.items old new)
  gated_result first others begins besides (Ok end) g = gated first others begins besides end.threads.items g
  gated_result first others begins besides (Err fault) g = tt

-- The request is for this call of the module.
pub gated_call : {G : Type 0} (gate : Ghosts G) (r : Requested) (m : Parts) (call : Call) → IsRequestOf m call r
    → (threads : List ThreadReport) (old new : G) → IsGatedRun gate r threads old new → IsGatedCall gate m call threads old new
gated_call gate r m call of_call threads old new g = subst (λ (q : Requested). IsGatedRun gate q threads old new) same g
  where
    same : r ≡ requested m call
    same = λ i. record { parts = of_call.parts_are i; name = of_call.name_is i; args = of_call.args_are i; fuel = of_call.fuel_is i }
