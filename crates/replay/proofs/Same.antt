-- A record's run of a valid module begins in one way.
use Rattle.std.proofs.Common.{◌≡◌, ℕ, List, length, Some, sym, ◌∙◌, ap, subst, arith, inl, inr, codes}
use Rattle.std.specs.List.{slice_get}
use Rattle.std.proofs.lemmas.Bool.{cases_lt}
use mathlib.Core.Path.{fun_ext}
use Rattle.types.specs.declared.value.Value.{Value}
use Rattle.types.specs.declared.parts.FuncType.{FuncType}
use Rattle.types.specs.declared.parts.Body.{Body}
use Rattle.types.specs.declared.parts.Parts.{Parts}
use Rattle.types.specs.declared.value.Value.TheVariants as values
use Rattle.std.proofs.Common.{[], ◌∷◌}
use Rattle.validate_typing.specs.Context.{imported_functions}
use Rattle.validate_typing.specs.Validity.{HasDistinctNames}
use Rattle.validate_module_rules.specs.Exported.{IsExported}
use Rattle.validate_module_rules.proofs.ExportLaws.{exported_is}
use Rattle.interp_machine.specs.State.{State, At}
use Rattle.interp.specs.Starts.{IsFunction, start_of}
use Rattle.spawn_host.specs.Entries.{Exports, StartsThreads, CallsThreadStart}
use Rattle.schedule_runs.specs.Runs.{Start}
use Rattle.spawn_host.specs.Runs.{Beginning, start_with, opening_within}
use Rattle.replay_text.specs.declared.parts.RecordParts.{RecordParts}
use Rattle.replay.specs.Runs.{BeginsBy, start_of_record}

module _ (m : Parts) (distinct : HasDistinctNames m.exports) where
  pub same_own : (name : List ℕ) (own other : ℕ) → IsExported m name own → IsExported m name other → own ≡ other
  same_own name own other x y =
      let both : Some own ≡ Some other = sym (exported_is m name own distinct x) ∙ exported_is m name other distinct y in
      cc both

  same_here : (own : ℕ) (t u : FuncType) (b c : Body) → IsFunction m own t b → IsFunction m own u c → (t ≡ u) × (b ≡ c)
  same_here own t u b c f g =
      let indices : Some f.index ≡ Some g.index = sym f.typed ∙ g.typed in
      let index : f.index ≡ g.index = cc indices in
      let types : Some t ≡ Some u = sym f.type_is ∙ ap (slice_get m.types) index ∙ g.type_is in
      let bodies : Some b ≡ Some c = sym f.body_is ∙ g.body_is in
      let type_is : t ≡ u = cc types in
      let body_is : b ≡ c = cc bodies in
      (type_is, body_is)

  pub same_function : (name : List ℕ) (own other : ℕ) (t u : FuncType) (b c : Body) → Exports m name own t b → Exports m name other u c → (t ≡ u) × (b ≡ c)
  same_function name own other t u b c x y =
      let is = same_own name own other x.exported y.exported in
      same_here own t u b c x.function (subst (λ (o : ℕ). IsFunction m o u c) (sym is) y.function)

  same_call : (t u : FuncType) (b c : Body) (args : List Value) → t ≡ u → b ≡ c → At (start_of m t b args) ≡ At (start_of m u c args)
  same_call t u b c args type_is body_is = ap (λ (x : FuncType). At (start_of m x b args)) type_is ∙ ap (λ (x : Body). At (start_of m u x args)) body_is

  same_worker : (x y : ℕ → ℕ → State) → CallsThreadStart m x → CallsThreadStart m y → (n arg : ℕ) → x n arg ≡ y n arg
  same_worker x y s o n arg =
      let same = same_function (codes "wasi_thread_start") s.own o.own s.func_type o.func_type s.body o.body s.is_start.exports o.is_start.exports in
      s.begins n arg ∙ same_call s.func_type o.func_type s.body o.body (values.I32 n ∷ values.I32 arg ∷ []) same.0 same.1 ∙ sym (o.begins n arg)

  same_spawned : (name : List ℕ) (args : List Value) (x y : Beginning m name args) (n arg : ℕ) → x.spawned n arg ≡ y.spawned n arg
  same_spawned name args x y n arg =
      elim (cases_lt 0 (length (imported_functions m))) [
        | inl starts ↦ same_worker x.spawned y.spawned (x.calls starts) (y.calls starts) n arg
        | inr none ↦ (
            let idle : StartsThreads m → ⊥ = λ starts. absurd (omega (arith, starts, none)) in
            let same = same_function name x.own y.own x.func_type y.func_type x.body y.body x.exports y.exports in
            x.idle idle n arg ∙ same_call x.func_type y.func_type x.body y.body (values.I32 n ∷ values.I32 arg ∷ []) same.0 same.1 ∙ sym (y.idle idle n arg)
            )
      ]

  pub same_start : (r : RecordParts) (x y : BeginsBy m r) → start_of_record m r x ≡ start_of_record m r y
  same_start r x y =
      let same = same_function r.invoke x.own y.own x.func_type y.func_type x.body y.body x.exports y.exports in
      let spawned : x.spawned ≡ y.spawned = fun_ext (λ n. fun_ext (λ arg. same_spawned r.invoke r.args x y n arg)) in
      ap (λ (s : Start). record s { opening = opening_within r.max_pages m })
      (ap (λ (t : FuncType). start_with m t x.body r.args x.spawned r.fuel) same.0 ∙
      ap (λ (b : Body). start_with m y.func_type b r.args x.spawned r.fuel) same.1
      ∙ ap (λ (s : ℕ → ℕ → State). start_with m y.func_type y.body r.args s r.fuel) spawned)
