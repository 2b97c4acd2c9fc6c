-- Threads that can be spawned: all of a module begin alike, and those that were just made are spares.
use Rattle.std.proofs.Common.{◌≡◌, ℕ, List, refl, sym, ◌∙◌, ap, subst, get_or, codes}
use Rattle.types.specs.declared.value.ValType.{ValType}
use Rattle.types.specs.declared.value.Value.{Value}
use Rattle.types.specs.declared.parts.FuncType.{FuncType}
use Rattle.types.specs.declared.parts.Body.{Body}
use Rattle.types.specs.declared.parts.Parts.{Parts}
use Rattle.validate_typing.specs.Validity.{HasDistinctNames}
use Rattle.interp_machine.specs.Config.{Config}
use Rattle.interp_trait.specs.Turns.{Meaning}
use Rattle.interp.specs.Starts.{start_of}
use Rattle.spawn_host.specs.Threads.{AreSpawnable}
use Rattle.replay.specs.Threads.{IsWorker, AreSpares}
use Rattle.replay.proofs.Same.{same_function}

pub one_worker : (m : Parts) → HasDistinctNames m.exports → (x y : List Value → Config) → IsWorker m x → IsWorker m y → x ≡ y
one_worker m distinct x y v w =
    let same = same_function m distinct (codes "wasi_thread_start") v.own w.own v.func_type w.func_type v.body w.body v.is_start.exports w.is_start.exports in
    v.begins ∙ (ap (λ (t : FuncType). start_of m t v.body) same.0 ∙ ap (λ (b : Body). start_of m w.func_type b) same.1) ∙ sym w.begins

pub spawnable_are_spares : {T : Type 0} (meaning : T → Meaning) (m : Parts) (args : List Value) (budget : ℕ) (threads : List T)
    → AreSpawnable meaning m args budget threads → AreSpares meaning m budget threads
spawnable_are_spares meaning m args budget threads s = λ k d lt. let call = s.calls k d lt in record {
  program_is = call.program_is;
  fuel_is = call.fuel_is;
  worker = start_of m s.func_type s.body;
  is_worker = record { own = s.own; func_type = s.func_type; body = s.body; is_start = s.is_start; begins = refl };
  begins_so = subst (λ (types : List ValType). (meaning (get_or threads k d)).begins types (start_of m s.func_type s.body)) s.is_start.params call.begins_so;
}
