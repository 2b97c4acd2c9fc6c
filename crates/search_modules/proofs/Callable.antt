-- What can be called has functions for it, and an opening memory of whole pages.
use Rattle.std.specs.Prelude.{ℕ, ◌≡◌, ◌&&◌, true, List, [], ◌∷◌, map, Option, Some, None}
use Rattle.std.proofs.Common.{refl, sym, ap, ◌∙◌, arith, true≢false}
use Rattle.std.specs.List.{slice_get}
use Rattle.std.specs.Cmp.{first_so, second_so}
use Rattle.std.specs.Cmp.Lexicographic.{pointwise}
use Rattle.std.proofs.lemmas.Bool.Decides.{nat_tests}
use Rattle.types.specs.declared.value.ValType.{ValType}
use Rattle.types.specs.declared.value.ValType.TheVariants as types
use Rattle.types.specs.declared.value.Value.{Value}
use Rattle.types.specs.declared.value.Value.TheVariants as values
use Rattle.types.specs.declared.parts.FuncType.{FuncType}
use Rattle.types.specs.declared.parts.Body.{Body}
use Rattle.types.specs.declared.parts.Parts.{Parts}
use Rattle.types.specs.Equal.{is_type}
use Rattle.types.specs.Values.{type_of}
use Rattle.types.proofs.Equal.{Decides-type}
use Rattle.shared_memory_sequential.specs.Opening.{can_open, IsSized}
use Rattle.interp.specs.Starts.{IsFunction, start_of}
use Rattle.search_parts.specs.Parts.{IsWorkerFunction, AreWorkers}
use Rattle.search_modules.specs.Searching.{type_at, type_of_function, call_by, call_of, takes, can_call, can_spawn, worker_of, is_callable}

same_types : (ts us : List ValType) → pointwise is_type ts us ≡ true → ts ≡ us
same_types [] [] e = refl
same_types [] (u ∷ us) e = absurd (true≢false (sym e))
same_types (t ∷ ts) [] e = absurd (true≢false (sym e))
same_types (t ∷ ts) (u ∷ us) e =
    let head : t ≡ u = (Decides-type t u).0 (first_so (is_type t u) (pointwise is_type ts us) e) in
    let tail : ts ≡ us = same_types ts us (second_so (is_type t u) (pointwise is_type ts us) e) in
    cc (head, tail)

-- a function of the module with these parameters, and its calls
pub record HasFunction (m : Parts) (own : ℕ) (params : List ValType) : Type 0 where
  pub func_type : FuncType
  pub body : Body
  pub function : IsFunction m own func_type body
  pub fit : params ≡ func_type.params
  pub calls : (args : List Value) → call_of m own args ≡ start_of m func_type body args

by_parts : (m : Parts) (own : ℕ) (params : List ValType) (i : Option ℕ) (t : Option FuncType) (b : Option Body) → slice_get m.functions own ≡ i
    → type_at m i ≡ t → slice_get m.bodies own ≡ b → takes t b params ≡ true → HasFunction m own params
by_parts m own params i None b at typed has e = absurd (true≢false (sym e))
by_parts m own params i (Some t) None at typed has e = absurd (true≢false (sym e))
by_parts m own params None (Some t) (Some b) at typed has e = absurd (cc typed)
by_parts m own params (Some index) (Some t) (Some b) at typed has e = record {
  func_type = t;
  body = b;
  function = record { index = index; typed = at; type_is = typed; body_is = has };
  fit = same_types params t.params e;
  calls = λ args. ap (λ o. call_by m (type_at m o) (slice_get m.bodies own) args) at
      ∙ (ap (λ o. call_by m o (slice_get m.bodies own) args) typed ∙ ap (λ o. call_by m (Some t) o args) has);
}

pub has_function : (m : Parts) (own : ℕ) (params : List ValType) → can_call m own params ≡ true → HasFunction m own params
has_function m own params e = by_parts m own params (slice_get m.functions own) (type_of_function m own) (slice_get m.bodies own) refl refl refl e

abbrev two : List ValType
two = types.I32 ∷ types.I32 ∷ []

is_worker : (m : Parts) (own : ℕ) → can_call m own two ≡ true → IsWorkerFunction m (call_of m own) own
is_worker m own e =
    let f = has_function m own two e in
    record {
      func_type = f.func_type;
      body = f.body;
      function = f.function;
      takes = sym f.fit;
      begins = λ n arg. f.calls (values.I32 n ∷ values.I32 arg ∷ []);
    }

workers_by : (m : Parts) (own : ℕ) (worker : Option ℕ) → can_spawn m worker ≡ true → AreWorkers m (worker_of m own worker) worker
workers_by m own None e = tt
workers_by m own (Some worker) e = is_worker m worker e

sized_by : (bytes : List ℕ) (max : ℕ) → can_open bytes max ≡ true → IsSized (record { bytes = bytes; max = max })
sized_by bytes max e = record {
  whole = grind (arith, nat_tests, e);
  within = grind (arith, nat_tests, e);
  small = grind (arith, nat_tests, e);
}

-- of what can be called
module _ (m : Parts) (opening : List ℕ) (max own : ℕ) (args : List Value) (worker : Option ℕ) (so : is_callable m opening max own args worker ≡ true) where
  both : (can_call m own (map type_of args) && can_spawn m worker) ≡ true
  both = second_so (can_open opening max) (can_call m own (map type_of args) && can_spawn m worker) so

  pub main : HasFunction m own (map type_of args)
  main = has_function m own (map type_of args) (first_so (can_call m own (map type_of args)) (can_spawn m worker) both)

  pub workers : AreWorkers m (worker_of m own worker) worker
  workers = workers_by m own worker (second_so (can_call m own (map type_of args)) (can_spawn m worker) both)

  pub sized : IsSized (record { bytes = opening; max = max })
  sized = sized_by opening max (first_so (can_open opening max) (can_call m own (map type_of args) && can_spawn m worker) so)
