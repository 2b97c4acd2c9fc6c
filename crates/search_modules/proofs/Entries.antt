-- A call of an exported function, with arguments that fit it, can be searched, and is what a run of the module calls.
use Rattle.std.specs.Prelude.{ℕ, ◌≡◌, ◌&&◌, true, List, [], ◌∷◌, map, Option, Some, None}
use Rattle.std.proofs.Common.{refl, sym, ap, ◌∙◌, subst}
use Rattle.std.specs.List.{slice_get}
use Rattle.std.specs.Cmp.Lexicographic.{pointwise}
use Rattle.types.specs.declared.value.ValType.{ValType}
use Rattle.types.specs.declared.value.ValType.TheVariants as types
use Rattle.types.specs.declared.value.Value.{Value}
use Rattle.types.specs.declared.value.Value.TheVariants as values
use Rattle.types.specs.declared.parts.FuncType.{FuncType}
use Rattle.types.specs.declared.parts.Body.{Body}
use Rattle.types.specs.declared.parts.Parts.{Parts}
use Rattle.types.specs.Equal.{is_type}
use Rattle.types.specs.Values.{type_of}
use Rattle.types.specs.declared.limits.TheConstants.{MOST_PAGES}
use Rattle.types.specs.Modules.{IsModule}
use Rattle.validate_typing.specs.Image.{opening_image, pages_max_of}
use Rattle.validate_typing.specs.Validity.{IsValid}
use Rattle.interp_machine.specs.State.{At}
use Rattle.interp_machine.specs.Program.{program_of}
use Rattle.interp_trait.specs.Turns.{spawned_in}
use Rattle.interp.specs.Starts.{IsFunction, start_of}
use Rattle.spawn_host.specs.Entries.{StartsThreads, CallsThreadStart, Takes}
use Rattle.spawn_host.specs.Runs.{Beginning}
use Rattle.replay.proofs.Openable.{module_opens}
use Rattle.search_modules.specs.Returned.{IsCall}
use Rattle.search_modules.specs.Searching.{type_at, call_by, call_of, takes, can_call, can_spawn, worker_of, called_of, is_callable}
use Rattle.search_modules.specs.Endings.{IsWorkerOf}

-- types are the same as themselves

itself : (t : ValType) → is_type t t ≡ true
itself types.I32 = refl
itself types.I64 = refl

all_itself : (ts : List ValType) → pointwise is_type ts ts ≡ true
all_itself [] = refl
all_itself (t ∷ ts) = ap (λ b. b && pointwise is_type ts ts) (itself t) ∙ all_itself ts

-- a function of the module

module _ (m : Parts) (own : ℕ) (t : FuncType) (body : Body) (function : IsFunction m own t body) where
  type_is : type_at m (slice_get m.functions own) ≡ Some t
  type_is = ap (type_at m) function.typed ∙ function.type_is

  pub call_is : (args : List Value) → call_of m own args ≡ start_of m t body args
  call_is args = ap (λ o. call_by m o (slice_get m.bodies own) args) type_is ∙ ap (λ o. call_by m (Some t) o args) function.body_is

  pub callable : (params : List ValType) → params ≡ t.params → can_call m own params ≡ true
  callable params fit =
      ap (λ o. takes o (slice_get m.bodies own) params) type_is
      ∙ (ap (λ o. takes (Some t) o params) function.body_is
      ∙ (ap (λ ps. pointwise is_type ps t.params) fit ∙ all_itself t.params))

spawnable : (m : Parts) (worker : Option ℕ) → IsWorkerOf m worker → can_spawn m worker ≡ true
spawnable m None is = refl
spawnable m (Some own) is = let s = is.3 in callable m own is.1 is.2 s.exports.function (types.I32 ∷ types.I32 ∷ []) (sym s.params)

-- what spawned threads call

abbrev two_args : ℕ → ℕ → List Value
two_args n arg = values.I32 n ∷ values.I32 arg ∷ []

calls_start : (m : Parts) (own : ℕ) (worker : Option ℕ) → IsWorkerOf m worker → StartsThreads m → CallsThreadStart m (spawned_in (worker_of m own worker))
calls_start m own None is starts = absurd (is starts)
calls_start m own (Some n) is starts = record {
  own = n;
  func_type = is.1;
  body = is.2;
  is_start = is.3;
  begins = λ k arg. ap At (call_is m n is.1 is.2 is.3.exports.function (two_args k arg));
}

idle : (m : Parts) (own : ℕ) (t : FuncType) (body : Body) → IsFunction m own t body → (worker : Option ℕ) → IsWorkerOf m worker → (StartsThreads m → ⊥)
    → (n arg : ℕ) → spawned_in (worker_of m own worker) n arg ≡ At (start_of m t body (two_args n arg))
idle m own t body function None is none n arg = ap At (call_is m own t body function (two_args n arg))
idle m own t body function (Some k) is none n arg = absurd (none is.0)

module _ (m : Parts) (entry : List ℕ) (args : List Value) (so : Takes m entry args) (worker : Option ℕ) (is : IsWorkerOf m worker) where
  pub can_be_called : IsModule m → IsValid m → is_callable m (opening_image m) (pages_max_of MOST_PAGES m) so.own args worker ≡ true
  can_be_called tested valid =
      ap (λ b. b && (can_call m so.own (map type_of args) && can_spawn m worker)) (module_opens m tested valid)
      ∙ (ap (λ b. b && can_spawn m worker) (callable m so.own so.func_type so.body so.exports.function (map type_of args) so.fit)
      ∙ spawnable m worker is)

  abbrev begins : Beginning m entry args
  begins = record {
    own = so.own;
    func_type = so.func_type;
    body = so.body;
    exports = so.exports;
    fit = so.fit;
    spawned = spawned_in (worker_of m so.own worker);
    calls = calls_start m so.own worker is;
    idle = idle m so.own so.func_type so.body so.exports.function worker is;
  }

  pub is_call : IsCall m entry args (called_of m (opening_image m) (pages_max_of MOST_PAGES m) so.own args worker)
  is_call =
      let main = sym (call_is m so.own so.func_type so.body so.exports.function args) in
      record {
        beginning = begins;
        same = λ fuel i. record {
          program = program_of m;
          main = At (main i);
          spawned = spawned_in (worker_of m so.own worker);
          fuel = fuel;
          opening = record { bytes = opening_image m; max = pages_max_of MOST_PAGES m };
        };
      }

  -- so does what is the same
  module _ (opening : List ℕ) (max own : ℕ) (opening_is : opening ≡ opening_image m) (max_is : max ≡ pages_max_of MOST_PAGES m) (own_is : own ≡ so.own) where
    pub callable_so : IsModule m → IsValid m → is_callable m opening max own args worker ≡ true
    callable_so tested valid = (λ i. is_callable m (opening_is i) (max_is i) (own_is i) args worker) ∙ can_be_called tested valid

    pub call_so : IsCall m entry args (called_of m opening max own args worker)
    call_so =
        let back_opening = sym opening_is in
        let back_max = sym max_is in
        let back_own = sym own_is in
        subst (IsCall m entry args) (λ i. called_of m (back_opening i) (back_max i) (back_own i) args worker) is_call

-- whoever can be called takes its arguments
pub takes_them : (m : Parts) (entry : List ℕ) (args : List Value) → Beginning m entry args → Takes m entry args
takes_them m entry args b = record { own = b.own; func_type = b.func_type; body = b.body; exports = b.exports; fit = b.fit }
