-- Calls that can be made, and runs of them.
use Rattle.std.proofs.Common.{◌≡◌, ℕ, zero, suc, ◌<◌, All, List, length, map, refl, sym, subst, ap, ◌∙◌}
use Rattle.std.proofs.Common.{inl, inr, arith, get_or}
use Rattle.std.specs.Global.{Vec}
use Rattle.std.specs.Prelude.{Result, Ok, Err, IfOk, IfErr}
use Rattle.std.proofs.lemmas.Option.{slice_get_within}
use Rattle.types.specs.declared.value.Value.{Value}
use Rattle.types.specs.declared.parts.FuncType.{FuncType}
use Rattle.types.specs.declared.parts.Body.{Body}
use Rattle.types.specs.declared.parts.Parts.{Parts}
use Rattle.types.specs.declared.outcome.ThreadReport.{ThreadReport}
use Rattle.types.specs.Values.{type_of}
use Rattle.types.specs.declared.value.ValType.{ValType}
use Rattle.validate_typing.specs.Context.{imported_functions}
use Rattle.interp_machine.specs.Program.{Program}
use Rattle.interp_trait.specs.Turns.{Meaning, MayBeSpawned}
use Rattle.interp.specs.Starts.{IsFunction, start_of}
use Rattle.spawn_host_workers.specs.Crew.{CountsSpawnable}
use Rattle.spawn_host_workers.specs.OverMemory.{OverMemory}
use Rattle.spawn_host_workers.specs.declared.report.StartFault.{StartFault}
use Rattle.spawn_host_workers.specs.declared.report.StartFault.TheVariants.{NoMemory, NoThread}
use Rattle.spawn_host_workers.specs.declared.report.Unstarted.{Unstarted}
use Rattle.spawn_host_workers.specs.declared.report.Unstarted.TheVariants as unstarted
use Rattle.spawn_host_workers.specs.Unstarted.{IsAsTheyCame}
use Rattle.spawn_host.specs.declared.call.Call.{Call}
use Rattle.spawn_host.specs.declared.running.RunFault.TheVariants as faults
use Rattle.spawn_host.specs.Entries.{Takes, StartsThreads}
use Rattle.spawn_host.specs.Requests.{Requested, IsRequestOf, IsNumberOf}
use Rattle.spawn_host.specs.Faults.{HasStartFault, IsFaultOf, IsStartFault}
use Rattle.spawn_host.specs.Threads.{IsCall, IsFirst, BeginsRequest, BeginBeside, AreSpawnable}
use Rattle.spawn_host.specs.Runs.{IsRun, IsRunOfRequest}

-- what is called by a request of a module's
module _ (r : Requested) (m : Parts) (call : Call) (own : ℕ) (of_module : m ≡ r.parts) (of_call : IsRequestOf r.parts call r)
    (number : IsNumberOf r own) where
  function : IsFunction m own number.0.func_type number.0.body
  function =
      subst (λ (p : Parts). IsFunction p own number.0.func_type number.0.body) (sym of_module)
      (subst (λ (n : ℕ). IsFunction r.parts n number.0.func_type number.0.body) number.1 number.0.exports.function)

  pub within : own < length m.functions
  within = slice_get_within m.functions own function.index function.typed

  pub taken : (t : FuncType) × (body : Body) × IsFunction m own t body × (map type_of call.args.now ≡ t.params)
  taken = (number.0.func_type, number.0.body, function, ap (λ (args : List Value). map type_of args) (sym of_call.args_are) ∙ number.0.fit)

  pub begun : {T E : Type 0} (meaning : T → Meaning) (result : Result T E)
      → IfOk result (λ x. (t : FuncType) (b : Body) → IsFunction m own t b → IsCall meaning m t b call.args.now call.fuel x)
      → IfOk result (BeginsRequest meaning r)
  begun meaning (Err e) calls = tt
  begun meaning (Ok x) calls =
      let t = number.0.func_type in
      let b = number.0.body in record {
        takes = number.0;
        call = subst (λ (p : Parts). IsCall meaning p t b r.args r.fuel x) of_module
            (subst (λ (args : List Value). IsCall meaning m t b args r.fuel x) (sym of_call.args_are)
            (subst (λ (fuel : ℕ). IsCall meaning m t b call.args.now fuel x) (sym of_call.fuel_is) (calls t b function)));
      }

-- threads that can be spawned in a run of it
spawnable : {T : Type 0} (meaning : T → Meaning) (r : Requested) (m : Parts) (call : Call) (args : List Value)
    (threads : List T) → m ≡ r.parts → IsRequestOf r.parts call r → AreSpawnable meaning m args call.fuel threads
    → AreSpawnable meaning r.parts args r.fuel threads
spawnable meaning r m call args threads of_module of_call w =
    subst (λ (p : Parts). AreSpawnable meaning p args r.fuel threads) of_module
    (subst (λ (fuel : ℕ). AreSpawnable meaning m args fuel threads) (sym of_call.fuel_is) w)

pub beside : {T E : Type 0} (meaning : T → Meaning) (r : Requested) (m : Parts) (call : Call) (args : List Value)
    → m ≡ r.parts → IsRequestOf r.parts call r → StartsThreads m → (result : Result (Vec T) E)
    → IfOk result (λ (threads : Vec T). AreSpawnable meaning m args call.fuel threads.items)
    → IfOk result (λ (threads : Vec T). BeginBeside meaning r threads.items)
beside meaning r m call args of_module of_call starts (Err e) w = tt
beside meaning r m call args of_module of_call starts (Ok threads) w =
    inl (subst (λ (p : Parts). StartsThreads p) of_module starts, (args, spawnable meaning r m call args threads.items of_module of_call w))

-- faults at the start of its threads

lone_fault : {A S : Type 0} (r : Requested) (seats : List S) (result : Result A (Unstarted S)) → IfErr result (IsAsTheyCame seats)
    → IfErr result (HasStartFault r)
lone_fault r seats (Ok x) is = tt
lone_fault r seats (Err (unstarted.NoMemory back)) is = tt
lone_fault r seats (Err (unstarted.NoThread seat)) is = absurd is

threads_fault : {A S : Type 0} (r : Requested) (result : Result A (Unstarted S)) → StartsThreads r.parts
    → IfErr result (HasStartFault r)
threads_fault r (Ok x) starts = tt
threads_fault r (Err (unstarted.NoMemory back)) starts = tt
threads_fault r (Err (unstarted.NoThread seat)) starts = starts

-- the threads beside the first
module _ {T : Type 0} (meaning : T → Meaning) (r : Requested) (threads : List T) where
  pub start_fault : {A S : Type 0} (seats : List S) (result : Result A (Unstarted S)) → BeginBeside meaning r threads
      → (length threads ≡ 0 → IfErr result (IsAsTheyCame seats)) → IfErr result (HasStartFault r)
  start_fault seats result (inl some) fault = threads_fault r result some.0
  start_fault seats result (inr none) fault = lone_fault r seats result (fault (ap length none.1))

  pub counted : (first : T) → BeginsRequest meaning r first → BeginBeside meaning r threads
      → CountsSpawnable (meaning first) (length threads)
  counted first f (inl some) = inl some.1.1.count
  counted first f (inr none) =
      inr (ap length none.1, ap (λ (p : Program). p.imported) f.call.program_is ∙ none_of_some (length (imported_functions r.parts)) none.0)
    where
      none_of_some : (n : ℕ) → (0 < n → ⊥) → n ≡ 0
      none_of_some zero h = refl
      none_of_some (suc n) h = absurd (h (omega arith))

  pub spawned_begin : BeginBeside meaning r threads → All (λ (t : T). MayBeSpawned (meaning t)) threads
  spawned_begin (inl some) = λ k d lt.
      let w = some.1.1 in
      let start = start_of r.parts w.func_type w.body in
      (start, subst (λ (types : List ValType). (meaning (get_or threads k d)).begins types start) w.is_start.params (w.calls k d lt).begins_so)
  spawned_begin (inr none) = λ k d lt. let is = ap length none.1 in absurd (omega (arith, lt, is))

-- The request is for this call of the module.
module _ (r : Requested) (m : Parts) (call : Call) (of_call : IsRequestOf m call r) where
  pub fault_of_call : (fault : StartFault) → Takes m call.name.now call.args.now → IsStartFault r fault
      → IsFaultOf m call.name.now call.args.now (faults.Start fault)
  fault_of_call NoMemory takes is = takes
  fault_of_call NoThread takes is = (takes, subst (λ (p : Parts). StartsThreads p) of_call.parts_are is)

  pub run_of_call : {S : Type 0} (mem : OverMemory S) (threads : List ThreadReport) (seats : List S)
      → IsRunOfRequest r mem threads seats → IsRun m call.name.now call.args.now call.fuel mem threads seats
  run_of_call mem threads seats run =
      subst (λ (p : Parts). IsRun p call.name.now call.args.now call.fuel mem threads seats) of_call.parts_are
      (subst (λ (name : List ℕ). IsRun r.parts name call.args.now call.fuel mem threads seats) of_call.name_is
      (subst (λ (args : List Value). IsRun r.parts r.name args call.fuel mem threads seats) of_call.args_are
      (subst (λ (fuel : ℕ). IsRun r.parts r.name r.args fuel mem threads seats) of_call.fuel_is run)))

  pub first_of_call : {T : Type 0} (meaning : T → Meaning) (first : T) → BeginsRequest meaning r first
      → IsFirst meaning m call.name.now call.args.now call.fuel first
  first_of_call meaning first begins =
      subst (λ (p : Parts). IsFirst meaning p call.name.now call.args.now call.fuel first) of_call.parts_are
      (subst (λ (name : List ℕ). IsFirst meaning r.parts name call.args.now call.fuel first) of_call.name_is
      (subst (λ (args : List Value). IsFirst meaning r.parts r.name args call.fuel first) of_call.args_are
      (subst (λ (fuel : ℕ). IsFirst meaning r.parts r.name r.args fuel first) of_call.fuel_is begins)))
