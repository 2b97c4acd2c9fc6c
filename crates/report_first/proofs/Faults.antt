-- The call of a module of one atomic add can be made.
use Rattle.std.proofs.Common.{◌≡◌, ℕ, [], refl, ap, arith}
use Rattle.std.specs.Prelude.{codes}
use Rattle.types.specs.declared.parts.FuncType.{FuncType}
use Rattle.validate_module_rules.specs.Exported.{IsExported}
use Rattle.spawn_host.specs.Entries.{IsUnknown, Refuses, StartsThreads}
use Rattle.spawn_host.specs.Faults.{IsFaultOf}
use Rattle.spawn_host_workers.specs.declared.report.StartFault.{StartFault}
use Rattle.spawn_host_workers.specs.declared.report.StartFault.TheVariants.{NoMemory, NoThread}
use Rattle.spawn_host.specs.declared.request.CallFault.{CallFault}
use Rattle.spawn_host.specs.declared.request.CallFault.TheVariants.{UnknownExport, WrongArguments}
use Rattle.spawn_host.specs.declared.running.RunFault.{RunFault}
use Rattle.spawn_host.specs.declared.running.RunFault.TheVariants.{Call, Start}
use Rattle.report_first.specs.First.{first_parts}
use Rattle.report_first.proofs.Ends.{type_is}

module _ (a v : ℕ) where
  pub exported : IsExported (first_parts a v) (codes "f") 0
  exported = record { place = 0; entry = _; exported = refl; named = refl; desc = refl; function = omega arith }

  pub not_unknown : IsUnknown (first_parts a v) (codes "f") → ⊥
  not_unknown none = none 0 exported

  pub not_unfit : Refuses (first_parts a v) (codes "f") [] → ⊥
  not_unfit x = x.unfit (ap (λ (t : FuncType). t.params) (type_is a v x.own x.func_type x.body x.exports))

  pub starts_none : StartsThreads (first_parts a v) → ⊥
  starts_none some = omega (arith, some)

  -- what is left is want of memory
  pub none_called : (fault : RunFault) (f : CallFault) → IsFaultOf (first_parts a v) (codes "f") [] fault → fault ≡ Call f → ⊥
  none_called (Call UnknownExport) f h is = not_unknown h
  none_called (Call WrongArguments) f h is = not_unfit h
  none_called (Start NoMemory) f h is = cc is
  none_called (Start NoThread) f h is = starts_none h.1

  pub none_started : (fault : StartFault) → IsFaultOf (first_parts a v) (codes "f") [] (Start fault) → fault ≡ NoThread → ⊥
  none_started NoMemory h is = cc is
  none_started NoThread h is = starts_none h.1
