use Rattle.std.proofs.Common.{subst, IfSome}
use Rattle.types.specs.declared.parts.Parts.{Parts}
use Rattle.validate_module_rules.specs.Faults.{fault_outside}
use Rattle.validate.specs.Refusals.{IsRefusal, IsRefused}
use Rattle.validate.proofs.TableLaws.{none_has, valid_refused, memory_refused}
use Rattle.validate.proofs.whole.validate.Goals as goal

pub returns-in_ok-new-in-Ok-clause-outside : goal.returns-in_ok-new-in-Ok-clause-outside
returns-in_ok-new-in-Ok-clause-outside c = none_has _ _
    (subst (λ (m : Parts). IfSome (fault_outside m) (λ _. ⊥)) c.parts.ensures.parts c.in-Ok.ensures.outside)

pub returns-in_err-new-in-Ok-clause-outside : goal.returns-in_err-new-in-Ok-clause-outside
returns-in_err-new-in-Ok-clause-outside c = none_has _ _
    (subst (λ (m : Parts). IfSome (fault_outside m) (λ _. ⊥)) c.parts.ensures.parts c.in-Ok.ensures.outside)

pub returns-in-Err-clause-outside : goal.returns-in-Err-clause-outside
returns-in-Err-clause-outside c = subst (λ (m : Parts). IfSome (fault_outside m)
    (λ kind. IsRefusal kind c.in-Err.fault)) c.parts.ensures.parts c.in-Err.ensures.outside

pub returns-in-Err-clause-refused : goal.returns-in-Err-clause-refused
returns-in-Err-clause-refused c = subst (λ (m : Parts). IsRefused m c.in-Err.fault) c.parts.ensures.parts c.in-Err.ensures.refused

pub returns-in-Err-clause-complete : goal.returns-in-Err-clause-complete
returns-in-Err-clause-complete c =
    let refused = subst (λ (m : Parts). IsRefused m c.in-Err.fault) c.parts.ensures.parts c.in-Err.ensures.refused in
    λ v. valid_refused _ c.in-Err.fault v refused

pub returns-in-Err-clause-memory : goal.returns-in-Err-clause-memory
returns-in-Err-clause-memory c = λ k. memory_refused c.parts.result.now c.in-Err.fault c.in-Err.ensures.refused k
