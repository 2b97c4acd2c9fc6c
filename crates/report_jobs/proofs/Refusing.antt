-- Bytes that were refused are the text of no valid module.
use Rattle.std.proofs.Common.{◌≡◌, ℕ, List, subst}
use Rattle.binary_wire.specs.declared.fault.Fault.{Fault as ReadKind}
use Rattle.binary_wire.specs.declared.fault.ReadFault.{ReadFault}
use Rattle.binary_wire.specs.declared.fault.ReadFault.TheVariants.{Malformed}
use Rattle.validate_typing.specs.declared.fault.Fault.{Fault}
use Rattle.validate_typing.specs.declared.fault.ValidFault.{ValidFault}
use Rattle.validate_typing.specs.declared.fault.ValidFault.TheVariants.{OutOfMemory, Outside, InBody}
use Rattle.validate_typing.specs.Validity.{IsValid}
use Rattle.types.specs.declared.parts.Parts.{Parts}
use Rattle.binary.specs.Grammar.{IsModuleText}
use Rattle.binary.proofs.Modules.{is_one}
use Rattle.report_jobs.specs.declared.loading.ModuleRefusal.TheVariants.{Read, Validity}
use Rattle.report_jobs.specs.Jobs.{IsInvalid, IsRefused, IsNoValidModule}

pub of_invalid : (bytes : List ℕ) → IsInvalid bytes → IsNoValidModule bytes
of_invalid bytes x parts text valid = x.invalid (subst IsValid (is_one bytes parts x.parts text x.text) valid)

module _ (bytes : List ℕ) where
  pub unread : (e : ReadFault) (kind : ReadKind) (offset : ℕ) → e ≡ Malformed kind offset → IsRefused bytes (Read e) → IsNoValidModule bytes
  unread e kind offset is refused parts text valid = subst (λ (x : ReadFault). IsRefused bytes (Read x)) is refused parts text

  pub outside : (e : ValidFault) (kind : Fault) → e ≡ Outside kind → IsRefused bytes (Validity e) → IsNoValidModule bytes
  outside e kind is refused = of_invalid bytes (subst (λ (x : ValidFault). IsRefused bytes (Validity x)) is refused)

  pub in_body : (e : ValidFault) (kind : Fault) (function place : ℕ) → e ≡ InBody kind function place → IsRefused bytes (Validity e)
      → IsNoValidModule bytes
  in_body e kind function place is refused = of_invalid bytes (subst (λ (x : ValidFault). IsRefused bytes (Validity x)) is refused)

  -- a fault of validity, where a valid module has no other than out of memory
  pub of_fault : (m : Parts) (e : ValidFault) → IsModuleText bytes m → (IsValid m → e ≡ OutOfMemory) → IsRefused bytes (Validity e)
  of_fault m OutOfMemory text only = tt
  of_fault m (Outside kind) text only = record { parts = m; text = text; invalid = λ valid. cc (only valid) }
  of_fault m (InBody kind function place) text only = record { parts = m; text = text; invalid = λ valid. cc (only valid) }
