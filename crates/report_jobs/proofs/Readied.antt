-- Why there was no module of which a run could be made, and what its status says.
use Rattle.std.proofs.Common.{◌≡◌, ℕ, List, Some, None, refl, sym, subst}
use Rattle.types.specs.declared.parts.Parts.{Parts}
use Rattle.validate_typing.specs.Validity.{IsValid}
use Rattle.validate_typing.specs.Tabled.{WithTables, IsValidated}
use Rattle.binary.specs.Grammar.{IsModuleText}
use Rattle.report_command.specs.declared.memory.MemoryFile.{MemoryFile}
use Rattle.report_memory.specs.Laid.{laid}
use Rattle.report_jobs.specs.declared.loading.Unready.{Unready}
use Rattle.report_jobs.specs.declared.loading.Unready.TheVariants.{Refused, Unlaid, NoMemory}
use Rattle.report_jobs.specs.Jobs.{IsUnready, IsUnreadyModule, LoadsOver}

module _ (bytes over : List ℕ) (m : Parts) (text : IsModuleText bytes m) where
  -- the module as it is
  pub as_it_is : (v : WithTables) → v.parts ≡ m → IsValidated v → LoadsOver bytes None over v
  as_it_is v same validated = record {
    parts = v.parts;
    text = subst (IsModuleText bytes) (sym same) text;
    valid = validated.valid;
    begun_is = refl;
    validated = validated;
  }

  module _ (valid : IsValid m) (file : MemoryFile) where
    pub with_bytes : (v : WithTables) → v.parts ≡ laid m file.addr over → IsValidated v → LoadsOver bytes (Some file) over v
    with_bytes v same validated =
        record { parts = m; text = text; valid = valid; begun_is = same; validated = validated }

    pub without_bytes : (u : Unready) → IsUnreadyModule m file.addr over u → IsUnready bytes (Some file) over u
    without_bytes (Refused refusal) h = absurd h
    without_bytes (Unlaid why) h = record { parts = m; text = text; valid = valid; cannot = h }
    without_bytes NoMemory h = tt
