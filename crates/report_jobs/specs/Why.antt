-- Why a job is refused, as a value: what is so of the bytes that it was given.
use Rattle.std.specs.Prelude.{ℕ, ◌≡◌, List, Option}
use Rattle.types.specs.declared.parts.Parts.{Parts}
use Rattle.validate_typing.specs.Validity.{IsValid}
use Rattle.validate_typing.specs.Tabled.{WithTables}
use Rattle.binary.specs.Grammar.{IsModuleText}
use Rattle.show_rows.specs.declared.next.Stood.{Stood}
use Rattle.report_jobs.specs.Jobs.{IsRefused, IsUnfit}
use Rattle.report_jobs.specs.Silence.{refusal_status, unfit_status}
use Rattle.report_jobs.specs.Undone.{of_refusal, of_unfit}
use Rattle.report_jobs.specs.declared.loading.ModuleRefusal.{ModuleRefusal}
use Rattle.report_jobs.specs.declared.replaying.Unfit.{Unfit}
use Rattle.report_jobs.specs.declared.undone.Undone.{Undone}

-- The bytes are no valid module's text, and this is what is wrong with them.
pub record RefusesModule (bytes : List ℕ) (why : Undone) : Type 0 where
  pub refusal : ModuleRefusal
  pub is : IsRefused bytes refusal
  pub refuses : refusal_status refusal ≡ 2
  pub why_is : why ≡ of_refusal refusal

-- They are a valid module's text, and this is what is wrong with the others as a record of a run of it.
pub record RefusesRecord (bytes saved : List ℕ) (why : Undone) : Type 0 where
  pub parts : Parts
  pub text : IsModuleText bytes parts
  pub valid : IsValid parts
  pub unfit : Unfit
  pub is : IsUnfit parts saved unfit
  pub refuses : unfit_status unfit ≡ 4
  pub module_is : WithTables
  pub stood : Option Stood
  pub why_is : why ≡ of_unfit unfit module_is stood
