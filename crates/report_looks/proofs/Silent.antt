-- What stays, by the fault that refuses a record.
use Rattle.std.proofs.Common.{◌≡◌, ℕ, arith}
use Rattle.report_jobs.specs.Silence.{IsRefusal, unfit_status}
use Rattle.report_jobs.specs.declared.replaying.Unfit.{Unfit}
use Rattle.report_jobs.specs.declared.replaying.Unfit.TheVariants as unfits
use Rattle.report_looks.specs.Silent.{IfRefusedRecord, IsNoRefusal}

module _ (P : Type 0) where
  pub at_record : (u : Unfit) → P → IfRefusedRecord u P
  at_record (unfits.Unread fault) p = p
  at_record (unfits.Misfit fault) p = p
  at_record unfits.NoMemory p = tt
  at_record unfits.Output p = tt

  pub at_no_refusal : (u : Unfit) → IsNoRefusal u → IfRefusedRecord u P
  at_no_refusal (unfits.Unread fault) none = absurd none
  at_no_refusal (unfits.Misfit fault) none = absurd none
  at_no_refusal unfits.NoMemory none = tt
  at_no_refusal unfits.Output none = tt

  pub by_unfit : (u : Unfit) (n : ℕ) → n ≡ unfit_status u → IfRefusedRecord u P → IsRefusal n → P
  by_unfit (unfits.Unread fault) n is holds low = holds
  by_unfit (unfits.Misfit fault) n is holds low = holds
  by_unfit unfits.NoMemory n is holds low = absurd (omega (arith, is, low.1))
  by_unfit unfits.Output n is holds low = absurd (omega (arith, is, low.1))
