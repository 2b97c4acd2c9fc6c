-- What stays, by the fault that refuses a call.
use Rattle.std.proofs.Common.{◌≡◌, ℕ, arith}
use Rattle.report_jobs.specs.Silence.{IsRefusal, trouble_status}
use Rattle.report_jobs.specs.declared.running.Trouble.{Trouble}
use Rattle.report_jobs.specs.declared.running.Trouble.TheVariants as troubles
use Rattle.report_telling.specs.Troubles.{IsOfSystem}
use Rattle.report.specs.Silent.{IfRefusedCall}

module _ (P : Type 0) where
  -- what holds holds there
  pub at_call : (t : Trouble) → P → IfRefusedCall t P
  at_call (troubles.Call fault) p = p
  at_call troubles.NoThread p = tt
  at_call troubles.NoMemory p = tt
  at_call troubles.Output p = tt
  at_call troubles.Save p = tt
  at_call troubles.SaveMemory p = tt

  -- a trouble of the system is no refused call
  pub at_system : (t : Trouble) → IsOfSystem t → IfRefusedCall t P
  at_system (troubles.Call fault) none = absurd none
  at_system troubles.NoThread none = tt
  at_system troubles.NoMemory none = tt
  at_system troubles.Output none = tt
  at_system troubles.Save none = tt
  at_system troubles.SaveMemory none = tt

  -- at the status of a refusal the call is refused
  pub by_status : (t : Trouble) (n : ℕ) → n ≡ trouble_status t → IfRefusedCall t P → IsRefusal n → P
  by_status (troubles.Call fault) n is holds low = holds
  by_status troubles.NoThread n is holds low = absurd (omega (arith, is, low.1))
  by_status troubles.NoMemory n is holds low = absurd (omega (arith, is, low.1))
  by_status troubles.Output n is holds low = absurd (omega (arith, is, low.1))
  by_status troubles.Save n is holds low = absurd (omega (arith, is, low.1))
  by_status troubles.SaveMemory n is holds low = absurd (omega (arith, is, low.1))
