-- What is so of what came of a job, by its status.
use Rattle.std.proofs.Common.{◌≡◌, ◌⊎◌, inl, inr, ℕ, arith}
use Rattle.std.specs.Prelude.{IfErr, IfOk, Result, Ok, Err}
use Rattle.report_jobs.specs.Undone.{ended_status, undone_status}
use Rattle.report_jobs.specs.declared.undone.Done.{Done}
use Rattle.report_jobs.specs.declared.undone.Undone.{Undone}

-- a job that is done with 0, or fails
module _ (P : Type 0) where
  pub done_at : (r : Result Done Undone) → IfOk r (λ d. (d.status ≡ 0) × P) → IfErr r (λ why. undone_status why ≡ 5)
      → ended_status r ≡ 0 → P
  done_at (Ok d) done failed zero = done.1
  done_at (Err why) done failed zero = absurd (omega (arith, failed, zero))

  pub done_or_failed : (r : Result Done Undone) → IfOk r (λ d. (d.status ≡ 0) × P) → IfErr r (λ why. undone_status why ≡ 5)
      → (ended_status r ≡ 0) ⊎ (ended_status r ≡ 5)
  done_or_failed (Ok d) done failed = inl done.0
  done_or_failed (Err why) done failed = inr failed

-- what is so where a failure is a refusal is so of no failure
pub failed_why : (r : Result Done Undone) (P : Undone → Type 0) (n : ℕ) → (n ≡ 5 → ⊥) → IfErr r (λ why. undone_status why ≡ 5)
    → IfErr r (λ why. undone_status why ≡ n → P why)
failed_why (Ok d) P n other failed = tt
failed_why (Err why) P n other failed = λ is. absurd (other (omega (arith, failed, is)))
