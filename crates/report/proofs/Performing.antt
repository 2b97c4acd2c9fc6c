-- What is so of a job stays so once it is said why it isn't done: of all streams only standard error changes, and that
-- only where the job isn't done.
use Rattle.std.proofs.Common.{◌≡◌, ◌≤◌, ℕ, List, Option, arith, sym, subst}
use Rattle.std.specs.Prelude.{Result, Ok, Err, IfErr, IfOk}
use Rattle.report_command.specs.declared.command_line.Job.{Job}
use Rattle.report_command.specs.declared.command_line.Job.TheVariants as jobs
use Rattle.report_jobs.specs.Prints.{WriterChange, Written}
use Rattle.report_jobs.specs.Silence.{IsRefusal}
use Rattle.report_jobs.specs.Told.{TellsRefusal, TellsWhatIsWrong}
use Rattle.report_jobs.specs.Trapped.{Tells}
use Rattle.report_jobs.specs.Undone.{TellsEnded, ended_status, undone_line, undone_status}
use Rattle.report_jobs.specs.Why.{RefusesModule, RefusesRecord}
use Rattle.report_jobs.specs.declared.undone.Done.{Done}
use Rattle.report_jobs.specs.declared.undone.Refused.{Refused}
use Rattle.report_jobs.specs.declared.undone.Refused.TheVariants as refused
use Rattle.report_jobs.specs.declared.undone.Undone.{Undone}
use Rattle.report_jobs.specs.declared.undone.Undone.TheVariants as undone
use Rattle.report_jobs.proofs.Outcomes.{tells_record, tells_refusal}
use Rattle.report.specs.Jobs.{Performs}

-- a job that isn't done has a status above 1
refused_high : (r : Refused) → 2 ≤ undone_status (undone.Refused r)
refused_high (refused.Read kind offset) = omega arith
refused_high (refused.Rule kind) = omega arith
refused_high (refused.RuleInBody kind function place) = omega arith
refused_high (refused.Unlaid why addr count) = omega arith
refused_high (refused.Call fault m) = omega arith
refused_high (refused.Absent absent) = omega arith
refused_high (refused.Allowance absent) = omega arith
refused_high (refused.Header line) = omega arith
refused_high (refused.Unreadable line) = omega arith
refused_high refused.EndMissing = omega arith
refused_high (refused.Line line misfit) = omega arith
refused_high (refused.EndLine line misfit) = omega arith

undone_high : (why : Undone) → 2 ≤ undone_status why
undone_high (undone.Refused r) = refused_high r
undone_high (undone.Failed what) = omega arith

module _ (bytes saved : List ℕ) (out err save memory : WriterChange) (told : Option (List ℕ)) where
  -- standard error as it was before, and as it is once something was told
  abbrev pub before : Written
  before = record { out = out; err = err; save = save; memory = memory }

  abbrev pub behind : Written
  behind = record { out = out; err = record { old = err.old; new = told }; save = save; memory = memory }

  -- a status above 1 says nothing of what was written
  high_performs : (job : Job) (status : ℕ) → 2 ≤ status → Performs job bytes saved before status
      → Performs job bytes saved behind status
  high_performs (jobs.Check file form) status high p = p
  high_performs (jobs.Run run) status high p = record {
    made = λ low. absurd (omega (arith, high, low));
    refused = p.refused;
    cannot = p.cannot;
    statuses = p.statuses;
  }
  high_performs (jobs.Replay file record_path look) status high p = record {
    replayed = λ low. absurd (omega (arith, high, low));
    refused = p.refused;
    none = p.none;
    statuses = p.statuses;
  }
  high_performs (jobs.Show file record_path names how) status high p = p
  high_performs (jobs.Races asked) status high p = p
  high_performs (jobs.Search s) status high p = p

  pub still_performs : (job : Job) (r : Result Done Undone) → TellsEnded r err.new told
      → Performs job bytes saved before (ended_status r) → Performs job bytes saved behind (ended_status r)
  still_performs job (Ok done) same p =
      subst (λ (new : Option (List ℕ)). Performs job bytes saved
      (record { out = out; err = record { old = err.old; new = new }; save = save; memory = memory }) done.status) (sym same) p
  still_performs job (Err why) tells p = high_performs job (undone_status why) (undone_high why) p

-- the line of what is refused is told, where nothing was said before
module _ (bytes saved : List ℕ) (old mid new : Option (List ℕ)) where
  pub tells_two : (r : Result Done Undone) → IfOk r (λ done. done.status ≤ 1)
      → IfErr r (λ why. undone_status why ≡ 2 → RefusesModule bytes why) → (IsRefusal (ended_status r) → mid ≡ old)
      → TellsEnded r mid new → ended_status r ≡ 2 → TellsRefusal bytes (record { old = old; new = new })
  tells_two (Ok done) low why stays tells two = absurd (omega (arith, low, two))
  tells_two (Err e) low why stays tells two =
      tells_refusal bytes e (record { old = old; new = new }) (why two)
      (subst (λ (from : Option (List ℕ)). Tells from new (undone_line e)) (stays (omega (arith, two), omega (arith, two))) tells)

  pub tells_four : (r : Result Done Undone) → IfOk r (λ done. done.status ≤ 1)
      → IfErr r (λ why. undone_status why ≡ 4 → RefusesRecord bytes saved why) → (IsRefusal (ended_status r) → mid ≡ old)
      → TellsEnded r mid new → ended_status r ≡ 4 → TellsWhatIsWrong bytes saved (record { old = old; new = new })
  tells_four (Ok done) low why stays tells four = absurd (omega (arith, low, four))
  tells_four (Err e) low why stays tells four =
      tells_record bytes saved e (record { old = old; new = new }) (why four)
      (subst (λ (from : Option (List ℕ)). Tells from new (undone_line e)) (stays (omega (arith, four), omega (arith, four))) tells)

  pub tells_why : (r : Result Done Undone) → (IsRefusal (ended_status r) → mid ≡ old) → TellsEnded r mid new
      → IfErr r (λ why. IsRefusal (undone_status why) → Tells old new (undone_line why))
  tells_why (Ok done) stays tells = tt
  tells_why (Err e) stays tells =
      λ refusal. subst (λ (from : Option (List ℕ)). Tells from new (undone_line e)) (stays refusal) tells
