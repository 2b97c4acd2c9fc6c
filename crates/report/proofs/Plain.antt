-- The plain jobs among all jobs.
use Rattle.std.proofs.Common.{ℕ, ◌≡◌, List, Option, Bor, refl}
use Rattle.report_command.specs.declared.command_line.Job.{Job}
use Rattle.report_command.specs.declared.command_line.Job.TheVariants.{Check, Run, Replay, Show}
use Rattle.report_command.specs.declared.command_line.Job.TheVariants as jobs
use Rattle.report_command.specs.declared.races.RacesJob.{RacesJob}
use Rattle.report_command.specs.declared.search.Search.{Search}
use Rattle.report_command.specs.declared.show.ShowLook.{ShowLook}
use Rattle.report_jobs.specs.Plain.{IsPlain, PerformsPlain}
use Rattle.report_jobs.specs.Prints.{Written}
use Rattle.report.specs.Jobs.{Performs}

pub is_plain : (job : Job)
    → ((file saved : Bor (List ℕ)) (names : Option (Bor (List ℕ))) (how : ShowLook) → job ≡ Show file saved names how → ⊥)
    → ((asked : RacesJob) → job ≡ jobs.Races asked → ⊥) → ((s : Search) → job ≡ jobs.Search s → ⊥) → IsPlain job
is_plain (Check file form) no_show no_races no_search = tt
is_plain (Run run) no_show no_races no_search = tt
is_plain (Replay file record_path look) no_show no_races no_search = tt
is_plain (Show file record_path names how) no_show no_races no_search = no_show file record_path names how refl
is_plain (jobs.Races asked) no_show no_races no_search = no_races asked refl
is_plain (jobs.Search s) no_show no_races no_search = no_search s refl

pub performs : (job : Job) (bytes saved : List ℕ) (w : Written) (status : ℕ) → IsPlain job → PerformsPlain job bytes saved w status
    → Performs job bytes saved w status
performs (Check file form) bytes saved w status plain done = done
performs (Run run) bytes saved w status plain done = done
performs (Replay file record_path look) bytes saved w status plain done = done
performs (Show file record_path names how) bytes saved w status plain done = absurd plain
performs (jobs.Races asked) bytes saved w status plain done = absurd plain
performs (jobs.Search s) bytes saved w status plain done = absurd plain
