use Rattle.report_runs.proofs.Whole.{is_history}
use Rattle.locked_recorder.specs.Promises.{Begins}
use Rattle.report_runs.proofs.laws.the_log_is_the_history_that_all_seats_saw.Goals as goal

pub returns : goal.returns
returns g c = λ caller m entry args fuel loses opening limit threads seats log count contents run begins kept.
    is_history caller log run.history kept.others (λ s. Begins (caller s) log) (λ s b. (b.begins, b.own)) seats run.len run.names run.seen_by begins
