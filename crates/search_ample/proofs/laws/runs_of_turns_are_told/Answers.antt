use Rattle.search_ample.proofs.Normal.{turn-ends-are-found, turn-wants-are-found, turn-conflicts-are-found, no-turns-race, all-step, all-come-to-stop}
use Rattle.search_ample.proofs.laws.runs_of_turns_are_told.Goals as goal

pub returns : goal.returns
returns g c =
    let t = g.T.TurningThreads.system c.args.threads.now in
    let mean = g.T.TurningThreads.meaning c.args.threads.now in
    record {
      ends = λ e laws x ok races. turn-ends-are-found t laws mean e x ok races;
      wants = λ e laws x ok races. turn-wants-are-found t laws mean e x ok races;
      conflicts = λ e laws x ok races. turn-conflicts-are-found t laws mean e x ok races;
      races = λ e laws x ok races. no-turns-race t laws mean e x ok races;
      steps = λ e laws x ok races. all-step t laws mean e x ok races;
      stop = λ e laws x ok races. all-come-to-stop t laws mean e x ok races;
    }
