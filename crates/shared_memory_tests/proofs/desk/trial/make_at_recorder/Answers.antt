use Rattle.std.proofs.Common.{ap}
use Rattle.shared_memory_on_table.specs.declared.view.Caller.{Caller}
use Rattle.shared_memory_script.proofs.Beginning.{first_stands}
use Rattle.shared_memory_tests.proofs.desk.trial.make_at_recorder.Goals as goal

pub make-heard-requires-clause-zero : goal.make-heard-requires-clause-zero
make-heard-requires-clause-zero g c κs within =
    let zero = c.in-Some.ensures.zero in first_stands _ _ (ap (λ (k : Caller). k.name) zero) (ap (λ (k : Caller). k.seen) zero)
