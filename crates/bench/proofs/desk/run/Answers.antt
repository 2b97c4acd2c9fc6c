use Rattle.std.proofs.Common.{ap}
use Rattle.shared_memory_on_table.specs.declared.view.Caller.{Caller}
use Rattle.shared_memory_script.proofs.Beginning.{first_stands}
use Rattle.bench.proofs.desk.run.Goals as goal

pub notify_all-requires-clause-free : goal.notify_all-requires-clause-free
notify_all-requires-clause-free g c κs within =
    let zero = c.in-Some.ensures.zero in first_stands _ _ (ap (λ (k : Caller). k.name) zero) (ap (λ (k : Caller). k.seen) zero)

pub take_all_turns-requires-clause-zero : goal.take_all_turns-requires-clause-zero
take_all_turns-requires-clause-zero g c κs within =
    let zero = c.in-Some.ensures.zero in first_stands _ _ (ap (λ (k : Caller). k.name) zero) (ap (λ (k : Caller). k.seen) zero)
