use Rattle.schedule_threads.proofs.Asking.{machine_laws}
use Rattle.schedule_threads.proofs.programs_keep_the_laws_of_a_machine.Goals as goal

pub returns : goal.returns
returns c = machine_laws
