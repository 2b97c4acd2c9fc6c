use Rattle.std.proofs.Common.{sym, ◌∙◌, ap}
use Rattle.types.specs.declared.limits.TheConstants.{MOST_THREADS}
use Rattle.schedule.specs.Machine.{Thread.Runs}
use Rattle.interp_machine.specs.State.{At}
use Rattle.shared_memory.specs.WaitQueue.{WaitQueue, next_id}
use Rattle.schedule_machine.proofs.Beginning.{next_first, orderly_first}
use Rattle.schedule_program.proofs.stepping.Machine.new.Goals as goal

pub returns : goal.returns
returns g c s main are slots = record {
  shared = ap (λ (q : WaitQueue). record { memory = c.args.memory; queue = q }) (sym c.new.ensures);
  threads = are;
  slots = slots;
  next = sym (ap next_id c.new.ensures ∙ next_first MOST_THREADS);
  orderly = orderly_first s.program (Runs (At main) s.fuel);
}
