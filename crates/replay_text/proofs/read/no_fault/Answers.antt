use Rattle.replay_text.proofs.OneFault as laws
use Rattle.replay_text.proofs.read.no_fault.Goals as goal

pub returns : goal.returns
returns c = laws.no_fault
