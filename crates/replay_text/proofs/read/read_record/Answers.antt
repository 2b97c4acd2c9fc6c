use Rattle.replay_text.proofs.Whole.{record_takes}
use Rattle.replay_text.proofs.Broken.{fault_is}
use Rattle.replay_text.proofs.read.read_record.Goals as goal

pub from_tested-requires : goal.from_tested-requires
from_tested-requires c = (record_takes c.args.bytes.now c.in-Ok.parts c.in-Ok.ensures).0

pub returns-in-Err-clause-refused : goal.returns-in-Err-clause-refused
returns-in-Err-clause-refused c = fault_is c.args.bytes.now c.in-Err.fault c.in-Err.ensures
