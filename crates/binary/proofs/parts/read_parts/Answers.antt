use Rattle.binary.proofs.Modules.{is_found, is_only, is_one}
use Rattle.binary.proofs.parts.read_parts.Goals as goal

pub returns-clause-found : goal.returns-clause-found
returns-clause-found c = is_found (λ m. m) c.read_whole.result c.args.bytes.now c.read_whole.ensures

pub returns-clause-only : goal.returns-clause-only
returns-clause-only c = is_only (λ m. m) c.read_whole.result c.args.bytes.now c.read_whole.ensures

pub returns-clause-unique : goal.returns-clause-unique
returns-clause-unique c = is_one c.args.bytes.now
