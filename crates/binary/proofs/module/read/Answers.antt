use Rattle.std.proofs.Common.{◌∙◌}
use Rattle.binary.proofs.Whole.{is_whole}
use Rattle.binary.proofs.module.read.Goals as goal

pub returns-clause-only : goal.returns-clause-only
returns-clause-only c = λ m h. c.in-Ok.ensures.ok.0 ∙ c.in_ok-parts.ensures.only m h

pub unreachable-requires : goal.unreachable-requires
unreachable-requires c = c.in-Err.ensures.err.1 (is_whole c.args.bytes.now c.in_ok-parts.parts c.in_ok-parts.ensures.found)
