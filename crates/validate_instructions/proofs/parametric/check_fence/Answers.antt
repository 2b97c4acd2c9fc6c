use Rattle.std.proofs.Common.{refl, ◌∙◌, sym}
use Rattle.types.specs.declared.instr.PlainInstr.TheVariants as plain
use Rattle.validate_instructions.proofs.Fitting.{checked_nothing}
use Rattle.validate_instructions.proofs.parametric.check_fence.Goals as goal

pub returns : goal.returns
returns c = checked_nothing plain.Fence c.args.block.now (λ con labels ts. (ts, refl, refl)) (λ con labels ts us x. x.1 ∙ sym x.2) (λ live. refl) refl
