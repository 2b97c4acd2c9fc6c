use Rattle.std.proofs.Common.{refl}
use Rattle.types.specs.declared.instr.PlainInstr.TheVariants as plain
use Rattle.validate_instructions.proofs.Fitting.{anywhere}
use Rattle.validate_instructions.proofs.numeric.check_numeric.Goals as goal

pub returns : goal.returns
returns c = anywhere (plain.Numeric c.args.instr) _ _ _ _ _ refl (λ live. refl) (λ con labels. refl) (λ con labels ts us x. x)
    (λ con labels ts us x. x) c.replace_numbers.ensures
