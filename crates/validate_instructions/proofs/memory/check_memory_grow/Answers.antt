use Rattle.std.proofs.Common.{refl}
use Rattle.types.specs.declared.instr.PlainInstr.TheVariants as plain
use Rattle.validate_instructions.specs.Scope.{context_of}
use Rattle.validate_instructions.proofs.Fitting.{inside, missing_inside, never_found}
use Rattle.validate_typing.specs.declared.fault.Fault.TheVariants.{UnknownMemory}
use Rattle.validate_instructions.proofs.Moves.{at_exit}
use Rattle.validate_instructions.proofs.memory.check_memory_grow.Goals as goal

pub returns-in_err-need_memory : goal.returns-in_err-need_memory
returns-in_err-need_memory c =
    at_exit _ _ _ _ c.from_residual.ensures.1
    (missing_inside (context_of c.args.scope.now) (plain.MemoryGrow) c.args.block.now _ UnknownMemory c.in_err-need_memory.ensures.0
    (λ labels. rw c.in_err-need_memory.ensures.1 refl) (λ labels ts us x. never_found _ x.0.0 c.in_err-need_memory.ensures.1 x.0.1))

pub returns : goal.returns
returns c = inside (context_of c.args.scope.now) plain.MemoryGrow _ _ _ _ _ refl (λ live. refl) (λ labels. rw c.in_ok-need_memory.ensures.1 refl)
    (λ labels ts us x. (c.in_ok-need_memory.ensures, x)) (λ labels ts us x. x.1) c.replace.ensures
