use Rattle.std.proofs.Common.{rules, refl, [], ◌∷◌}
use Rattle.types.specs.declared.value.ValType.TheVariants.{I32}
use Rattle.types.specs.declared.instr.PlainInstr.TheVariants as plain
use Rattle.types.specs.Widths.{load_type, load_bytes}
use Rattle.validate_instructions.specs.Blocks.{Moving}
use Rattle.validate_instructions.specs.Scope.{context_of}
use Rattle.validate_instructions.proofs.Fitting.{inside, missing_inside, never_found, aligned_kind, misaligned_kind}
use Rattle.validate_typing.specs.declared.fault.Fault.TheVariants.{UnknownMemory, Alignment}
use Rattle.validate_typing.specs.Typing.{IsAligned}
use Rattle.validate_instructions.proofs.Moves.{at_exit}
use Rattle.validate_instructions.proofs.memory.check_load.Goals as goal

pub returns-in_err-need_memory : goal.returns-in_err-need_memory
returns-in_err-need_memory c =
    at_exit _ _ _ _ c.from_residual.ensures.1
    (missing_inside (context_of c.args.scope.now) (plain.Load c.args.op c.args.arg) c.args.block.now _ UnknownMemory c.in_err-need_memory.ensures.0
    (λ labels. rw c.in_err-need_memory.ensures.1 refl) (λ labels ts us x. never_found _ x.0.0 c.in_err-need_memory.ensures.1 x.0.1))

pub returns-in_err-check_alignment : goal.returns-in_err-check_alignment
returns-in_err-check_alignment c =
    let never : IsAligned c.args.arg (load_bytes c.args.op) → ⊥ = rw (← c.bytes.ensures) c.in_err-check_alignment.ensures.1 in
    at_exit _ _ _ _ c.from_residual-in_err-check_alignment.ensures.1
    (missing_inside (context_of c.args.scope.now) (plain.Load c.args.op c.args.arg) c.args.block.now _ Alignment c.in_err-check_alignment.ensures.0
    (λ labels. misaligned_kind _ c.in_ok-need_memory.ensures.0 _ _ c.in_ok-need_memory.ensures.1 never) (λ labels ts us x. never x.1))

pub returns : goal.returns
returns c =
    let op = c.args.op in
    let m : Moving (I32 ∷ []) (load_type op ∷ []) c.args.block.now c.replace.new.block c.replace.result = search rules in
    let is : IsAligned c.args.arg (load_bytes c.args.op) = rw (← c.bytes.ensures) c.in_ok-check_alignment.ensures in
    inside (context_of c.args.scope.now) (plain.Load c.args.op c.args.arg) _ _ _ _ _ refl (λ live. refl)
    (λ labels. aligned_kind _ c.in_ok-need_memory.ensures.0 _ _ c.in_ok-need_memory.ensures.1 is)
    (λ labels ts us x. (c.in_ok-need_memory.ensures, is, x)) (λ labels ts us x. x.2) m
