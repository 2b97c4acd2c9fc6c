use Rattle.std.proofs.Common.{refl, [], ◌∷◌, reverse}
use Rattle.types.specs.declared.instr.PlainInstr.TheVariants as plain
use Rattle.validate_instructions.specs.Scope.{context_of}
use Rattle.validate_instructions.proofs.Fitting.{inside, refused_cant, missing_inside, never_found, on_top, called}
use Rattle.types.specs.declared.value.ValType.TheVariants.{I32}
use Rattle.validate_instructions.proofs.Moves.{moved_on, cant_more, at_exit}
use Rattle.validate_typing.specs.declared.fault.Fault.TheVariants.{UnknownType, UnknownTable}
use Rattle.validate_instructions.proofs.calls.check_call_indirect.Goals as goal

pub returns-in_err-need_table : goal.returns-in_err-need_table
returns-in_err-need_table c =
    at_exit _ _ _ _ c.from_residual.ensures.1
    (missing_inside (context_of c.args.scope.now) (plain.CallIndirect c.args.index) c.args.block.now _ UnknownTable c.in_err-need_table.ensures.0
    (λ labels. rw c.in_err-need_table.ensures.1 refl) (λ labels ts us x. never_found _ x.0 c.in_err-need_table.ensures.1 x.1))

pub returns-in_err-func_type : goal.returns-in_err-func_type
returns-in_err-func_type c =
    at_exit _ _ _ _ c.from_residual-in_err-func_type.ensures.1
    (missing_inside (context_of c.args.scope.now) (plain.CallIndirect c.args.index) c.args.block.now _ UnknownType c.in_err-func_type.ensures.0
    (λ labels. rw (c.in_ok-need_table.ensures.1, c.in_err-func_type.ensures.1) refl)
    (λ labels ts us x. never_found _ x.2.0 c.in_err-func_type.ensures.1 x.2.1))

pub returns-in_err-take_one : goal.returns-in_err-take_one
returns-in_err-take_one c =
    at_exit _ _ _ _ c.from_residual-in_err-take_one.ensures.1
    (λ labels. refused_cant (context_of c.args.scope.now) labels (plain.CallIndirect c.args.index)
    (I32 ∷ reverse c.in_ok-func_type.func_type.now.params) c.args.block.now _
    (rw (c.in_ok-need_table.ensures.1, c.in_ok-func_type.ensures) refl)
    (λ ts us x. on_top (I32 ∷ reverse c.in_ok-func_type.func_type.now.params) _ ts us
    (called (context_of c.args.scope.now) (I32 ∷ []) c.args.index _ ts us c.in_ok-func_type.ensures x.2))
    (cant_more (I32 ∷ []) (reverse c.in_ok-func_type.func_type.now.params) c.args.block.now _ c.in_err-take_one.ensures))

pub returns : goal.returns
returns c =
    inside (context_of c.args.scope.now) (plain.CallIndirect c.args.index) _ _ _ _ _ refl (λ live. refl)
    (λ labels. rw (c.in_ok-need_table.ensures.1, c.in_ok-func_type.ensures) refl)
    (λ labels ts us x. (c.in_ok-need_table.ensures.0, c.in_ok-need_table.ensures.1, (c.in_ok-func_type.func_type.now, c.in_ok-func_type.ensures, x)))
    (λ labels ts us x. called (context_of c.args.scope.now) (I32 ∷ []) c.args.index _ ts us c.in_ok-func_type.ensures x.2)
    (moved_on (I32 ∷ []) _ _ _ _ _ _ c.in_ok-take_one.ensures c.replace_arguments.ensures)
