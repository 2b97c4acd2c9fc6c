use Rattle.std.proofs.Common.{refl, [], ◌∷◌}
use Rattle.types.specs.declared.value.ValType.TheVariants.{I32}
use Rattle.types.specs.declared.instr.PlainInstr.TheVariants as plain
use Rattle.validate_typing.specs.Typing.{results_of}
use Rattle.validate_instructions.specs.Scope.{context_of}
use Rattle.validate_instructions.specs.Blocks.{labels_at, as_label}
use Rattle.validate_instructions.proofs.Labels.{types_at, row_first, types_none}
use Rattle.validate_instructions.proofs.Moves.{takes_then, moved, lacks_cant, lacks_after, cant_more, at_exit}
use Rattle.validate_instructions.proofs.Fitting.{checked_moves, refused_cant, refused_missing, refused_memory}
use Rattle.validate_instructions.proofs.Fitting.{never_found, on_top, branched}
use Rattle.validate_typing.specs.declared.fault.Fault.TheVariants.{UnknownLabel}
use Rattle.validate_instructions.proofs.branches.check_br_if.Goals as goal

pub returns-in_err-label : goal.returns-in_err-label
returns-in_err-label c =
    let labels = labels_at c.args.block.now c.args.outer.now in
    let none = types_none labels c.args.index c.in_err-label.ensures.1 in
    at_exit _ _ _ _ c.from_residual.ensures.1
    (refused_missing (context_of c.args.scope.now) labels (plain.BrIf c.args.index) c.args.block.now _ UnknownLabel c.in_err-label.ensures.0
    (rw none refl) (λ ts us x. never_found _ x.0 none x.1))

pub returns-in_err-take_one : goal.returns-in_err-take_one
returns-in_err-take_one c =
    let labels = labels_at c.args.block.now c.args.outer.now in
    let carried = results_of c.in_ok-label.label.carries in
    let found = types_at labels c.args.index (as_label c.in_ok-label.label) c.in_ok-label.ensures in
    at_exit _ _ _ _ c.from_residual-in_err-take_one.ensures.1
    (refused_cant (context_of c.args.scope.now) labels (plain.BrIf c.args.index) (I32 ∷ carried) c.args.block.now _ (rw found refl)
    (λ ts us x. on_top (I32 ∷ carried) carried ts us (branched _ carried ts us found x.0 x.1 x.2))
    (cant_more (I32 ∷ []) carried c.args.block.now _ c.in_err-take_one.ensures))

pub returns-in_err-take_result : goal.returns-in_err-take_result
returns-in_err-take_result c =
    let labels = labels_at c.args.block.now c.args.outer.now in
    let carried = results_of c.in_ok-label.label.carries in
    let found = types_at labels c.args.index (as_label c.in_ok-label.label) c.in_ok-label.ensures in
    at_exit _ _ _ _ c.from_residual-in_err-take_result.ensures.1
    (refused_cant (context_of c.args.scope.now) labels (plain.BrIf c.args.index) (I32 ∷ carried) c.args.block.now _ (rw found refl)
    (λ ts us x. on_top (I32 ∷ carried) carried ts us (branched _ carried ts us found x.0 x.1 x.2))
    (lacks_cant (I32 ∷ carried) c.args.block.now _ (lacks_after (I32 ∷ []) carried _ _ _ c.in_ok-take_one.ensures c.in_err-take_result.ensures)))

pub returns-in_err-put_result : goal.returns-in_err-put_result
returns-in_err-put_result c =
    at_exit _ _ _ _ c.from_residual-in_err-put_result.ensures.1
    (refused_memory (context_of c.args.scope.now) (labels_at c.args.block.now c.args.outer.now) (plain.BrIf c.args.index) c.args.block.now _
    c.in_err-put_result.ensures)

pub returns : goal.returns
returns c =
    let labels = labels_at c.args.block.now c.args.outer.now in
    let l = c.in_ok-label.label in
    let carried = results_of l.carries in
    let found = types_at labels c.args.index (as_label l) c.in_ok-label.ensures in
    checked_moves (context_of c.args.scope.now) labels (plain.BrIf c.args.index) (I32 ∷ carried) carried _ _ _
    (moved (I32 ∷ carried) carried _ _ _ (takes_then (I32 ∷ []) carried _ _ _ c.in_ok-take_one.ensures c.in_ok-take_result.ensures) c.in_ok-put_result.ensures)
    (λ ts us x. (carried, found, x)) (λ ts us x. branched _ carried ts us found x.0 x.1 x.2) (λ live. refl)
    (row_first labels c.args.index (as_label l) _ _ _ c.in_ok-label.ensures c.requires c.target.ensures c.in_ok-push.ensures.items)
