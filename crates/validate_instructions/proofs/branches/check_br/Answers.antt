use Rattle.std.proofs.Common.{refl, List, subst}
use Rattle.types.specs.declared.instr.PlainInstr.TheVariants as plain
use Rattle.validate_typing.specs.Typing.{results_of, HasOnTop}
use Rattle.validate_instructions.specs.Scope.{context_of}
use Rattle.validate_instructions.specs.Blocks.{labels_at, as_label}
use Rattle.validate_instructions.proofs.Labels.{types_at, row_first, types_none}
use Rattle.validate_instructions.proofs.Fitting.{checked_stop, refused_cant, refused_missing, same_found, never_found}
use Rattle.types.specs.declared.value.ValType.{ValType}
use Rattle.validate_typing.specs.declared.fault.Fault.TheVariants.{UnknownLabel}
use Rattle.validate_instructions.proofs.Moves.{lacks_cant, at_exit}
use Rattle.validate_instructions.proofs.branches.check_br.Goals as goal

pub returns-in_err-label : goal.returns-in_err-label
returns-in_err-label c =
    let labels = labels_at c.args.block.now c.args.outer.now in
    let none = types_none labels c.args.index c.in_err-label.ensures.1 in
    at_exit _ _ _ _ c.from_residual.ensures.1
    (refused_missing (context_of c.args.scope.now) labels (plain.Br c.args.index) c.args.block.now _ UnknownLabel c.in_err-label.ensures.0
    (rw none refl) (λ ts us x. never_found _ x.0 none x.1))

pub returns-in_err-take_result : goal.returns-in_err-take_result
returns-in_err-take_result c =
    let labels = labels_at c.args.block.now c.args.outer.now in
    let l = c.in_ok-label.label in
    let found = types_at labels c.args.index (as_label l) c.in_ok-label.ensures in
    at_exit _ _ _ _ c.from_residual-in_err-take_result.ensures.1
    (refused_cant (context_of c.args.scope.now) labels (plain.Br c.args.index) (results_of l.carries) c.args.block.now _ (rw found refl)
    (λ ts us x. subst (λ (k : List ValType). HasOnTop k ts) (same_found _ _ _ x.1 found) x.2)
    (lacks_cant (results_of l.carries) c.args.block.now _ c.in_err-take_result.ensures))

pub returns : goal.returns
returns c =
    let labels = labels_at c.args.block.now c.args.outer.now in
    let l = c.in_ok-label.label in
    checked_stop (context_of c.args.scope.now) labels (plain.Br c.args.index)
    (results_of l.carries) _ _ _ _ c.in_ok-take_result.ensures c.stop.ensures.shape c.stop.ensures.flow c.stop.ensures.bare
    (λ below us. (results_of l.carries, types_at labels c.args.index (as_label l) c.in_ok-label.ensures, (below, refl))) (λ live. refl)
    (row_first labels c.args.index (as_label l) _ _ _ c.in_ok-label.ensures c.requires c.target.ensures c.in_ok-push.ensures.items)
