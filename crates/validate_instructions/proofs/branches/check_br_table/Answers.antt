use Rattle.std.proofs.Common.{refl, [], ◌∷◌, ◌≡◌, ◌∙◌, sym, true, false}
use Rattle.types.specs.declared.value.ValType.TheVariants.{I32}
use Rattle.types.specs.declared.instr.PlainInstr.TheVariants as plain
use Rattle.validate_typing.specs.Typing.{results_of}
use Rattle.validate_instructions.specs.Scope.{context_of}
use Rattle.validate_instructions.specs.Blocks.{Carry, labels_at, as_label}
use Rattle.validate_instructions.proofs.Labels.{types_at, row_last, all_last}
use Rattle.validate_instructions.proofs.Moves.{takes_then, lacks_cant, lacks_after, cant_more, at_exit}
use Rattle.validate_instructions.proofs.Fitting.{checked_stop, refused_cant, refused_missing, never_found, branched_off}
use Rattle.validate_typing.specs.declared.fault.Fault.TheVariants.{UnknownLabel}
use Rattle.validate_typing.specs.Placed.{types_of}
use Rattle.validate_instructions.specs.Kinds.{are_labels}
use Rattle.validate_instructions.proofs.Labels.{types_none, table_kind, no_default_kind, no_label_kind, all_front}
use Rattle.validate_instructions.proofs.Labels.{all_end, all_there, table_refused}
use Rattle.validate_instructions.proofs.branches.check_br_table.Goals as goal

pub returns-in_err-default : goal.returns-in_err-default
returns-in_err-default c =
    let labels = labels_at c.args.block.now c.args.outer.now in
    let none = types_none labels c.args.default_index c.in_err-default.ensures.1 in
    at_exit _ _ _ _ c.from_residual.ensures.1
    (refused_missing (context_of c.args.scope.now) labels (plain.BrTable c.args.default_index c.args.indices.now) c.args.block.now _ UnknownLabel
    c.in_err-default.ensures.0
    (no_default_kind (types_of labels) c.args.indices.now c.args.default_index none)
    (λ ts us x. never_found _ x.0 none (all_end (Carry labels x.0) c.args.indices.now c.args.default_index x.1)))

pub returns-in_err-need_labels : goal.returns-in_err-need_labels
returns-in_err-need_labels c =
    let labels = labels_at c.args.block.now c.args.outer.now in
    let ks = c.args.indices.now in
    let l = c.in_ok-default.default in
    let carried = results_of l.carries in
    let found = types_at labels c.args.default_index (as_label l) c.in_ok-default.ensures in
    let lost : are_labels (types_of labels) ks ≡ false = rw c.as_slice-indices.ensures at c.in_err-need_labels.ensures.1 in
    at_exit _ _ _ _ c.from_residual-in_err-need_labels.ensures.1
    (refused_missing (context_of c.args.scope.now) labels (plain.BrTable c.args.default_index c.args.indices.now) c.args.block.now _ UnknownLabel
    c.in_err-need_labels.ensures.0
    (no_label_kind (types_of labels) ks c.args.default_index carried found lost)
    (λ ts us x.
    let never : true ≡ false = sym (all_there (types_of labels) x.0 ks (all_front (Carry labels x.0) ks c.args.default_index x.1)) ∙ lost in
    cc))

pub returns-in_err-table_row : goal.returns-in_err-table_row
returns-in_err-table_row c =
    let labels = labels_at c.args.block.now c.args.outer.now in
    let ks = c.args.indices.now in
    let l = c.in_ok-default.default in
    let carried = results_of l.carries in
    let found = types_at labels c.args.default_index (as_label l) c.in_ok-default.ensures in
    let there : are_labels (types_of labels) ks ≡ true = rw c.as_slice-indices.ensures at c.in_ok-need_labels.ensures in
    let differs = rw c.as_slice-indices.ensures at c.in_err-table_row.ensures.differs in
    at_exit _ _ _ _ c.from_residual-in_err-table_row.ensures.1
    (table_refused (context_of c.args.scope.now) labels ks c.args.default_index carried c.args.block.now _ found there differs)

pub returns-in_err-take_one : goal.returns-in_err-take_one
returns-in_err-take_one c =
    let labels = labels_at c.args.block.now c.args.outer.now in
    let ks = c.args.indices.now in
    let l = c.in_ok-default.default in
    let carried = results_of l.carries in
    let found = types_at labels c.args.default_index (as_label l) c.in_ok-default.ensures in
    let there : are_labels (types_of labels) ks ≡ true = rw c.as_slice-indices.ensures at c.in_ok-need_labels.ensures in
    at_exit _ _ _ _ c.from_residual-in_err-take_one.ensures.1
    (refused_cant (context_of c.args.scope.now) labels (plain.BrTable c.args.default_index c.args.indices.now) (I32 ∷ carried) c.args.block.now _
    (table_kind (types_of labels) ks c.args.default_index carried found there)
    (λ ts us x. branched_off _ carried ts found x.0 (all_end (Carry labels x.0) ks c.args.default_index x.1) x.2)
    (cant_more (I32 ∷ []) carried c.args.block.now _ c.in_err-take_one.ensures))

pub returns-in_err-take_result : goal.returns-in_err-take_result
returns-in_err-take_result c =
    let labels = labels_at c.args.block.now c.args.outer.now in
    let ks = c.args.indices.now in
    let l = c.in_ok-default.default in
    let carried = results_of l.carries in
    let found = types_at labels c.args.default_index (as_label l) c.in_ok-default.ensures in
    let there : are_labels (types_of labels) ks ≡ true = rw c.as_slice-indices.ensures at c.in_ok-need_labels.ensures in
    at_exit _ _ _ _ c.from_residual-in_err-take_result.ensures.1
    (refused_cant (context_of c.args.scope.now) labels (plain.BrTable c.args.default_index c.args.indices.now) (I32 ∷ carried) c.args.block.now _
    (table_kind (types_of labels) ks c.args.default_index carried found there)
    (λ ts us x. branched_off _ carried ts found x.0 (all_end (Carry labels x.0) ks c.args.default_index x.1) x.2)
    (lacks_cant (I32 ∷ carried) c.args.block.now _ (lacks_after (I32 ∷ []) carried _ _ _ c.in_ok-take_one.ensures c.in_err-take_result.ensures)))

pub returns : goal.returns
returns c =
    let labels = labels_at c.args.block.now c.args.outer.now in
    let l = c.in_ok-default.default in
    let carried = results_of l.carries in
    let ks = c.args.indices.now in
    let row = rw c.as_slice-indices.ensures at c.in_ok-table_row.ensures.row in
    let all = rw c.as_slice-indices.ensures at c.in_ok-table_row.ensures.carried in
    checked_stop (context_of c.args.scope.now) labels (plain.BrTable c.args.default_index ks) (I32 ∷ carried) _ _ _ _
    (takes_then (I32 ∷ []) carried _ _ _ c.in_ok-take_one.ensures c.in_ok-take_result.ensures) c.stop.ensures.shape c.stop.ensures.flow
    c.stop.ensures.bare
    (λ below us. (
      carried,
      all_last labels carried ks c.args.default_index all
          (types_at labels c.args.default_index (as_label l) c.in_ok-default.ensures),
      (below, refl),
    )) (λ live. refl)
    (row_last labels ks c.args.default_index (as_label l) _ _ _ row c.in_ok-default.ensures c.target.ensures c.in_ok-push.ensures.items)
