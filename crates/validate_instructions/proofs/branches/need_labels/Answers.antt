use Rattle.std.proofs.lemmas.List.{take_all}
use Rattle.std.proofs.Common.{◌≡◌, arith, take}
use Rattle.validate_typing.specs.Placed.{types_of}
use Rattle.validate_instructions.specs.Blocks.{labels_at}
use Rattle.validate_instructions.proofs.Moves.{at_exit}
use Rattle.validate_instructions.proofs.Labels.{types_at, types_none, labels_step, labels_none}
use Rattle.validate_instructions.proofs.branches.need_labels.Goals as goal

pub loop-index-preserved : goal.loop-index-preserved
loop-index-preserved c =
    let labels = labels_at c.args.block.now c.args.outer.now in
    labels_step (types_of labels) c.args.indices.now c.loop-index.index-index 0 _ (omega arith) c.loop-index.invariant
    (types_at labels _ _ c.in_ok-find_label.ensures)

pub returns-in_err-find_label : goal.returns-in_err-find_label
returns-in_err-find_label c =
    let labels = labels_at c.args.block.now c.args.outer.now in
    at_exit _ _ _ _ c.from_residual.ensures.1 (
      c.in_err-find_label.ensures.0,
      labels_none (types_of labels) c.args.indices.now c.loop-index.index-index 0 (omega arith) (types_none labels _ c.in_err-find_label.ensures.1),
    )

pub returns : goal.returns
returns c =
    let all : take c.loop-index.index-index c.args.indices.now ≡ c.args.indices.now = take_all _ _ (omega arith) in
    rw all at c.loop-index.invariant
