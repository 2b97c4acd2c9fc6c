use Rattle.std.proofs.Common.{◌≡◌, sym, true, false, ◌∙◌, ap, Some, take, arith}
use Rattle.std.proofs.lemmas.List.{take_all}
use Rattle.std.proofs.lemmas.List.Elements.{All-nil, All-more}
use Rattle.validate_typing.specs.Typing.{results_of}
use Rattle.validate_instructions.specs.Blocks.{Carry, labels_at, as_label}
use Rattle.validate_instructions.proofs.Labels.{types_at, row_none, row_step, differs_missing, differs_here}
use Rattle.validate_instructions.proofs.Moves.{at_exit}
use Rattle.validate_instructions.proofs.branches.table_row.Goals as goal

pub loop-index-init : goal.loop-index-init
loop-index-init c = record {
  row = row_none (labels_at c.args.block.now c.args.outer.now) c.args.row.now.items c.requires;
  carried = All-nil (Carry (labels_at c.args.block.now c.args.outer.now) (results_of c.args.default.carries));
}

pub loop-index-preserved : goal.loop-index-preserved
loop-index-preserved c =
    let labels = labels_at c.args.block.now c.args.outer.now in
    let l = c.in_ok-label.label in
    let same : l.carries ≡ c.args.default.carries = c.carry_alike.ensures.0 c.if-not-carry_alike.false in
    record {
      row = row_step labels c.args.indices.now c.loop-index.index-index 0 (as_label l) _ _ _ (omega arith)
          c.loop-index.invariant.row c.in_ok-label.ensures c.target.ensures c.in_ok-push.ensures.items;
      carried = All-more (Carry labels (results_of c.args.default.carries)) c.args.indices.now c.loop-index.index-index
          0 (omega arith) c.loop-index.invariant.carried
          (types_at labels _ (as_label l) c.in_ok-label.ensures ∙ ap (λ k. Some (results_of k)) same);
    }

pub returns-in_err-label-clause-differs : goal.returns-in_err-label-clause-differs
returns-in_err-label-clause-differs c =
    at_exit _ _ _ _ c.from_residual.ensures.1
    (differs_missing (labels_at c.args.block.now c.args.outer.now) c.args.indices.now c.loop-index.index-index 0 _ _ (omega arith)
    c.in_err-label.ensures.0 c.in_err-label.ensures.1)

pub returns-then-not-carry_alike-clause-differs : goal.returns-then-not-carry_alike-clause-differs
returns-then-not-carry_alike-clause-differs c =
    differs_here (labels_at c.args.block.now c.args.outer.now) c.args.indices.now c.loop-index.index-index 0 c.args.default.carries c.in_ok-label.label
    (omega arith) c.in_ok-label.ensures
    (λ alike. let never : true ≡ false = sym (c.carry_alike.ensures.1 alike) ∙ c.if-not-carry_alike.true in cc)

pub returns-clause-row : goal.returns-clause-row
returns-clause-row c =
    let all : take c.loop-index.index-index c.args.indices.now ≡ c.args.indices.now = take_all _ _ (omega arith) in
    let t = rw all at c.loop-index.invariant in
    t.row

pub returns-clause-carried : goal.returns-clause-carried
returns-clause-carried c =
    let all : take c.loop-index.index-index c.args.indices.now ≡ c.args.indices.now = take_all _ _ (omega arith) in
    let t = rw all at c.loop-index.invariant in
    t.carried
