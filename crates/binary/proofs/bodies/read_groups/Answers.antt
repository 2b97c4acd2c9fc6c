use Rattle.std.proofs.Common.{◌∙◌}
use Rattle.std.proofs.lemmas.Result.{err_from_is_err_and}
use Rattle.binary_wire.specs.Reading.{u32_within_at}
use Rattle.binary_instructions.specs.Reading.{val_type_at}
use Rattle.binary.specs.Reading.{groups_at}
use Rattle.binary.proofs.Loops.{kept, groups_on, groups_end_number, groups_end_type, groups_done}
use Rattle.binary.proofs.bodies.read_groups.Goals as goal

pub returns-in_err-number-clause-gives : goal.returns-in_err-number-clause-gives
returns-in_err-number-clause-gives c =
    let p = err_from_is_err_and c.from_residual.result c.from_residual.ensures.1 in
    rw (p.1, p.2) (groups_end_number c.in_err-number.field-0.0 c.loop.locals.items c.args.count c.loop.counter
    c.loop.left c.args.reader.now.bounds c.loop.reader.rest.now
    (groups_at c.args.count c.args.room c.args.reader.now.bounds c.args.reader.now.rest.now)
    c.loop-test.true (kept (u32_within_at c.loop.left) c.args.reader.now.bounds c.loop.reader.bounds
    c.loop.reader.rest.now _ c.loop.invariant.keeps c.in_err-number.ensures.gives) c.loop.invariant.so_far)

pub returns-in_err-val_type-clause-gives : goal.returns-in_err-val_type-clause-gives
returns-in_err-val_type-clause-gives c =
    let p = err_from_is_err_and c.from_residual-in_err-val_type.result c.from_residual-in_err-val_type.ensures.1 in
    rw (p.1, p.2) (groups_end_type c.in_err-val_type.field-0.0 c.loop.locals.items c.args.count c.loop.counter
    c.loop.left c.in_ok-number.number c.args.reader.now.bounds c.loop.reader.rest.now _
    (groups_at c.args.count c.args.room c.args.reader.now.bounds c.args.reader.now.rest.now) c.loop-test.true
    (kept (u32_within_at c.loop.left) c.args.reader.now.bounds c.loop.reader.bounds c.loop.reader.rest.now _
    c.loop.invariant.keeps c.in_ok-number.ensures.gives)
    (kept val_type_at c.args.reader.now.bounds _ _ _ (c.in_ok-number.ensures.keeps ∙ c.loop.invariant.keeps)
    c.in_err-val_type.ensures.gives) c.loop.invariant.so_far)

pub loop-preserved : goal.loop-preserved
loop-preserved c = record {
  keeps = c.in_ok-val_type.ensures.keeps ∙ c.in_ok-number.ensures.keeps ∙ c.loop.invariant.keeps;
  so_far = rw c.in_ok-push_locals.ensures (groups_on c.loop.locals.items c.args.count c.loop.counter c.loop.left
      c.in_ok-number.number c.args.reader.now.bounds c.loop.reader.rest.now _ _ c.in_ok-val_type.val_type
      (groups_at c.args.count c.args.room c.args.reader.now.bounds c.args.reader.now.rest.now) c.loop-test.true
      (kept (u32_within_at c.loop.left) c.args.reader.now.bounds c.loop.reader.bounds c.loop.reader.rest.now _
      c.loop.invariant.keeps c.in_ok-number.ensures.gives)
      (kept val_type_at c.args.reader.now.bounds _ _ _ (c.in_ok-number.ensures.keeps ∙ c.loop.invariant.keeps)
      c.in_ok-val_type.ensures.gives) c.loop.invariant.so_far);
}

pub returns-clause-gives : goal.returns-clause-gives
returns-clause-gives c = rw (c.from_vec.ensures, c.shrink_to_fit.ensures.items) (groups_done c.loop.locals.items c.args.count c.loop.counter c.loop.left
    c.args.reader.now.bounds c.loop.reader.rest.now
    (groups_at c.args.count c.args.room c.args.reader.now.bounds c.args.reader.now.rest.now) c.loop-test.false
    c.loop.invariant.so_far)
