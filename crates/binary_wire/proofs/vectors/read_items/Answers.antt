use Rattle.std.proofs.Common.{◌∙◌}
use Rattle.std.proofs.lemmas.Result.{err_from_is_err_and}
use Rattle.binary_wire.specs.Reading.{items_at}
use Rattle.binary_wire.proofs.Loop.{goes_on, ends, is_done}
use Rattle.binary_wire.proofs.vectors.read_items.Goals as goal

pub returns-in_err-item-clause-gives : goal.returns-in_err-item-clause-gives
returns-in_err-item-clause-gives g c =
    let p = err_from_is_err_and c.from_residual.result c.from_residual.ensures.1 in
    rw (p.1, p.2) (ends g.T.Item.at c.in_err-item.field-0.0 c.loop.items.items c.args.count c.loop.counter
    c.args.reader.now.bounds c.loop.reader.bounds c.loop.reader.rest.now
    (items_at g.T.Item.at c.args.count c.args.reader.now.bounds c.args.reader.now.rest.now)
    c.loop-test.true c.loop.invariant.keeps c.in_err-item.ensures.gives c.loop.invariant.so_far)

pub loop-preserved : goal.loop-preserved
loop-preserved g c = record {
  keeps = c.in_ok-item.ensures.keeps ∙ c.loop.invariant.keeps;
  so_far = rw c.in_ok-push.ensures.items (goes_on g.T.Item.at c.loop.items.items c.args.count c.loop.counter
      c.args.reader.now.bounds c.loop.reader.bounds c.loop.reader.rest.now c.in_ok-item.item _
      (items_at g.T.Item.at c.args.count c.args.reader.now.bounds c.args.reader.now.rest.now)
      c.loop-test.true c.loop.invariant.keeps c.in_ok-item.ensures.gives c.loop.invariant.so_far);
}

pub returns-clause-gives : goal.returns-clause-gives
returns-clause-gives g c = rw c.from_vec.ensures (is_done g.T.Item.at c.loop.items.items c.args.count c.loop.counter
    c.args.reader.now.bounds c.loop.reader.rest.now
    (items_at g.T.Item.at c.args.count c.args.reader.now.bounds c.args.reader.now.rest.now) c.loop-test.false
    c.loop.invariant.so_far)
