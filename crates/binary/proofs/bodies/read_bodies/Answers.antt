use Rattle.std.proofs.Common.{◌∙◌, arith, rules}
use Rattle.std.proofs.lemmas.Result.{err_from_is_err_and}
use Rattle.binary.specs.Reading.{body_of_at, bodies_at}
use Rattle.binary.proofs.Loops.{kept, fails_kept, bodies_on, bodies_end, bodies_done}
use Rattle.binary.proofs.bodies.read_bodies.Goals as goal

pub returns-in_err-body-clause-gives : goal.returns-in_err-body-clause-gives
returns-in_err-body-clause-gives c =
    let p = err_from_is_err_and c.from_residual.result c.from_residual.ensures.1 in
    rw (p.1, p.2) (bodies_end c.args.types.now c.args.functions.now 0 c.in_err-body.field-0.0 c.loop-i.bodies.items
    c.loop-i.i c.args.reader.now.bounds c.loop-i.reader.rest.now
    (bodies_at c.args.types.now c.args.functions.now c.args.reader.now.bounds c.args.reader.now.rest.now)
    (search (rules, arith)) (fails_kept (body_of_at c.args.types.now c.args.functions.now c.loop-i.i)
    c.args.reader.now.bounds c.loop-i.reader.bounds c.loop-i.reader.rest.now c.in_err-body.field-0.0
    c.loop-i.invariant.keeps c.in_err-body.ensures.gives) c.loop-i.invariant.so_far)

pub loop-i-preserved : goal.loop-i-preserved
loop-i-preserved c = record {
  keeps = c.in_ok-body.ensures.keeps ∙ c.loop-i.invariant.keeps;
  so_far = rw c.in_ok-push.ensures.items (bodies_on c.args.types.now c.args.functions.now 0 c.loop-i.bodies.items
      c.loop-i.i c.args.reader.now.bounds c.loop-i.reader.rest.now c.in_ok-body.body _
      (bodies_at c.args.types.now c.args.functions.now c.args.reader.now.bounds c.args.reader.now.rest.now)
      (search (rules, arith)) (kept (body_of_at c.args.types.now c.args.functions.now c.loop-i.i)
      c.args.reader.now.bounds c.loop-i.reader.bounds c.loop-i.reader.rest.now _
      c.loop-i.invariant.keeps c.in_ok-body.ensures.gives) c.loop-i.invariant.so_far);
}

pub returns-clause-gives : goal.returns-clause-gives
returns-clause-gives c = rw c.from_vec.ensures (bodies_done c.args.types.now c.args.functions.now c.loop-i.bodies.items
    c.loop-i.i c.args.reader.now.bounds c.loop-i.reader.rest.now
    (bodies_at c.args.types.now c.args.functions.now c.args.reader.now.bounds c.args.reader.now.rest.now)
    (search (rules, arith)) c.loop-i.invariant.so_far)
