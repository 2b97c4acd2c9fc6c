use Rattle.std.proofs.Common.{◌≡◌, ◌∙◌, length, true, false}
use Rattle.std.proofs.lemmas.Result.{err_from_is_err_and}
use Rattle.binary_wire.specs.Reading.{front_is}
use Rattle.binary.specs.Reading.{custom_at, customs_at}
use Rattle.binary.proofs.Loops.{kept, customs_on, customs_end, customs_stop, customs_done}
use Rattle.binary.proofs.sections.read_customs.Goals as goal

pub returns-then-not-front_is-clause-gives : goal.returns-then-not-front_is-clause-gives
returns-then-not-front_is-clause-gives c =
    let front : false ≡ front_is 0 c.loop.reader.rest.now = cc (c.if-not-front_is.true, c.front_is.ensures) in
    customs_stop c.len-end.result c.loop.counter c.args.reader.now.bounds c.loop.reader.rest.now _ c.loop-test.true front c.loop.invariant.so_far

pub returns-in_err-read_custom-clause-gives : goal.returns-in_err-read_custom-clause-gives
returns-in_err-read_custom-clause-gives c =
    let p = err_from_is_err_and c.from_residual.result c.from_residual.ensures.1 in
    let front : true ≡ front_is 0 c.loop.reader.rest.now = cc (c.if-not-front_is.false, c.front_is.ensures) in
    rw (p.1, p.2) (customs_end c.in_err-read_custom.field-0.0 c.len-end.result c.loop.counter c.args.reader.now.bounds
    c.loop.reader.rest.now (customs_at (length c.args.reader.now.rest.now) c.args.reader.now.bounds c.args.reader.now.rest.now)
    c.loop-test.true front (kept custom_at c.args.reader.now.bounds c.loop.reader.bounds c.loop.reader.rest.now _
    c.loop.invariant.keeps c.in_err-read_custom.ensures.gives) c.loop.invariant.so_far)

pub loop-preserved : goal.loop-preserved
loop-preserved c =
    let front : true ≡ front_is 0 c.loop.reader.rest.now = cc (c.if-not-front_is.false, c.front_is.ensures) in
    record {
      keeps = c.in_ok-read_custom.ensures.keeps ∙ c.loop.invariant.keeps;
      top = c.loop.invariant.top;
      so_far = customs_on c.len-end.result c.loop.counter c.args.reader.now.bounds c.loop.reader.rest.now true _ _
          c.loop-test.true front (kept custom_at c.args.reader.now.bounds c.loop.reader.bounds c.loop.reader.rest.now _
          c.loop.invariant.keeps c.in_ok-read_custom.ensures.gives) c.loop.invariant.so_far;
    }

pub returns-clause-gives : goal.returns-clause-gives
returns-clause-gives c = customs_done c.len-end.result c.loop.counter c.args.reader.now.bounds c.loop.reader.rest.now
    (customs_at (length c.args.reader.now.rest.now) c.args.reader.now.bounds c.args.reader.now.rest.now)
    c.loop-test.false c.loop.invariant.so_far
