use Rattle.std.proofs.Common.{◌≡◌, Bool, vec_len, ◌-◌, ◌+◌, ◌++◌, ◌∷◌, [], false, reverse, length, refl, ◌∙◌, arith}
use Rattle.std.specs.Global.{Vec}
use Rattle.std.proofs.lemmas.Result.{err_from_is_err_and}
use Rattle.binary_wire.specs.Faults.{offset_of}
use Rattle.binary_instructions.specs.Reading.{each_kept_at, kept_at}
use Rattle.binary_instructions.proofs.Loop.{one_goes_on, ends, is_short, is_done, none_open, some_open}
use Rattle.binary_instructions.proofs.expression.read_each.Goals as goal

len_is : (v : Vec Bool) → vec_len v ≡ length v.items
len_is v = omega (arith, v.ok)

pub returns-in_err-instr-clause-gives : goal.returns-in_err-instr-clause-gives
unfolding each_kept_at
returns-in_err-instr-clause-gives g c =
    let r = c.from_residual-in_err-instr in
    let p = err_from_is_err_and r.result r.ensures.1 in
    let inv = c.loop.invariant in
    rw (p.1, p.2, ← inv.top) (ends g.T.Keep.kept c.in_err-instr.field-0.0 c.loop.kept.items c.len-end.result c.loop.counter
    (reverse c.loop.open_blocks.items) c.args.reader.now.bounds c.loop.reader.bounds c.loop.reader.rest.now
    (kept_at g.T.Keep.kept c.len-end.result (false ∷ []) c.args.reader.now.bounds c.args.reader.now.rest.now) c.loop-test.true inv.some
    inv.keeps c.in_err-instr.ensures.gives inv.so_far)

pub returns-then-is_empty-clause-gives : goal.returns-then-is_empty-clause-gives
unfolding each_kept_at
returns-then-is_empty-clause-gives g c =
    let inv = c.loop.invariant in
    let on = one_goes_on g.T.Keep.kept c.loop.kept.items c.len-end.result c.loop.counter (reverse c.loop.open_blocks.items)
    c.args.reader.now.bounds c.loop.reader.bounds c.loop.reader.rest.now c.in_ok-instr.instr (reverse c.read_instr.new.open_blocks.items) _
    (kept_at g.T.Keep.kept c.len-end.result (false ∷ []) c.args.reader.now.bounds c.args.reader.now.rest.now) c.loop-test.true inv.some
    inv.keeps c.in_ok-instr.ensures.gives inv.so_far in
    rw (← inv.top, c.in_ok-push-2.ensures.items, c.keep.ensures, c.offset-offset.ensures)
    (is_done g.T.Keep.kept (c.loop.kept.items ++ g.T.Keep.kept (offset_of c.loop.reader.bounds c.loop.reader.rest.now) c.in_ok-instr.instr ∷ [])
    (c.len-end.result - (c.loop.counter + 1)) c.args.reader.now.bounds c.read_instr.new.reader.rest.now
    (reverse c.read_instr.new.open_blocks.items)
    (kept_at g.T.Keep.kept c.len-end.result (false ∷ []) c.args.reader.now.bounds c.args.reader.now.rest.now)
    (none_open c.read_instr.new.open_blocks.items _ c.is_empty.result (len_is c.read_instr.new.open_blocks)
    c.is_empty.ensures c.if-is_empty.true) on)

pub loop-preserved : goal.loop-preserved
loop-preserved g c =
    let inv = c.loop.invariant in
    record {
      keeps = c.in_ok-instr.ensures.keeps ∙ inv.keeps;
      some = some_open c.read_instr.new.open_blocks.items _ c.is_empty.result (len_is c.read_instr.new.open_blocks) c.is_empty.ensures c.if-is_empty.false;
      top = inv.top;
      so_far = rw (c.in_ok-push-2.ensures.items, c.keep.ensures, c.offset-offset.ensures)
          (one_goes_on g.T.Keep.kept c.loop.kept.items c.len-end.result c.loop.counter (reverse c.loop.open_blocks.items)
          c.args.reader.now.bounds c.loop.reader.bounds c.loop.reader.rest.now c.in_ok-instr.instr (reverse c.read_instr.new.open_blocks.items) _
          (kept_at g.T.Keep.kept c.len-end.result (false ∷ []) c.args.reader.now.bounds c.args.reader.now.rest.now) c.loop-test.true inv.some
          inv.keeps c.in_ok-instr.ensures.gives inv.so_far);
    }

pub returns-clause-gives : goal.returns-clause-gives
unfolding each_kept_at
returns-clause-gives g c =
    let inv = c.loop.invariant in
    let short = is_short g.T.Keep.kept c.loop.kept.items c.len-end.result c.loop.counter (reverse c.loop.open_blocks.items)
    c.args.reader.now.bounds c.loop.reader.rest.now
    (kept_at g.T.Keep.kept c.len-end.result (false ∷ []) c.args.reader.now.bounds c.args.reader.now.rest.now) c.loop-test.false
    inv.some inv.so_far in
    rw (← inv.top, short, c.into.ensures, c.missing.ensures, inv.keeps) refl
