use Rattle.std.proofs.Common.{refl, ◌≡◌, length, reverse, Some, slice_get, arith, take}
use Rattle.std.proofs.lemmas.Option.{slice_get_read}
use Rattle.validate_instructions.specs.Scope.{context_of}
use Rattle.validate_bodies.specs.Forth.{AreDone}
use Rattle.validate_bodies.proofs.Whole.{on_start, on_step}
use Rattle.validate_bodies.proofs.Known.{comes_first, comes_next, comes_done, begins_none}
use Rattle.validate_bodies.proofs.reached.blocks_at.Goals as goal

pub loop-here-init : goal.loop-here-init
loop-here-init c = record {
  on = rw (c.in_ok-push.ensures.items, c.new-blocks.ensures.items)
      (on_start (context_of c.args.scope.now) c.args.code.now c.in_ok-own_block.field-0 _ c.in_ok-own_block.ensures c.requires.expression c.in-Ok.ensures);
  comes = rw (c.in_ok-push.ensures.items, c.new-blocks.ensures.items)
      (comes_first (context_of c.args.scope.now) c.args.code.now (length c.args.code.now) c.in_ok-own_block.field-0 c.in_ok-own_block.ensures);
}

pub returns-in-Err-Wrong : goal.returns-in-Err-Wrong
returns-in-Err-Wrong c =
    let at : slice_get c.args.code.now c.loop-here.here ≡ Some c.index-code-here.result =
    slice_get_read c.args.code.now _ _ _ refl (omega arith) c.index-code-here.is in
    begins_none (context_of c.args.scope.now) c.args.code.now c.loop-here.here c.args.place _ c.loop-here.blocks.items
    (reverse c.loop-here.ends.ends.items) c.in-Err-Wrong.field-0-0 c.requires.expression c.loop-here.invariant.on at
    (rw c.in-Err-Wrong.field-0-is at c.in-Err-Wrong.ensures.step) (omega arith)

pub loop-here-preserved : goal.loop-here-preserved
loop-here-preserved c =
    let at : slice_get c.args.code.now c.loop-here.here ≡ Some c.index-code-here.result =
    slice_get_read c.args.code.now _ _ _ refl (omega arith) c.index-code-here.is in
    record {
      on = on_step (context_of c.args.scope.now) c.args.code.now c.loop-here.blocks.items c.pass.new.blocks.items
          (reverse c.loop-here.ends.ends.items) (reverse c.pass.new.ends.ends.items) c.loop-here.here _ c.requires.expression
          c.loop-here.invariant.on at c.in-Ok-pass.ensures.step.onward c.pass.ensures.left;
      comes = comes_next (context_of c.args.scope.now) c.args.code.now c.loop-here.here _ c.loop-here.blocks.items c.pass.new.blocks.items
          at c.in-Ok-pass.ensures.step.forth c.loop-here.invariant.comes;
    }

pub returns : goal.returns
returns c =
    let here : c.loop-here.here ≡ c.args.place = omega arith in
    let done : AreDone (context_of c.args.scope.now) (take c.loop-here.here c.args.code.now) (reverse c.loop-here.blocks.items) =
    comes_done (context_of c.args.scope.now) c.args.code.now c.loop-here.here (reverse c.loop-here.blocks.items) _ c.requires.expression
    (omega arith) c.loop-here.invariant.on c.loop-here.invariant.comes in
    rw here at done
