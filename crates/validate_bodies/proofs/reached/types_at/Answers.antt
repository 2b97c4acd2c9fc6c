use Rattle.std.proofs.Common.{◌≡◌, ◌∙◌, sym, ◌<◌, length, arith, true, false, reverse}
use Rattle.validate_instructions.specs.Scope.{context_of}
use Rattle.validate_bodies.specs.Forth.{goes_on_in}
use Rattle.validate_bodies.proofs.Known.{types_known, cut_off}
use Rattle.validate_bodies.proofs.reached.types_at.Goals as goal

pub returns-then-not-goes_on : goal.returns-then-not-goes_on
returns-then-not-goes_on c =
    let off : goes_on_in (reverse c.deref.result.now) ≡ false = sym c.goes_on.ensures ∙ c.if-not-goes_on.true in
    cut_off (context_of c.args.scope.now) c.args.code.now c.args.place c.in-Some.blocks.items (rw c.in-Some.is at c.in_ok-blocks.ensures)
    (rw c.deref.ensures.value at off)

pub returns : goal.returns
returns c =
    let within : c.args.place < length c.args.code.now = omega arith in
    let on : goes_on_in (reverse c.deref.result.now) ≡ true = sym c.goes_on.ensures ∙ c.if-not-goes_on.false in
    types_known (context_of c.args.scope.now) c.args.code.now c.args.place c.in-Some.blocks.items c.deref-3.result.now (λ v. v.items) _ within
    (rw c.in-Some.is at c.in_ok-blocks.ensures) (rw c.deref.ensures.value at on)
    (c.deref-3.ensures.value ∙ (rw c.deref-2.ensures.value at c.in_ok-operands_of.ensures)) c.known_types.ensures
