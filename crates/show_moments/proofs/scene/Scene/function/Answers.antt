use Rattle.std.proofs.Common.{◌∙◌, List, refl, subst}
use Rattle.dwarf_frames.specs.declared.values.FrameValue.{FrameValue}
use Rattle.show_moments.specs.Scenes.{seen, AreValues}
use Rattle.show_moments.proofs.Scenes.{listed_told}
use Rattle.show_moments.proofs.scene.Scene.function.Goals as goal

pub returns : goal.returns
returns c =
    let s = seen c.args.self.now in
    let frame = c.in_ok-frame.frame in
    record {
      frame = frame;
      there = c.in_ok-frame.ensures ∙ c.named_offset.ensures;
      spot = c.spot.ensures;
      chain = refl;
      locals = c.in_ok-locals.locals;
      locals_are = c.in_ok-locals.ensures;
      operands = c.in_ok-operands.operands;
      operands_are = c.in_ok-operands.ensures;
      has_locals = listed_told s frame _ _ _ _ _ c.in_ok-locals-2.ensures c.is_listed-is_listed.ensures c.types_of.ensures;
      has_operands = listed_told s frame _ _ _ _ _ c.in_ok-operands-2.ensures c.is_listed-is_listed.ensures c.types_of-2.ensures;
      around = c.around.ensures;
      values = subst (λ (vs : List FrameValue). AreValues s c.args.opened vs c.in_ok-values.values.items) c.as_slice.ensures.value
          c.in_ok-values.ensures;
    }
