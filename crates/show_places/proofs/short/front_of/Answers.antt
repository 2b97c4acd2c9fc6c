use Rattle.std.proofs.Common.{◌∙◌, ◌<◌, length, arith}
use Rattle.show_places.proofs.Front.{cut_front, last_boundary}
use Rattle.show_places.proofs.short.front_of.Goals as goal

pub returns : goal.returns
returns c =
    let text = c.args.text.now in
    let kept = c.floor_char_boundary.result in
    let is = c.floor_char_boundary.ensures in
    let long : c.args.most < length text = omega (arith, c.if-text-most.false) in
    c.range.ensures.value
    ∙ cut_front text c.args.most kept long (last_boundary text c.args.most kept long is.bound is.boundary is.nearest)
