use Rattle.std.proofs.Common.{◌≡◌, ◌+◌, ◌-◌, arith}
use Rattle.show_moments.specs.Scenes.{seen, depth}
use Rattle.show_moments.proofs.Scenes.{ends_all, ends_first, ends_next}
use Rattle.show_moments.proofs.scene.Scene.functions.Goals as goal

pub loop-number-preserved : goal.loop-number-preserved
loop-number-preserved c =
    let s = seen c.args.self.now in
    let standing = c.args.standing.now in
    let above = c.loop-number.number in
    let number : above ≡ above - 1 + 1 = omega (arith, c.loop-number-test.true) in
    ends_next s standing (depth standing) above (above - 1) _ _ _ number c.in_ok-put.ensures c.loop-number.invariant
    (c.open_function.result, c.open_function.ensures, c.in_ok-told.ensures)

pub loop-number-init : goal.loop-number-init
loop-number-init c = ends_first (seen c.args.self.now) c.args.standing.now (depth c.args.standing.now) c.depth-number.result _
    c.depth-number.ensures c.new-functions.ensures.items

pub returns : goal.returns
returns c = ends_all (seen c.args.self.now) c.args.standing.now (depth c.args.standing.now) c.loop-number.number _
    c.loop-number-test.false c.loop-number.invariant
