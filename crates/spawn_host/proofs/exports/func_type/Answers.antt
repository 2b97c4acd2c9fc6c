use Rattle.std.proofs.Common.{arith}
use Rattle.spawn_host.proofs.Calling.{is_there}
use Rattle.spawn_host.proofs.exports.func_type.Goals as goal

pub returns : goal.returns
returns c =
    let m = c.args.valid.now.parts in
    let typed = c.in-Some.ensures in
    let bodies = c.parts-parts.ensures.tested.bodies in
    let body = is_there m.bodies c.args.own (omega (arith, bodies, c.requires)) in
    (body.0, record { index = typed.0; typed = typed.1; type_is = typed.2; body_is = body.1 })
