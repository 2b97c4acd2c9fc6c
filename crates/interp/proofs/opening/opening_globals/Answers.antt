use Rattle.std.proofs.lemmas.List.{take_all}
use Rattle.std.proofs.Common.{map, ◌∙◌, ap}
use Rattle.types.specs.declared.parts.Global.{Global}
use Rattle.interp_machine.specs.Program.{constant_of}
use Rattle.interp.proofs.Pushing.{mapped_more}
use Rattle.interp.proofs.opening.opening_globals.Goals as goal

pub loop-global-preserved : goal.loop-global-preserved
loop-global-preserved c =
    let is = rw c.as_slice-global-items.ensures at c.global-item.is in
    mapped_more _ _ _ c.args.parts.now.globals c.loop-global.global-index c.global-item.result c.constant.result
    (rw c.as_slice-global-items.ensures at c.loop-global-test.true)
    (c.constant.ensures ∙ ap constant_of (c.as_slice.ensures ∙ ap (λ (g : Global). g.init) is)) c.loop-global.invariant c.in_ok-push.ensures.items

pub returns : goal.returns
returns c = c.loop-global.invariant ∙ ap (map (λ g. constant_of g.init))
    (take_all _ c.args.parts.now.globals (rw c.as_slice-global-items.ensures at c.loop-global-test.false))

pub loop-global-init : goal.loop-global-init
loop-global-init c = c.new-globals.ensures.items
