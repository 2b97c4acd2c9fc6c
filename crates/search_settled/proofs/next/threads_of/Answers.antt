use Rattle.std.proofs.Common.{[], ◌∷◌, ◌++◌, ◌+◌, arith, ap, sym, subst, ◌∙◌}
use Rattle.search_settled.proofs.Nexting.{Read, read-first, read-more, read-none, read-all}
use Rattle.search_settled.proofs.next.threads_of.Goals as goal

pub loop-n-init : goal.loop-n-init
loop-n-init g c =
    subst (Read c.args.parts.now c.args.numbers.now 0) (sym c.in_ok-all.ensures.items) (read-first c.args.parts.now c.args.numbers.now)

pub loop-n-preserved : goal.loop-n-preserved
loop-n-preserved g c =
    let t = c.args.parts.now in
    let numbers = c.args.numbers.now in
    let pushed = c.in_ok-push.ensures.items ∙ ap (λ x. c.loop-n.all.items ++ x ∷ []) c.in_ok-share.ensures in
    subst (Read t numbers (c.loop-n.n + 1)) (sym pushed)
    (read-more t numbers c.loop-n.n c.part_at-number.result c.loop-n.all.items c.in-Some.thread.now c.part_at-number.ensures
    (sym c.in-Some.ensures.key) c.loop-n.invariant)

pub loop-n-preserved-in_default : goal.loop-n-preserved-in_default
loop-n-preserved-in_default g c =
    read-none c.args.parts.now c.args.numbers.now c.loop-n.n c.part_at-number.result c.loop-n.all.items c.part_at-number.ensures
    (sym c.in_default.ensures.key) c.loop-n.invariant

pub returns : goal.returns
returns g c = read-all c.args.parts.now c.args.numbers.now c.loop-n.n c.loop-n.all.items (omega arith) c.loop-n.invariant
