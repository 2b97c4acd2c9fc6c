use Rattle.std.proofs.Common.{◌≡◌, ◌<◌, ◌∷◌, [], ◌++◌, ◌∙◌, List, ℕ, sym, subst, rules, arith}
use Rattle.show_waits.proofs.Waiting.{IsWalk, goes_on, no_next, too_low}
use Rattle.show_waits.proofs.cycles.cycle_from.Goals as goal

pub returns-in_default : goal.returns-in_default
returns-in_default c =
    no_next c.args.waits.now c.args.n c.loop.others.items c.loop.at c.loop.invariant.walk (sym c.wait_in.ensures ∙ c.in_default.is)

pub returns-then-next-n-2 : goal.returns-then-next-n-2
returns-then-next-n-2 c =
    too_low c.args.waits.now c.args.n c.loop.others.items c.loop.at c.loop.invariant.walk c.in-Some.next
    (sym c.wait_in.ensures ∙ c.in-Some.is) c.if-next-n.false c.if-next-n-2.true

pub loop-preserved : goal.loop-preserved
loop-preserved c =
    let high : c.args.n < c.in-Some.next = omega (arith, c.if-next-n.false, c.if-next-n-2.false) in
    let pushed : c.push.new.self.items ≡ c.loop.others.items ++ c.in-Some.next ∷ [] = search rules in
    record {
      walk = subst (λ (xs : List ℕ). IsWalk c.args.waits.now c.args.n xs c.in-Some.next) (sym pushed)
          (goes_on c.args.waits.now c.args.n c.loop.others.items c.loop.at c.loop.invariant.walk c.in-Some.next
          (sym c.wait_in.ensures ∙ c.in-Some.is) c.if-next-n.false high);
      count = search rules;
    }
