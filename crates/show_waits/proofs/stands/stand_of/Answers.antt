use Rattle.std.proofs.Common.{◌≡◌, ◌≤◌, length, sym, ◌∙◌, subst, Some, IfSome, true≢false, arith}
use Rattle.std.proofs.lemmas.Option.{IfSome_then}
use Rattle.show_waits.specs.Stands.{IsStand}
use Rattle.show_waits.specs.declared.stands.Stand.{Stand}
use Rattle.show_waits.proofs.Standing.{IsSoFar, entry_before, is_before, skips, first, again, ends, over, seen_at_end}
use Rattle.show_waits.proofs.Standing.{of_another, of_no_bytes, of_bytes, of_this}
use Rattle.show_waits.proofs.stands.stand_of.Goals as goal

pub loop-place-init : goal.loop-place-init
loop-place-init c = record { none = λ _. seen_at_end c.args.n c.args.log.now c.args.out.now (length c.args.log.now) (omega arith); some = tt }

pub loop-place-preserved-then-entry-n : goal.loop-place-preserved-then-entry-n
loop-place-preserved-then-entry-n c =
    let n = c.args.n in
    let out = c.args.out.now in
    let place = c.loop-place.place in
    let e = entry_before c.args.log.now place in
    let within : place ≤ length c.args.log.now = omega (arith, c.loop-place.auto.place) in
    let x = is_before c.args.log.now place c.loop-place-test.true within in
    skips out n x (of_another out n e c.if-entry-n.true) (λ addrs t. c.if-entry-n.true (of_this out n x addrs t).0)
    c.loop-place.found c.loop-place.invariant

pub loop-place-preserved-in_default : goal.loop-place-preserved-in_default
loop-place-preserved-in_default c =
    let n = c.args.n in
    let out = c.args.out.now in
    let place = c.loop-place.place in
    let e = entry_before c.args.log.now place in
    let within : place ≤ length c.args.log.now = omega (arith, c.loop-place.auto.place) in
    let x = is_before c.args.log.now place c.loop-place-test.true within in
    let none = sym c.touched_beside.ensures ∙ c.in_default.is in
    skips out n x (of_no_bytes out n e none) (λ addrs t. let some = (of_this out n x addrs t).1 in cc (sym some ∙ none))
    c.loop-place.found c.loop-place.invariant

pub returns-in-Some-2-clause-stands : goal.returns-in-Some-2-clause-stands
returns-in-Some-2-clause-stands c =
    let n = c.args.n in
    let out = c.args.out.now in
    let place = c.loop-place.place in
    let e = entry_before c.args.log.now place in
    let within : place ≤ length c.args.log.now = omega (arith, c.loop-place.auto.place) in
    let x = is_before c.args.log.now place c.loop-place-test.true within in
    let some = sym c.touched_beside.ensures ∙ c.in-Some.is in
    let so = subst (λ o. IfSome o (IsSoFar n c.args.log.now out place)) c.in-Some-found.is c.loop-place.invariant.some in
    let both : Some c.in-Some-found.stand ≡ Some c.in-Some-2.stand = sym c.in-Some-found.is ∙ c.in-Some-2.is in
    let same : c.in-Some-found.stand ≡ c.in-Some-2.stand = cc both in
    subst (λ (s : Stand). IsStand n c.args.log.now out s) same
    (ends out n x (of_bytes out n e c.in-Some.addrs c.if-entry-n.false some) c.if-entry-n.false c.in-Some.addrs some
    c.in-Some-found.stand so (λ is. true≢false (sym (c.is_same.ensures.1 is) ∙ c.if-is_same.false)))

pub loop-place-preserved-in-None : goal.loop-place-preserved-in-None
loop-place-preserved-in-None c =
    let n = c.args.n in
    let out = c.args.out.now in
    let place = c.loop-place.place in
    let e = entry_before c.args.log.now place in
    let within : place ≤ length c.args.log.now = omega (arith, c.loop-place.auto.place) in
    let x = is_before c.args.log.now place c.loop-place-test.true within in
    let some = sym c.touched_beside.ensures ∙ c.in-Some.is in
    first out n x (of_bytes out n e c.in-Some.addrs c.if-entry-n.false some) c.if-entry-n.false c.in-Some.addrs some
    (c.loop-place.invariant.none c.in-None.is)

pub loop-place-preserved : goal.loop-place-preserved
loop-place-preserved c =
    let n = c.args.n in
    let out = c.args.out.now in
    let place = c.loop-place.place in
    let e = entry_before c.args.log.now place in
    let within : place ≤ length c.args.log.now = omega (arith, c.loop-place.auto.place) in
    let x = is_before c.args.log.now place c.loop-place-test.true within in
    let some = sym c.touched_beside.ensures ∙ c.in-Some.is in
    let so = subst (λ o. IfSome o (IsSoFar n c.args.log.now out place)) c.in-Some-found.is c.loop-place.invariant.some in
    record {
      none = λ not. absurd (cc not);
      some = again out n x (of_bytes out n e c.in-Some.addrs c.if-entry-n.false some) c.if-entry-n.false c.in-Some.addrs some
          c.in-Some-found.stand so (c.is_same.ensures.0 c.if-is_same.true);
    }

pub returns-clause-stands : goal.returns-clause-stands
returns-clause-stands c =
    let first : c.loop-place.place ≡ 0 = omega (arith, c.loop-place-test.false) in
    IfSome_then c.loop-place.found c.loop-place.invariant.some
    (λ s h. over c.args.n c.args.log.now c.args.out.now s (subst (λ k. IsSoFar c.args.n c.args.log.now c.args.out.now k s) first h))
