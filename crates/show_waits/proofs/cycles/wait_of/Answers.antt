use Rattle.std.proofs.Common.{ℕ, ◌≡◌, Option, None, refl, sym, subst, ◌∙◌, true≢false, rules}
use Rattle.selection.specs.declared.choice.NumberSpan.{NumberSpan}
use Rattle.show_waits.specs.Cycles.{IsStopped, IsWait, StandsElsewhere}
use Rattle.show_waits.proofs.Waiting.{entry_of, no_other, same_stand, same_writer}
use Rattle.show_waits.proofs.cycles.wait_of.Goals as goal

pub returns-in_err-stand : goal.returns-in_err-stand
returns-in_err-stand c =
    let none : c.from_residual.result ≡ None = search rules in
    subst (λ (o : Option ℕ). IsWait c.args.log.now c.args.ends.now c.args.out.now c.args.n o) (sym none)
    (λ m w. c.in_err-stand.ensures.none refl w.stand.last w.stand.addrs w.is.stands.last)

pub returns-in_err-at : goal.returns-in_err-at
returns-in_err-at c =
    let none : c.from_residual-in_err-at.result ≡ None = search rules in
    subst (λ (o : Option ℕ). IsWait c.args.log.now c.args.ends.now c.args.out.now c.args.n o) (sym none)
    (λ m w. no_other c.args.log.now c.args.ends.now c.args.out.now c.args.n m w c.in_ok-stand.stand c.in_ok-stand.ensures.stands
    (c.in_err-at.ensures.none refl))

pub returns-then-stands_elsewhere : goal.returns-then-stands_elsewhere
returns-then-stands_elsewhere c = record {
  stopped = c.is_stopped.ensures.0 (search rules);
  stand = c.in_ok-stand.stand;
  is = c.in_ok-stand.ensures.stands;
  place = c.in_ok-at.at;
  last = c.in_ok-at.ensures.found;
  writer = sym (entry_of _ _ _ _ c.in_ok-at.ensures.found _);
  other = c.is_stopped-2.ensures.0 (search rules);
  elsewhere = c.stands_elsewhere.ensures.0 c.if-stands_elsewhere.true;
}

pub returns-then-not-is_stopped-2 : goal.returns-then-not-is_stopped-2
returns-then-not-is_stopped-2 c = λ m w.
    let stand = c.in_ok-stand.stand in
    let last = c.in_ok-at.ensures.found in
    let writer = same_writer c.args.log.now c.args.ends.now c.args.out.now c.args.n m w stand c.in_ok-stand.ensures.stands c.in_ok-at.at last in
    let other = subst (λ (k : ℕ). IsStopped c.args.ends.now k) (writer ∙ sym (entry_of _ _ _ _ last _)) w.other in
    true≢false (sym (c.is_stopped-2.ensures.1 other) ∙ search rules)

pub returns-else-stands_elsewhere : goal.returns-else-stands_elsewhere
returns-else-stands_elsewhere c = λ m w.
    let log = c.args.log.now in
    let out = c.args.out.now in
    let stand = c.in_ok-stand.stand in
    let last = c.in_ok-at.ensures.found in
    let writer = same_writer log c.args.ends.now out c.args.n m w stand c.in_ok-stand.ensures.stands c.in_ok-at.at last in
    let here = subst (λ (a : NumberSpan). StandsElsewhere m log out a) (same_stand c.args.n log out w.stand stand w.is c.in_ok-stand.ensures.stands) w.elsewhere in
    let there = subst (λ (k : ℕ). StandsElsewhere k log out stand.addrs) (writer ∙ sym (entry_of _ _ _ _ last _)) here in
    true≢false (sym (c.stands_elsewhere.ensures.1 there) ∙ c.if-stands_elsewhere.false)
