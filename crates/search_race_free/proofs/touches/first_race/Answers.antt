use Rattle.std.proofs.Common.{ℕ, ◌≡◌, ◌∙◌, sym, Some, None, subst, arith}
use Rattle.std.proofs.lemmas.Option.{same_Some, none-some}
use Rattle.search_settled.specs.declared.access.NextAccess.{NextAccess}
use Rattle.search_race_free.specs.Touches.{access_at, StrikesNobody, MeetsNobody}
use Rattle.search_race_free.proofs.Touching.{below_one_more, access-here, at_all}
use Rattle.search_race_free.proofs.touches.first_race.Goals as goal
use Rattle.search_race_free.proofs.touches.first_race.Goals.{in-Some+in_default-in_the_way, in_default}

pub returns-in-Some-in_the_way-clause-some : goal.returns-in-Some-in_the_way-clause-some
returns-in-Some-in_the_way-clause-some c = record {
  access = c.in-Some.access;
  wants = access-here c.args.wanted.now c.loop-other.other None c.loop-other-test.true ∙ c.in-Some.is;
  way = c.in-Some-in_the_way.ensures.some;
}

pub loop-other-preserved : goal.loop-other-preserved
loop-other-preserved c =
    let here = access-here c.args.wanted.now c.loop-other.other None c.loop-other-test.true in
    record {
      clear = below_one_more (λ (t : ℕ). (a : NextAccess) → access_at c.args.wanted.now t ≡ Some a → StrikesNobody c.args.owned.now t a ×
          MeetsNobody c.args.wanted.now t a)
          c.loop-other.other c.loop-other.invariant.clear
          (elim c.match-wanted-other.branch [
            | in-Some+in_default-in_the_way w ↦ λ a at.
                let same = same_Some w.in-Some.access a (sym (here ∙ w.in-Some.is) ∙ at) in
                subst (λ x. StrikesNobody c.args.owned.now c.loop-other.other x × MeetsNobody c.args.wanted.now c.loop-other.other x) same
                w.in_default-in_the_way.ensures.none
            | in_default w ↦ λ a at. absurd (none-some a (sym (here ∙ w.in_default.is) ∙ at))
          ]);
    }

pub returns-clause-none : goal.returns-clause-none
returns-clause-none c =
    at_all (λ t a. StrikesNobody c.args.owned.now t a × MeetsNobody c.args.wanted.now t a) c.args.wanted.now c.loop-other.other
    (omega (arith, c.loop-other-test.false))
    c.loop-other.invariant.clear
