use Rattle.std.proofs.Common.{◌⊎◌, ◌↔◌, ◌≡◌, ◌&&◌, true, [], ◌∷◌, inl, inr, ap, subst, sym, ◌∙◌, arith, Contains}
use Rattle.std.specs.Prelude.{get_or}
use Rattle.search_race_free.specs.Same.{same_touches}
use Rattle.search_race_free.proofs.Touching.{Contains-inserted}
use Rattle.search_race_free.proofs.touches.put.Goals as goal

pub returns : goal.returns
returns c x =
    subst (λ l. Contains l x ↔ (Contains c.args.touches.now.items x ⊎ (x ≡ c.args.touch))) (sym c.in_ok-insert.ensures.items)
    (Contains-inserted c.args.touches.now.items c.loop-at.at c.args.touch x)

pub returns-then-eq : goal.returns-then-eq
returns-then-eq c x = (
  λ d. inl d,
  λ d. elim d [
    | inl among ↦ among
    | inr e ↦
        (let y = c.index-then-at-len.result.now in
        let len = c.len-2.ensures in
        let low = c.if-at-len.true in
        let equal = ap (λ b. b && true) (sym c.eq.ensures ∙ c.if-eq.true) in
        let same = ap (λ l. get_or l 0 y) (same_touches (y ∷ []) (c.args.touch ∷ []) equal) in
        subst (λ z. Contains c.args.touches.now.items z) (same ∙ sym e) (c.loop-at.at, omega (arith, low, len), sym c.index-then-at-len.ensures))
  ],
)
