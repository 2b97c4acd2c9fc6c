use Rattle.std.proofs.Common.{◌≡◌, List, get_or, subst, sym, ◌∙◌, ap, below_more, arith, length, true}
use Rattle.std.proofs.lemmas.List.{get_or_read}
use Rattle.search_endings.specs.Equal.{equal_ones, same_ones}
use Rattle.search_finds.specs.declared.met.Met.{Met}
use Rattle.search_finds.proofs.met.EndingTable.place_of.Goals as goal

pub returns-then-eq : goal.returns-then-eq
returns-then-eq c =
    let items = c.deref-met-items.ensures.value in (
      let n : length c.deref-met-items.result.now ≡ length c.args.self.now.met.items = ap length items in omega arith,
      c.met-item.result,
      sym (c.met-item.is ∙ ap (λ (xs : List Met). get_or xs c.loop-place.place c.met-item.result) items),
      equal_ones _ _ (sym c.eq.ensures ∙ c.if-eq.true),
    )

pub loop-place-preserved : goal.loop-place-preserved
loop-place-preserved c =
    let items = c.deref-met-items.ensures.value in
    let at = λ (d : Met). subst (λ (xs : List Met). c.met-item.result ≡ get_or xs c.loop-place.place d) items
    (get_or_read c.deref-met-items.result.now c.loop-place.place c.met-item.result c.loop-place-test.true c.met-item.is d) in
    below_more _ _ c.loop-place.invariant (λ d same.
    let one : c.eq.result ≡ true =
    c.eq.ensures ∙ same_ones _ _ (subst (λ (m : Met). m.ending ≡ c.args.ending.now) (sym (at d)) same) in absurd (cc))

pub returns : goal.returns
returns c = λ k d within same. c.loop-place.invariant k
    (let n : length c.deref-met-items.result.now ≡ length c.args.self.now.met.items = ap length c.deref-met-items.ensures.value in omega arith) d same
