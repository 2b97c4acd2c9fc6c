use Rattle.std.proofs.Common.{◌≡◌, ◌∙◌, arith, subst, sym, true, false, List, ℕ}
use Rattle.std.proofs.lemmas.Slice.Eq.{bytes_eq-Decides}
use Rattle.binary_wire.specs.Faults.{input}
use Rattle.show_places.specs.Sections.{IsNamed, HasNone, IsCustom, part_of}
use Rattle.show_places.proofs.Behind.{found, passed_on, none_left, nothing, shorter, unnamed, other_name}
use Rattle.show_places.proofs.sections.custom_section.Goals as goal

pub returns-in_default-clause-none : goal.returns-in_default-clause-none
returns-in_default-clause-none c contents h = (subst (λ (b : List ℕ). HasNone (IsCustom c.args.name.now) (input c.args.bytes.now) b)
    (sym c.in_default.ensures.none) (nothing _ _)) h.0 h.1

pub returns-then-eq-clause-some : goal.returns-then-eq-clause-some
returns-then-eq-clause-some c =
    let named = subst (λ (n : List ℕ). IsNamed c.in-Ok.section.contents.now n c.in-Some-name_of.contents.now)
    ((bytes_eq-Decides c.in-Some-name_of.its_name.now c.args.name.now).0 (sym c.if-eq.ensures)) c.in-Some-name_of.ensures in (
      (c.in-Ok.section.id, c.in-Ok.section.offset, c.in-Ok.section.contents.now),
      found _ _ _ _ _ _ _ c.loop-section.invariant.bounds c.loop-section.invariant.passed c.in-Ok.ensures.gives
          (omega (arith, c.if-section-eq0.true), c.in-Some-name_of.contents.now, named),
      named,
    )

pub loop-section-smaller-else-eq : goal.loop-section-smaller-else-eq
loop-section-smaller-else-eq c = shorter _ _ _ _ c.in-Ok.ensures.gives

pub loop-section-preserved-else-eq : goal.loop-section-preserved-else-eq
loop-section-preserved-else-eq c = record {
  bounds = c.in-Ok.ensures.keeps ∙ c.loop-section.invariant.bounds;
  passed = passed_on _ _ _ _ _ _ _ c.loop-section.invariant.bounds c.loop-section.invariant.passed c.in-Ok.ensures.gives
      (other_name c.args.name.now _ _ (part_of c.in-Ok.section) c.in-Some-name_of.ensures
      (λ e. let t = (bytes_eq-Decides c.in-Some-name_of.its_name.now c.args.name.now).1 e in let f : false ≡ true = c.if-eq.ensures ∙ t in cc));
}

pub loop-section-smaller-in_default-name_of : goal.loop-section-smaller-in_default-name_of
loop-section-smaller-in_default-name_of c = shorter _ _ _ _ c.in-Ok.ensures.gives

pub loop-section-preserved-in_default-name_of : goal.loop-section-preserved-in_default-name_of
loop-section-preserved-in_default-name_of c = record {
  bounds = c.in-Ok.ensures.keeps ∙ c.loop-section.invariant.bounds;
  passed = passed_on _ _ _ _ _ _ _ c.loop-section.invariant.bounds c.loop-section.invariant.passed c.in-Ok.ensures.gives
      (unnamed c.args.name.now (part_of c.in-Ok.section) c.in_default-name_of.ensures);
}

pub loop-section-smaller : goal.loop-section-smaller
loop-section-smaller c = shorter _ _ _ _ c.in-Ok.ensures.gives

pub loop-section-preserved : goal.loop-section-preserved
loop-section-preserved c = record {
  bounds = c.in-Ok.ensures.keeps ∙ c.loop-section.invariant.bounds;
  passed = passed_on _ _ _ _ _ _ _ c.loop-section.invariant.bounds c.loop-section.invariant.passed c.in-Ok.ensures.gives
      (λ h. c.if-section-eq0.false h.0);
}

pub returns-clause-none : goal.returns-clause-none
returns-clause-none c contents h =
    none_left _ _ _ _ _ _ c.loop-section.invariant.bounds c.loop-section.invariant.passed c.in_default-next_section.ensures.gives h.0 h.1
