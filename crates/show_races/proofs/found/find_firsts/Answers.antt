use Rattle.std.proofs.Common.{◌∙◌, List, length, ap, refl, subst, sym, arith}
use Rattle.race_history.specs.declared.race.Race.{Race}
use Rattle.show_races.proofs.Laws.{one_longer}
use Rattle.show_races.proofs.Firsts.{AreFirsts, each_told, firsts_among, known_next, left_out, told_by, told_next, untold_by}
use Rattle.show_races.proofs.found.find_firsts.Goals as goal

pub loop-at-preserved : goal.loop-at-preserved
loop-at-preserved c =
    let long = ap (λ (l : List Race). length l) c.in_ok-push.ensures.items ∙ one_longer c.loop-at.pairs.items _ in
    record {
      firsts = subst (AreFirsts c.args.shown c.args.story.now c.args.all.now _) (sym c.in_ok-push.ensures.items)
          (told_next c.args.shown c.args.story.now c.args.all.now c.loop-at.pairs.items c.loop-at.at _ c.loop-at-test.true
          c.loop-at.invariant.firsts (untold_by c.args.shown c.args.story.now c.as_slice.result.now c.loop-at.pairs.items _
          c.as_slice.ensures.value (c.if-is_known.ensures.untold refl)));
      few = omega (arith, long);
    }

pub loop-at-preserved-then-is_known : goal.loop-at-preserved-then-is_known
loop-at-preserved-then-is_known c = record {
  firsts = known_next c.args.shown c.args.story.now c.args.all.now c.loop-at.pairs.items c.loop-at.at _ c.loop-at-test.true
      c.loop-at.invariant.firsts (told_by c.args.shown c.args.story.now c.as_slice.result.now c.loop-at.pairs.items _
      c.as_slice.ensures.value (c.if-is_known.ensures.told refl));
  few = c.loop-at.invariant.few;
}

pub returns-then-len-most-clause-from : goal.returns-then-len-most-clause-from
returns-then-len-most-clause-from c =
    firsts_among c.args.shown c.args.story.now c.args.all.now c.loop-at.pairs.items c.loop-at.at c.loop-at.invariant.firsts

pub returns-then-len-most-clause-cut : goal.returns-then-len-most-clause-cut
returns-then-len-most-clause-cut c = λ _. left_out c.args.shown c.args.story.now c.args.all.now c.loop-at.pairs.items c.args.most
    c.loop-at.at _ c.loop-at-test.true (omega arith) (untold_by c.args.shown c.args.story.now c.as_slice.result.now
    c.loop-at.pairs.items _ c.as_slice.ensures.value (c.if-is_known.ensures.untold refl))

pub returns-clause-from : goal.returns-clause-from
returns-clause-from c =
    firsts_among c.args.shown c.args.story.now c.args.all.now c.loop-at.pairs.items c.loop-at.at c.loop-at.invariant.firsts

pub returns-clause-each : goal.returns-clause-each
returns-clause-each c = λ _. each_told c.args.shown c.args.story.now c.args.all.now c.loop-at.pairs.items c.loop-at.at
    c.loop-at-test.false c.loop-at.invariant.firsts
