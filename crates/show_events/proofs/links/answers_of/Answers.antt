use Rattle.std.proofs.Common.{◌∙◌, None, length, ap, subst, sym}
use Rattle.std.proofs.lemmas.List.{length-replicate, take_at}
use Rattle.show_events.specs.Links.{noted_answer}
use Rattle.show_events.proofs.Answered.{AreKnown, known_first, known_next, known_all}
use Rattle.show_events.proofs.links.answers_of.Goals as goal

pub loop-at-init : goal.loop-at-init
loop-at-init c =
    let made = c.in_ok-answers.ensures in
    record {
      long = ap length made ∙ length-replicate c.args.long None;
      known = subst (AreKnown c.args.contexts.now 0) (sym made) (known_first c.args.contexts.now c.args.long);
    }

pub loop-at-preserved : goal.loop-at-preserved
loop-at-preserved c =
    let at = c.loop-at.at in
    let back = take_at c.note_answer.new.answers _ c.loop-at.answers.len (c.note_answer.auto.answers ∙ c.deref_mut.ensures.len) in
    let noted = c.note_answer.ensures ∙ ap (noted_answer _ at) c.deref_mut.ensures.value in
    record {
      long = ap length back ∙ (c.note_answer.auto.answers ∙ (ap length c.deref_mut.ensures.value ∙ c.loop-at.invariant.long));
      known = known_next c.args.contexts.now at _ _ _ c.loop-at-test.true c.loop-at.invariant.known (back ∙ noted);
    }

pub returns : goal.returns
returns c = known_all c.args.contexts.now c.loop-at.at c.args.long c.loop-at.answers.items c.loop-at-test.false
    c.loop-at.invariant.long c.loop-at.invariant.known
