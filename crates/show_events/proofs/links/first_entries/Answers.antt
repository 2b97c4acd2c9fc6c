use Rattle.std.proofs.Common.{◌∙◌, ℕ, Option, None, length, ap, subst, sym}
use Rattle.std.proofs.lemmas.List.{length-replicate, take_at}
use Rattle.types.specs.declared.limits.TheConstants.{MOST_THREADS}
use Rattle.show_events.specs.Links.{noted_first}
use Rattle.show_events.proofs.Firsts.{AreSeen, seen_first, seen_next, seen_all}
use Rattle.show_events.proofs.links.first_entries.Goals as goal

pub loop-at-init : goal.loop-at-init
loop-at-init c =
    let made = c.in_ok-firsts.ensures in
    record {
      long = ap length made ∙ length-replicate {A = Option ℕ} MOST_THREADS None;
      seen = subst (AreSeen c.args.log.now 0) (sym made) (seen_first c.args.log.now MOST_THREADS);
    }

pub loop-at-preserved : goal.loop-at-preserved
loop-at-preserved c =
    let at = c.loop-at.at in
    let back = take_at c.note_first.new.firsts _ c.loop-at.firsts.len (c.note_first.auto.firsts ∙ c.deref_mut.ensures.len) in
    let noted = c.note_first.ensures ∙ ap (noted_first _ at) c.deref_mut.ensures.value in
    record {
      long = ap length back ∙ (c.note_first.auto.firsts ∙ (ap length c.deref_mut.ensures.value ∙ c.loop-at.invariant.long));
      seen = seen_next c.args.log.now at _ _ _ c.loop-at-test.true c.loop-at.invariant.seen (back ∙ noted);
    }

pub returns : goal.returns
returns c = seen_all c.args.log.now c.loop-at.at c.loop-at.firsts.items c.loop-at-test.false c.loop-at.invariant.long
    c.loop-at.invariant.seen
