use Rattle.std.proofs.Common.{Option, ℕ, sym, subst}
use Rattle.std.specs.Prelude.{string_bytes}
use Rattle.show_race_words.specs.Written.{IsNextText}
use Rattle.show_race_words.proofs.Telling.{next_by}
use Rattle.show_race_words.proofs.ordering.next_text.Goals as goal

pub returns : goal.returns
returns c = subst (λ (o : Option ℕ). IsNextText c.args.shown c.args.story.now c.args.race c.args.second o (string_bytes c.in_ok-some.some))
    (sym c.in-Some.is)
    (next_by c.args.shown c.args.story.now c.args.race c.args.second c.in-Some.write c.as_slice.result.now c.act_at-act.result.now _ _
    c.as_slice.ensures c.act_at-act.ensures c.in_ok-spot.ensures c.in_ok-some.ensures.ok)
