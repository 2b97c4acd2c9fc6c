use Rattle.std.proofs.Common.{List, Some, subst}
use Rattle.types.specs.declared.event.Entry.{Entry}
use Rattle.show_race_words.specs.Starts.{IsStart}
use Rattle.show_race_words.proofs.starts.start_text.Goals as goal

pub returns : goal.returns
returns c = (
  Some c.in-Some.start,
  subst (λ (l : List Entry). IsStart l c.args.story.now c.args.thread (Some c.in-Some.start)) c.as_slice.ensures c.in-Some.ensures,
  (_, c.in_ok-spot.ensures, c.in_ok-text.ensures.ok),
)
