use Rattle.std.proofs.Common.{List, sym, subst}
use Rattle.types.specs.declared.event.Entry.{Entry}
use Rattle.replay_walk.specs.Walked.{WalkCame}
use Rattle.search_scheduled.proofs.course.Course.new.Goals as goal

pub returns-clause-begins : goal.returns-clause-begins
returns-clause-begins g c = λ r ready most budget limit. record {
  walk = subst (λ (l : List Entry). WalkCame g.T.TakesTurns.meaning r l c.new.result) (sym c.new-2.ensures.items) (c.new.ensures r ready most);
  budget = budget;
  limit = limit;
}
