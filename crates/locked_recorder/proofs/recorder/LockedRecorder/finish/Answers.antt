use Rattle.std.proofs.Common.{List, sym, subst, ◌∙◌}
use Rattle.std.specs.Prelude.{slice_index_or}
use Rattle.types.specs.declared.event.Entry.{Entry}
use Rattle.locked_recorder.specs.Promises.{Begins}
use Rattle.locked_recorder.proofs.recorder.LockedRecorder.finish.Goals as goal

pub returns-clause-seats : goal.returns-clause-seats
returns-clause-seats g c =
    λ k d h. subst (λ (l : List Entry). Begins (slice_index_or c.args.seats.items k d).caller l)
    (sym (c.finish.ensures.log ∙ c.check_all.ensures.same)) (c.check_all.ensures.begins k d h)
