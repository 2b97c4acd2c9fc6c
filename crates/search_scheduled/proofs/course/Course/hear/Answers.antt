use Rattle.std.proofs.Common.{List, length, refl, [], ◌∷◌, Some, slice_get, inl, inr, ap, ◌∙◌}
use Rattle.types.specs.declared.event.Entry.{Entry}
use Rattle.types.specs.declared.event.Event.TheVariants as events
use Rattle.types.specs.declared.event.Reply.TheVariants as replies
use Rattle.search_scheduled.proofs.Courses.{stands_at, came_on}
use Rattle.search_scheduled.specs.Heard.IsHeard.{on}
use Rattle.search_scheduled.proofs.Listening.{due_there}
use Rattle.search_scheduled.proofs.course.Course.hear.Goals as goal

pub returns-in_ok-push-clause-heard : goal.returns-in_ok-push-clause-heard
returns-in_ok-push-clause-heard g c =
    let m = g.T.TakesTurns.meaning in
    let old = c.args.self.now in
    let e : Entry = record { thread = c.args.n; event = events.Told c.in-Some.answer; reply = replies.Done } in
    record {
      runs = λ r came. came_on m r old _ came e
          (c.in-Some.ensures.heard c.in-Some.answer refl (stands_at m r old came) old.limit (length old.log.items) came.walk.standing refl)
          c.in-Some.ensures.count c.in_ok-push.ensures.items refl refl;
      answers = e ∷ [];
      own = inr (e, (c.in-Some.answer, refl), refl);
      log = c.in_ok-push.ensures.items;
      queue = c.in-Some.ensures.queue;
    }

pub returns-in_ok-push-clause-ear : goal.returns-in_ok-push-clause-ear
returns-in_ok-push-clause-ear g c =
    let m = g.T.TakesTurns.meaning in
    let old = c.args.self.now in
    let e : Entry = record { thread = c.args.n; event = events.Told c.in-Some.answer; reply = replies.Done } in
    let r = c.requires.0 in let came = c.requires.1 in
    let taken = c.in-Some.ensures.heard c.in-Some.answer refl (stands_at m r old came) old.limit (length old.log.items)
    came.walk.standing refl in
    let x = due_there m (stands_at m r old came) old.walk.threads.items old.walk.stage.queue old.walk.stage.started
    old.walk.stage.ends c.args.n c.in-Some.answer came.walk.standing taken.walks.0 in
    λ first v h. on old c.args.ear.now _ c.hear_at.new.ear h (record {
      runs = (returns-in_ok-push-clause-heard g c).runs;
      entry = e;
      log = c.in_ok-push.ensures.items;
      heard = inl (record {
        answer = (c.in-Some.answer, refl);
        thread = x.0;
        at = x.1;
        heard = c.in_ok-hear_at.ensures.heard x.0
            (ap (λ (l : List g.row.T.Denot). slice_get l c.args.n) c.deref.ensures.value ∙ x.1);
      });
    })

pub returns-then-is_none-clause-ear : goal.returns-then-is_none-clause-ear
returns-then-is_none-clause-ear g c = λ first v h. h
