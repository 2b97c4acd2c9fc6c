use Rattle.std.proofs.Common.{◌≡◌, ℕ, List, vec_len, length, inr, refl, sym, ◌∙◌, ap, subst, arith, slice_get, Some}
use Rattle.std.proofs.lemmas.Result.{err_from_is_err_and}
use Rattle.std.specs.Global.{Vec}
use Rattle.types.specs.declared.event.Entry.{Entry}
use Rattle.schedule_threads.specs.Shared.{act_of}
use Rattle.replay_walk.specs.Walked.{HasThreads, WalkTakes}
use Rattle.replay_walk.specs.declared.stage.Stage.{Stage}
use Rattle.search_scheduled.specs.Settled.{KeepsStage}
use Rattle.search_scheduled.specs.declared.course.Course.{Course}
use Rattle.interp_trait.specs.declared.turn.Turn.{Turn}
use Rattle.search_scheduled.specs.Settled.{SettlesWhereGoing}
use Rattle.search_scheduled.specs.Heard.IsHeard.{on}
use Rattle.replay_walk.specs.Standing.{SettlesThread}
use Rattle.search_scheduled.proofs.Courses.{stands_at, came_on}
use Rattle.search_scheduled.proofs.Nowhere.{not_gone}
use Rattle.search_scheduled.proofs.course.Course.step.Goals as goal

len_is : (v : Vec Entry) → vec_len v ≡ length v.items
len_is v = omega (arith, v.ok)

pub go_on-requires : goal.go_on-requires
go_on-requires g c =
    let m = g.T.TakesTurns.meaning in
    let r = c.requires.0 in let came = c.requires.1 in
    let s = stands_at m r c.args.self.now came in (
      s,
      c.in_ok-turn.ensures.settled s came.walk.standing,
      sym c.settle_going.ensures.memory,
      subst (λ (k : ℕ). HasThreads r.program k) (sym c.settle_going.ensures.count) came.walk.count,
    )

pub returns-clause-goes : goal.returns-clause-goes
returns-clause-goes g c =
    let m = g.T.TakesTurns.meaning in
    let old = c.args.self.now in
    let e = c.in-Some.entry in
    let new : Course g.row.T.Denot = record { walk = c.go_on.new.walk; log = c.push.new.self; fuel = old.fuel; limit = old.limit } in
    record {
      runs = λ r came.
          let s = stands_at m r old came in
          let taken = c.in-Some.ensures.taken e refl s (c.in_ok-turn.ensures.settled s came.walk.standing)
          (sym c.settle_going.ensures.memory) in
          came_on m r old new came e
          (subst (λ (k : ℕ). WalkTakes m s old.limit k e.thread (act_of e) c.go_on.new.walk) (c.len.ensures ∙ len_is old.log) taken)
          (c.go_on.ensures.count ∙ c.settle_going.ensures.count) c.in_ok-push.ensures.items refl refl;
      thread = c.in-Some.ensures.thread;
      log = c.in_ok-push.ensures.items;
      stage = subst (λ (s : Stage). KeepsStage e.event s c.go_on.new.walk.stage) c.settle_going.ensures.stage c.in-Some.ensures.kept;
    }

pub returns-in_err-turn-clause-none : goal.returns-in_err-turn-clause-none
returns-in_err-turn-clause-none g c =
    let p = err_from_is_err_and c.from_residual.result c.from_residual.ensures.1 in
    rw (p.1, p.2) (λ same may. absurd (not_gone g.T.TakesTurns.meaning c.requires.0 c.args.self.now c.args.n c.requires.1 may
    (c.in_err-turn.ensures.gone same)))

pub returns-in_default-clause-none : goal.returns-in_default-clause-none
returns-in_default-clause-none g c = λ same may. record {
  settled = c.settle_going.new.walk;
  waits = subst (λ (t : Turn). SettlesWhereGoing g.T.TakesTurns.meaning c.args.n c.args.self.now.walk t c.settle_going.new.walk)
      (c.in_default.ensures.none refl) c.in_ok-turn.ensures.settled;
}

pub returns-clause-ear : goal.returns-clause-ear
returns-clause-ear g c =
    let m = g.T.TakesTurns.meaning in
    let old = c.args.self.now in
    let e = c.in-Some.entry in
    let new : Course g.row.T.Denot = record { walk = c.go_on.new.walk; log = c.push.new.self; fuel = old.fuel; limit = old.limit } in
    let settled = c.settle_going.new.walk.threads.items in
    let by : e.thread ≡ c.args.n = c.in-Some.ensures.thread in
    let s = stands_at m c.requires.0 old c.requires.1 in
    let there = (c.in_ok-turn.ensures.settled s (c.requires.1).walk.standing).on in
    λ first v h. on old c.args.ear.now new c.hear_at.new.ear h (record {
      runs = (returns-clause-goes g c).runs;
      entry = e;
      log = c.in_ok-push.ensures.items;
      heard = inr (record {
        turn = c.in_ok-turn.turn;
        settled = settled;
        settles = subst (λ (k : ℕ). SettlesThread m old.walk.threads.items k c.in_ok-turn.turn settled) (sym by)
            c.in_ok-turn.ensures.settles;
        thread = there.thread;
        at = subst (λ (k : ℕ). slice_get settled k ≡ Some there.thread) (sym by) there.at;
        heard = c.in_ok-hear_at.ensures.heard there.thread
            (ap (λ (l : List g.row.T.Denot). slice_get l c.args.n) c.deref.ensures.value ∙ there.at);
        made = c.in-Some.ensures.made;
      });
    })
