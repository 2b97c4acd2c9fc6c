use Rattle.std.proofs.Common.{◌≡◌, ◌+◌, ◌++◌, ◌∷◌, [], length, sym, ◌∙◌, ap, subst, arith, length-append}
use Rattle.std.specs.Prelude.{option_to_list, IfSome}
use Rattle.std.proofs.lemmas.List.Elements.{All-pop}
use Rattle.schedule_program.specs.Threads.{IsPrepared}
use Rattle.schedule_program.specs.Runs.{AreThreads}
use Rattle.test_schedules.proofs.Filling.{are_pushed}
use Rattle.test_schedules.proofs.opening.add_absent.Goals as goal

pub absent-requires : goal.absent-requires
absent-requires g c =
    let m = g.T.TakesTurns in
    let r = c.requires.prepared in
    let both = All-pop (IsPrepared m.meaning r.0) c.loop-thread.spawned.items c.pop.new.self.items c.pop.result
    c.pop.ensures.items (c.loop-thread.invariant.prepared r.0 r.1) in
    (r.0, subst (λ o. IfSome o (IsPrepared m.meaning r.0)) c.in-Some.is both.1)

pub loop-thread-preserved : goal.loop-thread-preserved
loop-thread-preserved g c =
    let m = g.T.TakesTurns in
    let i = c.loop-thread.invariant in
    let popped : length c.loop-thread.spawned.items ≡ length c.pop.new.self.items + 1 =
    ap length c.pop.ensures.items ∙ (ap (λ o. length (c.pop.new.self.items ++ option_to_list o)) c.in-Some.is
    ∙ length-append c.pop.new.self.items (c.in-Some.thread ∷ [])) in
    let pushed : length c.push_reserved.new.self.items ≡ length c.loop-thread.threads.items + 1 =
    ap length c.push_reserved.ensures.items ∙ length-append c.loop-thread.threads.items (c.absent.result ∷ []) in record {
      room = omega (arith, i.room, c.push_reserved.ensures.len, c.push_reserved.ensures.capacity, popped);
      count = omega (arith, i.count, popped, pushed);
      more = omega (arith, i.more, pushed);
      prepared = λ s all. (All-pop (IsPrepared m.meaning s) c.loop-thread.spawned.items c.pop.new.self.items c.pop.result
          c.pop.ensures.items (i.prepared s all)).0;
      threads = λ s f all are absent.
          let both = All-pop (IsPrepared m.meaning s) c.loop-thread.spawned.items c.pop.new.self.items c.pop.result c.pop.ensures.items (i.prepared s all) in
          let ready = subst (λ o. IfSome o (IsPrepared m.meaning s)) c.in-Some.is both.1 in
          subst (λ xs. AreThreads m.meaning s xs f) (sym c.push_reserved.ensures.items)
          (are_pushed m.meaning s c.loop-thread.threads.items c.absent.result f (i.threads s f all are absent)
          (c.absent.ensures s ready) (absent (length c.loop-thread.threads.items) i.more));
    }
