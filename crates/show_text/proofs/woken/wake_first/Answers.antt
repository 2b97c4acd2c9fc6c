use Rattle.std.proofs.Common.{◌∙◌, refl}
use Rattle.show_text.proofs.Line.{past_none, past_next, woken_all, kept_all}
use Rattle.show_text.proofs.woken.wake_first.Goals as goal

pub loop-k-init : goal.loop-k-init
loop-k-init c = record {
  notify = refl;
  addr = refl;
  past = rw (c.in_ok-with_capacity.ensures.items)
      (past_none c.args.notify c.args.notified.addr c.args.notified.most c.args.wakes.now.items);
}

pub loop-k-preserved : goal.loop-k-preserved
loop-k-preserved c =
    let passed = c.in_ok-pass.ensures in
    record {
      notify = passed.same.0 ∙ c.loop-k.invariant.notify;
      addr = passed.same.1 ∙ c.loop-k.invariant.addr;
      past = past_next c.loop-k.waking c.pass.new.self c.args.notified.most c.args.wakes.now.items c.args.sleepers.now c.loop-k.k _
          c.loop-k.wakes.items c.pass.new.wakes.items c.loop-k-test.true passed.same passed.left passed.kept passed.wakes
          c.loop-k.invariant.past;
    }

pub returns : goal.returns
returns c =
    let past = c.loop-k.invariant in
    record {
      wakes = woken_all c.args.notify c.args.notified c.loop-k.waking.notify c.loop-k.waking.addr c.loop-k.waking.left c.loop-k.k
          c.args.wakes.now.items c.loop-k.wakes.items c.args.sleepers.now c.loop-k.waking.kept.items c.loop-k-test.false
          past.notify past.addr past.past;
      kept = kept_all c.args.notify c.args.notified c.loop-k.waking.notify c.loop-k.waking.addr c.loop-k.waking.left c.loop-k.k
          c.args.wakes.now.items c.loop-k.wakes.items c.args.sleepers.now c.loop-k.waking.kept.items c.loop-k-test.false
          past.notify past.addr past.past;
    }
