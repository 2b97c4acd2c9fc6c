use Rattle.std.proofs.Common.{arith}
use Rattle.show_text.specs.Woken.{woken_by}
use Rattle.show_text.proofs.Line.{line_next, wakes_next, notified_is, sleeper_is}
use Rattle.show_text.proofs.Starts.{are_wakes, starts_next}
use Rattle.show_text.proofs.woken.Wakes.new.Goals as goal

pub loop-at-preserved : goal.loop-at-preserved
loop-at-preserved c =
    let log = c.args.log.now in
    let contexts = c.args.contexts.now in
    let at = c.loop-at.at in
    let past = c.loop-at.invariant in
    let notified = notified_is log contexts at _ c.context_at-context.result c.notified_by.result c.loop-at-test.true
    c.context_at-context.ensures c.notified_by.ensures in
    let sleeper = sleeper_is log contexts at _ c.context_at-context.result c.sleeper_of.result c.loop-at-test.true
    c.context_at-context.ensures c.sleeper_of.ensures in
    record {
      lines = line_next log contexts at c.notified_by.result c.sleeper_of.result c.loop-at.asleep.sleepers.items
          c.wake.new.self.sleepers.items c.lay_down.new.self.sleepers.items notified sleeper past.lines c.in_ok-wake.ensures.kept
          c.in_ok-lay_down.ensures.sleepers;
      wakes = wakes_next log contexts at c.notified_by.result c.loop-at.asleep.sleepers.items c.loop-at.asleep.wakes.items
          c.wake.new.self.wakes.items c.lay_down.new.self.wakes.items notified past.lines past.wakes c.in_ok-wake.ensures.wakes
          c.in_ok-lay_down.ensures.wakes;
      starts = starts_next (woken_by log contexts) at c.len.result c.loop-at.asleep.wakes.items c.loop-at.starts.items
          c.push.new.self.items past.starts past.wakes (omega (arith, c.len.ensures, c.loop-at.asleep.wakes.ok.0)) c.in_ok-push.ensures.items;
    }

pub returns : goal.returns
returns c =
    let log = c.args.log.now in
    let contexts = c.args.contexts.now in
    let past = c.loop-at.invariant in
    are_wakes log contexts c.loop-at.at _ (omega (arith, c.loop-at-test.false, c.loop-at.auto.at-end)) past.wakes
    (starts_next (woken_by log contexts) c.loop-at.at c.len-2.result c.loop-at.asleep.wakes.items c.loop-at.starts.items
    c.push-2.new.self.items past.starts past.wakes (omega (arith, c.len-2.ensures, c.loop-at.asleep.wakes.ok.0)) c.in_ok-push-2.ensures.items)
