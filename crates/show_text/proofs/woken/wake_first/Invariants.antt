use Rattle.std.proofs.Common.{◌≡◌, take}
use Rattle.show_text.proofs.Line.{IsPast}
use Rattle.show_text.proofs.woken.wake_first.Given as goal

abbrev pub invariant-loop-k : goal.invariant-loop-k
invariant-loop-k l = record {
  notify : l.waking.notify ≡ l.fn.notify;
  addr : l.waking.addr ≡ l.fn.notified.addr;
  past : IsPast l.waking.notify l.waking.addr l.fn.notified.most l.initial.wakes.items (take l.k l.sleepers) l.waking.left
      l.waking.kept.items l.wakes.items;
}
