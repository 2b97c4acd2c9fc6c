use Rattle.std.proofs.Common.{All, sym, subst, arith}
use Rattle.std.proofs.lemmas.List.Elements.{All-push}
use Rattle.spawn_host.proofs.threads.spawnable_threads.Invariants.{Calls}
use Rattle.spawn_host.proofs.threads.spawnable_threads.Goals as goal

pub loop-preserved : goal.loop-preserved
loop-preserved c =
    let i = c.loop.invariant in
    let pushed = c.push_reserved.ensures in
    let P = Calls c.args.valid.now.parts c.thread_start-own.result c.args.fuel in record {
      count = omega (arith, pushed.len, i.count);
      room = omega (arith, pushed.capacity, i.room);
      calls = subst (All P) (sym pushed.items) (All-push P c.loop.threads.items c.in-Ok.thread i.calls c.in-Ok.ensures);
    }

pub returns : goal.returns
returns c =
    let s = c.thread_start-own.ensures.start in
    let i = c.loop.invariant in record {
      count = omega (arith, i.count, c.loop.threads.ok.0);
      own = c.thread_start-own.result;
      func_type = s.0;
      body = s.1;
      is_start = s.2;
      calls = λ k d lt. i.calls k d lt s.0 s.1 s.2.exports.function;
    }
