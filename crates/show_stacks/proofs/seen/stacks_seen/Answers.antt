use Rattle.std.proofs.Common.{ℕ, ap}
use Rattle.std.specs.Global.{Vec}
use Rattle.show_stacks.proofs.Each.{has_each}
use Rattle.show_stacks.proofs.seen.stacks_seen.Goals as goal

pub returns-in-Ok-into_stacks-clause-run : goal.returns-in-Ok-into_stacks-clause-run
returns-in-Ok-into_stacks-clause-run c = (
  c.in-Ok-replay_watched.field-0,
  c.in-Ok-replay_watched.ensures.run,
  record {
    first = c.in-Ok.watch;
    last = c.replay_watched.new.watch;
    named = ap (λ (v : Vec ℕ). v.items) c.in-Ok.ensures.places;
    empty = c.in-Ok.ensures.calls;
    sees = c.in-Ok-replay_watched.ensures.seen;
    whole = c.in-Ok-into_stacks.ensures.0;
    filled = c.in-Ok-into_stacks.ensures.1;
  },
)

pub returns-in-Ok-into_stacks-clause-each : goal.returns-in-Ok-into_stacks-clause-each
returns-in-Ok-into_stacks-clause-each c =
    let run = returns-in-Ok-into_stacks-clause-run c in
    has_each c.args.module.now.parts c.args.record.now run.0 c.args.places.items c.in-Ok-into_stacks.stacks run.2
