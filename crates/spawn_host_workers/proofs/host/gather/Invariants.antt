use Rattle.std.proofs.Common.{map, take}
use Rattle.spawn_host_workers.specs.Gated.{Gathers, passage_of}
use Rattle.spawn_host_workers.proofs.host.gather.Given as goal

abbrev pub invariant-loop-end : goal.invariant-loop-end
invariant-loop-end g l = Gathers g.G.Gate (map passage_of (take l.end-index l.ends)) l.initial.gate l.gate
