use Rattle.std.proofs.Common.{List, map, subst}
use Rattle.std.proofs.lemmas.List.{take_all}
use Rattle.spawn_host_workers.specs.Gated.{Gathers, passage_of}
use Rattle.spawn_host_workers.proofs.Gathering.{gathers_more}
use Rattle.spawn_host_workers.proofs.host.gather.Goals as goal

pub loop-end-preserved : goal.loop-end-preserved
loop-end-preserved g c =
    gathers_more g.G.Gate c.args.ends.now c.loop-end.end-index c.end-item.result c.args.gate.now c.loop-end.gate c.gather_if.new.gate
    c.loop-end-test.true c.end-item.is c.loop-end.invariant c.gather_if.ensures

pub returns : goal.returns
returns g c =
    subst (λ (l : List _). Gathers g.G.Gate (map passage_of l) c.args.gate.now c.loop-end.gate)
    (take_all c.loop-end.end-index c.args.ends.now c.loop-end-test.false) c.loop-end.invariant
