use Rattle.std.proofs.Common.{arith, ◌<◌, length}
use Rattle.std.proofs.lemmas.List.Elements.{All-more}
use Rattle.search_graph.specs.Graph.{IsMarked}
use Rattle.search_graph.proofs.Marks.{past}
use Rattle.search_graph.proofs.ranks.all_are_marked.Goals as goal

pub loop-m-preserved : goal.loop-m-preserved
loop-m-preserved c =
    let within : c.loop-m.m-index < length c.args.moves.now = omega arith in
    All-more (λ m. IsMarked c.args.marks.now m.from) c.args.moves.now c.loop-m.m-index _ within c.loop-m.invariant c.if-not-marks-m.false

pub returns-clause-all : goal.returns-clause-all
returns-clause-all c _ = past (λ m. IsMarked c.args.marks.now m.from) c.loop-m.m-index c.args.moves.now (omega arith) c.loop-m.invariant
