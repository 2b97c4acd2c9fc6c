use Rattle.std.proofs.Common.{IsTrue, false}
use Rattle.search_finds.proofs.InRow.{drawn_of}
use Rattle.search_finds.proofs.Noting.{noted_none}
use Rattle.search_finds.proofs.finding.first_judged.Goals as goal

pub returns-in_default-clause-noted : goal.returns-in_default-clause-noted
returns-in_default-clause-noted g c =
    let says = g.J.Judges.judges c.args.judge.now c.args.request.now in
    let s = c.args.sought.now in
    noted_none (λ run made. IsTrue s.stops → says made false) c.args.request.now s c.new-table.result c.new-table.ensures.0 c.new-table.ensures.1

pub returns-clause-drawn : goal.returns-clause-drawn
returns-clause-drawn g c =
    drawn_of c.args.request.now c.args.sought.now c.in-Some.entries (rw c.in-Some.is at c.in_ok-told.ensures.points) c.in_ok-searched.searched.halt
    c.in_ok-searched.ensures.drawn
