use Rattle.std.proofs.Common.{arith}
use Rattle.search_table.proofs.Cut.{cut-length}
use Rattle.search_table.proofs.rows.PackedRows.len.Goals as goal

pub returns : goal.returns
returns c =
    let r = c.args.self.now in
    let long = cut-length r.words.items 0 r.ends.items in
    let ok = r.ends.ok.0 in
    let is = c.len.ensures in
    omega (arith, long, ok, is)
