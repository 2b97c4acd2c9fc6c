use Rattle.std.proofs.Common.{arith}
use Rattle.search_table.proofs.Cut.{rows-more}
use Rattle.search_table.proofs.rows.PackedRows.push.Goals as goal

pub returns-clause-rows : goal.returns-clause-rows
returns-clause-rows c =
    let r = c.args.self.now in
    let words = c.extend_from_slice.new.self in
    let ok = words.ok.0 in
    let is = c.len-end.ensures in
    let more = rows-more r.words.items words.items c.args.row.now r.ends.items c.push.new.self.items c.len-end.result c.requires
    c.in_ok-extend_from_slice.ensures.items (omega (arith, ok, is)) c.in_ok-push.ensures.items in
    more.0

pub returns-clause-are : goal.returns-clause-are
returns-clause-are c =
    let r = c.args.self.now in
    let words = c.extend_from_slice.new.self in
    let ok = words.ok.0 in
    let is = c.len-end.ensures in
    let more = rows-more r.words.items words.items c.args.row.now r.ends.items c.push.new.self.items c.len-end.result c.requires
    c.in_ok-extend_from_slice.ensures.items (omega (arith, ok, is)) c.in_ok-push.ensures.items in
    more.1
