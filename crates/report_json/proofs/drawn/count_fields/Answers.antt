use Rattle.std.proofs.Common.{◌≡◌, [], ap, ◌∙◌, arith}
use Rattle.std.specs.Int.{from_bool}
use Rattle.report_json.specs.Drawn.{has_some}
use Rattle.report_json.proofs.Bytes.{count_bytes}
use Rattle.report_json.proofs.drawn.count_fields.Goals as goal

pub returns : goal.returns
returns c =
    let bytes = c.args.ending.now.bytes in
    let last = count_bytes (has_some bytes) bytes [] in
    let wanted : c.has_some.result ≡ has_some bytes = c.has_some.ensures ∙ ap has_some c.bytes.ensures in
    let counted = ap from_bool wanted in
    omega (arith, last, counted)
