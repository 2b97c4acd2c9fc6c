use Rattle.std.proofs.Common.{◌≡◌, ◌+◌, arith}
use Rattle.std.proofs.lemmas.Result.{on_ok_weaker}
use Rattle.show_json.specs.Sent.{count}
use Rattle.report_json.specs.Drawn.{met_fields}
use Rattle.show_json.proofs.Sent.{object_sent}
use Rattle.report_json.proofs.drawn.MetEndingToJson.send.Goals as goal

pub returns : goal.returns
returns g c =
    let fields = met_fields c.args.self.now in
    let all : 3 + c.count_fields.result ≡ count fields = omega (arith) in
    on_ok_weaker c.end_map.result (object_sent fields _ _ _ _ _ all c.in_ok-begin_map.ensures
    (_, c.in_ok-put.ensures, (_, c.in_ok-put-2.ensures, (_, c.in_ok-put-3.ensures, c.in_ok-put_ending.ensures)))) c.end_map.ensures
