use Rattle.std.proofs.Common.{◌≡◌, arith}
use Rattle.std.proofs.lemmas.Result.{on_ok_weaker}
use Rattle.show_json.specs.Sent.{count}
use Rattle.show_json.proofs.Sent.{object_sent}
use Rattle.report_json.specs.Drawn.{ending_fields}
use Rattle.report_json.proofs.drawn.send_ending.Goals as goal

pub returns : goal.returns
returns g c =
    let fields = ending_fields c.args.ending.now in
    let all : c.count_fields.result ≡ count fields = omega (arith) in
    on_ok_weaker c.end_map.result (object_sent fields _ _ _ _ _ all c.in_ok-begin_map.ensures
    c.in_ok-put_ending.ensures) c.end_map.ensures
