use Rattle.std.proofs.Common.{length, rules, ◌≡◌, ◌+◌, codes, refl, ap, arith}
use Rattle.std.proofs.lemmas.Result.{on_ok_weaker}
use Rattle.show_json.specs.Sent.{count}
use Rattle.show_json.specs.Json.{number, text}
use Rattle.report_json.specs.Complete.{liveness_fields}
use Rattle.show_json.proofs.Sent.{object_sent, same_field}
use Rattle.report_json.proofs.complete.LivenessObjectToJson.send.Goals as goal

pub returns : goal.returns
returns g c =
    let fields = liveness_fields c.args.self.now.0.now in
    let len : c.len.result ≡ length c.args.self.now.0.now.endless.items = search rules in
    let all : 2 + c.cycles.result ≡ count fields = omega (arith) in
    on_ok_weaker c.end_map.result (object_sent fields _ _ _ _ _ all c.in_ok-begin_map.ensures (
      _,
      same_field (codes "endless") _ _ _ _ (ap number len) c.in_ok-put.ensures,
      (_, same_field (codes "fair_runs") _ _ _ _ (ap text c.fair_of.ensures) c.in_ok-put-2.ensures, (_, c.in_ok-put_cycle.ensures, refl)),
    )) c.end_map.ensures
