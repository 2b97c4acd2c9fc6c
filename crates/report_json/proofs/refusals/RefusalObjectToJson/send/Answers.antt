use Rattle.std.proofs.Common.{◌≡◌, ◌+◌, codes, [], refl, ap, arith}
use Rattle.std.proofs.lemmas.Result.{on_ok_weaker}
use Rattle.show_json.specs.Sent.{count}
use Rattle.show_json.specs.Json.{number, text}
use Rattle.report_json.specs.Refusals.{refusal_fields}
use Rattle.show_json.proofs.Sent.{object_sent, count_some, same_field}
use Rattle.report_json.proofs.refusals.RefusalObjectToJson.send.Goals as goal

pub returns : goal.returns
returns g c =
    let refusal = c.args.self.now in
    let n_hints = count_some (codes "hints") (λ hint. text hint.now) refusal.hints.now [] in
    let fields = refusal_fields refusal in
    let all : 2 + c.some.result ≡ count fields = omega (arith, n_hints) in
    on_ok_weaker c.end_map.result (object_sent fields _ _ _ _ _ all c.in_ok-begin_map.ensures
    (_, same_field (codes "status") _ _ _ _ (ap number c.status.ensures) c.in_ok-put.ensures, (_, c.in_ok-put-2.ensures, (_, c.in_ok-put_some.ensures, refl))))
    c.end_map.ensures
