use Rattle.std.proofs.Common.{◌≡◌, ◌+◌, codes, [], ◌∷◌, refl, ap, arith}
use Rattle.std.proofs.lemmas.Result.{on_ok_weaker}
use Rattle.show_json.specs.Sent.{count}
use Rattle.std.proofs.Common.{take, nat_lt}
use Rattle.show_json.specs.Json.{number, text, are_some}
use Rattle.report_json.specs.Ends.{run_fields}
use Rattle.report_json.specs.Said.{said_field, said_json}
use Rattle.show_json.proofs.Sent.{object_sent, count_some, same_field}
use Rattle.report_json.proofs.Bytes.{count_bytes, same_bytes}
use Rattle.report_json.proofs.ends.RunEndObjectToJson.send.Goals as goal

pub returns : goal.returns
returns g c =
    let run = c.args.self.now in
    let n_bytes = count_bytes (nat_lt 0 run.dump) (take run.dump run.bytes.now)
    (said_field run.said.now ∷ are_some (codes "hints") (λ hint. text hint.now) run.hints.now ∷ []) in
    let n_said = count_some (codes "said") said_json run.said.now (are_some (codes "hints") (λ hint. text hint.now) run.hints.now ∷ []) in
    let n_hints = count_some (codes "hints") (λ hint. text hint.now) run.hints.now [] in
    let fields = run_fields run in
    let all : 3 + c.from.result + c.some.result + c.some-2.result ≡ count fields = omega (arith, n_bytes, n_said, n_hints) in
    on_ok_weaker c.end_map.result (object_sent fields _ _ _ _ _ all c.in_ok-begin_map.ensures (
      _,
      same_field (codes "status") _ _ _ _ (ap number c.status_of.ensures) c.in_ok-put.ensures,
      (
        _,
        c.in_ok-put-2.ensures,
        (
          _,
          c.in_ok-put-3.ensures,
          (
            _,
            same_bytes _ _ _ _ _ _ refl c.first_bytes.ensures c.in_ok-put_bytes.ensures,
            (_, c.in_ok-put_said.ensures, (_, c.in_ok-put_some.ensures, refl)),
          ),
        ),
      ),
    )) c.end_map.ensures
