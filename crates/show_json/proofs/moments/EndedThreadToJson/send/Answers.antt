use Rattle.std.proofs.Common.{◌≡◌, ◌+◌, codes, [], ◌∷◌, refl, arith}
use Rattle.std.proofs.lemmas.Result.{on_ok_weaker}
use Rattle.show_json.specs.Json.{is_given}
use Rattle.show_json.specs.Sent.{count}
use Rattle.show_json.specs.Functions.{function_json}
use Rattle.show_json.specs.Moments.{ended_fields, waits_json}
use Rattle.show_json.proofs.Sent.{object_sent, count_given, count_some}
use Rattle.show_json.proofs.moments.EndedThreadToJson.send.Goals as goal

pub returns : goal.returns
returns g c =
    let t = c.args.self.now in
    let waits = is_given (codes "waits") waits_json t.waits ∷ [] in
    let n_functions = count_some (codes "functions") function_json t.functions.now waits in
    let n_waits = count_given (codes "waits") waits_json t.waits [] in
    let fields = ended_fields t in
    let all : 2 + c.some.result + c.given.result ≡ count fields = omega (arith, n_functions, n_waits) in
    on_ok_weaker c.end_map.result (object_sent fields _ _ _ _ _ all c.in_ok-begin_map.ensures (
      _,
      c.in_ok-put.ensures,
      (
        _,
        c.in_ok-put-2.ensures,
        (
          _,
          c.in_ok-put_some.ensures,
          (_, c.in_ok-put_if.ensures, refl),
        ),
      ),
    )) c.end_map.ensures
