use Rattle.std.proofs.Common.{◌≡◌, ◌+◌, codes, [], ◌∷◌, refl, arith}
use Rattle.std.proofs.lemmas.Result.{on_ok_weaker}
use Rattle.show_json.specs.Json.{is}
use Rattle.show_json.specs.Sent.{count}
use Rattle.show_json.specs.Moments.{last_json, waits_fields}
use Rattle.show_json.proofs.Sent.{object_sent, count_given}
use Rattle.show_json.proofs.moments.WaitsForToJson.send.Goals as goal

pub returns : goal.returns
returns g c =
    let w = c.args.self.now in
    let last = is (codes "last_notify") (last_json w.last_notify) ∷ [] in
    let n_other = count_given (codes "other_write") last_json w.other_write last in
    let fields = waits_fields w in
    let all : 5 + c.given.result ≡ count fields = omega (arith, n_other) in
    on_ok_weaker c.end_map.result (object_sent fields _ _ _ _ _ all c.in_ok-begin_map.ensures (
      _,
      c.in_ok-put.ensures,
      (
        _,
        c.in_ok-put-2.ensures,
        (
          _,
          c.in_ok-put-3.ensures,
          (
            _,
            c.in_ok-put-4.ensures,
            (_, c.in_ok-put_if.ensures, (_, c.in_ok-put-5.ensures, refl)),
          ),
        ),
      ),
    )) c.end_map.ensures
