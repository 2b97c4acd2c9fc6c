use Rattle.std.proofs.Common.{◌≡◌, ◌+◌, codes, [], ◌∷◌, refl, ap, arith}
use Rattle.std.proofs.lemmas.Result.{on_ok_weaker}
use Rattle.show_json.specs.Json.{number}
use Rattle.show_json.specs.Sent.{count, given}
use Rattle.show_json.specs.Moments.{sleeper_fields, timeout_of}
use Rattle.show_json.proofs.Sent.{object_sent, count_given, same_given}
use Rattle.show_json.proofs.moments.SleeperToJson.send.Goals as goal

pub returns : goal.returns
returns g c =
    let s = c.args.self.now in
    let n_timeout = count_given (codes "timeout") number (timeout_of s.timeout) [] in
    let given_is = ap given c.timeout_of-timeout.ensures in
    let fields = sleeper_fields s in
    let all : 2 + c.given.result ≡ count fields = omega (arith, n_timeout, given_is) in
    on_ok_weaker c.end_map.result (object_sent fields _ _ _ _ _ all c.in_ok-begin_map.ensures (
      _,
      c.in_ok-put.ensures,
      (
        _,
        c.in_ok-put-2.ensures,
        (_, same_given (codes "timeout") number _ _ _ _ c.timeout_of-timeout.ensures c.in_ok-put_if.ensures, refl),
      ),
    )) c.end_map.ensures
