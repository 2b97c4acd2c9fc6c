use Rattle.std.proofs.Common.{◌≡◌, ◌+◌, codes, [], ◌∷◌, refl, arith}
use Rattle.std.proofs.lemmas.Result.{on_ok_weaker}
use Rattle.show_json.specs.Json.{is_given, string_json}
use Rattle.show_json.specs.Sent.{count}
use Rattle.show_json.specs.Functions.{number_json, value_fields}
use Rattle.show_json.proofs.Sent.{object_sent, count_given}
use Rattle.show_json.proofs.functions.ToldValueToJson.send.Goals as goal

pub returns : goal.returns
returns g c =
    let v = c.args.self.now in
    let last = is_given (codes "points_to") string_json v.target ∷ [] in
    let n_value = count_given (codes "value") number_json v.number last in
    let n_target = count_given (codes "points_to") string_json v.target [] in
    let fields = value_fields v in
    let all : 1 + c.given.result + c.given-2.result ≡ count fields = omega (arith, n_value, n_target) in
    on_ok_weaker c.end_map.result (object_sent fields _ _ _ _ _ all c.in_ok-begin_map.ensures
    (_, c.in_ok-put.ensures, (_, c.in_ok-put_if.ensures, (_, c.in_ok-put_if-2.ensures, refl)))) c.end_map.ensures
