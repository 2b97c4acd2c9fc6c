use Rattle.std.proofs.Common.{◌≡◌, ◌+◌, codes, [], ◌∷◌, refl, arith}
use Rattle.std.proofs.lemmas.Result.{on_ok_weaker}
use Rattle.show_json.specs.Json.{is_given}
use Rattle.show_json.specs.Sent.{count}
use Rattle.show_json.specs.Places.{offset_json, source_json, place_fields}
use Rattle.show_json.proofs.Sent.{object_sent, count_given}
use Rattle.show_json.proofs.places.PlaceObjectToJson.send.Goals as goal

pub returns : goal.returns
returns g c =
    let place = c.args.self.now in
    let last = is_given (codes "source") source_json place.source ∷ [] in
    let offset = count_given (codes "offset") offset_json place.offset last in
    let source = count_given (codes "source") source_json place.source [] in
    let all : 1 + c.given.result + c.given-2.result ≡ count (place_fields place) = omega (arith, offset, source) in
    on_ok_weaker c.end_map.result (object_sent (place_fields place) _ _ _ _ _ all c.in_ok-begin_map.ensures
    (_, c.in_ok-put.ensures, (_, c.in_ok-put_if.ensures, (_, c.in_ok-put_if-2.ensures, refl)))) c.end_map.ensures
