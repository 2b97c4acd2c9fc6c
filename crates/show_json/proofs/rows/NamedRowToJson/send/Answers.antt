use Rattle.std.proofs.Common.{◌≡◌, ◌+◌, codes, [], ◌∷◌, refl, arith}
use Rattle.std.proofs.lemmas.Result.{on_ok_weaker}
use Rattle.show_json.specs.Json.{is_given, string_json}
use Rattle.show_json.specs.Sent.{count}
use Rattle.show_json.specs.Places.{place_json}
use Rattle.show_json.specs.Rows.{row_fields}
use Rattle.show_json.proofs.Sent.{object_sent, count_given}
use Rattle.show_json.proofs.rows.NamedRowToJson.send.Goals as goal

pub returns : goal.returns
returns g c =
    let named = c.args.self.now in
    let last = is_given (codes "at") place_json named.row.place ∷ [] in
    let n_data = count_given (codes "data") string_json named.name last in
    let n_at = count_given (codes "at") place_json named.row.place [] in
    let fields = row_fields named in
    let all : 3 + c.given.result + c.given-2.result ≡ count fields = omega (arith, n_data, n_at) in
    on_ok_weaker c.end_map.result (object_sent fields _ _ _ _ _ all c.in_ok-begin_map.ensures (
      _,
      c.in_ok-put.ensures,
      (
        _,
        c.in_ok-put-2.ensures,
        (
          _,
          c.in_ok-put-3.ensures,
          (
            _,
            c.in_ok-put_if.ensures,
            (_, c.in_ok-put_if-2.ensures, refl),
          ),
        ),
      ),
    )) c.end_map.ensures
