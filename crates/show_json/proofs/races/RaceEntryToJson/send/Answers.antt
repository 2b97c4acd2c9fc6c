use Rattle.std.proofs.Common.{◌≡◌, ◌+◌, codes, [], refl, arith}
use Rattle.std.proofs.lemmas.Result.{on_ok_weaker}
use Rattle.show_json.specs.Sent.{count}
use Rattle.show_json.specs.Places.{place_json}
use Rattle.show_json.specs.Rows.{entry_fields}
use Rattle.show_json.proofs.Sent.{object_sent, count_given}
use Rattle.show_json.proofs.races.RaceEntryToJson.send.Goals as goal

pub returns : goal.returns
returns g c =
    let entry_of = c.args.self.now in
    let n_at = count_given (codes "at") place_json entry_of.row.place [] in
    let fields = entry_fields entry_of in
    let all : 6 + c.given.result ≡ count fields = omega (arith, n_at) in
    on_ok_weaker c.end_map.result (object_sent fields _ _ _ _ _ all c.in_ok-begin_map.ensures (
      _,
      c.in_ok-put.ensures,
      (
        _,
        c.in_ok-put-2.ensures,
        (_, c.in_ok-put-3.ensures, (_, c.in_ok-put-4.ensures, (_, c.in_ok-put-5.ensures, (_, c.in_ok-put-6.ensures, (_, c.in_ok-put_if.ensures, refl))))),
      ),
    ))
    c.end_map.ensures
