use Rattle.std.proofs.Common.{◌≡◌, ◌+◌, codes, [], refl, ap, arith}
use Rattle.std.proofs.lemmas.Result.{on_ok_weaker}
use Rattle.show_json.specs.Sent.{count}
use Rattle.show_json.specs.Json.{truth}
use Rattle.show_json.specs.Rows.{write_json, pair_fields}
use Rattle.show_json.proofs.Sent.{object_sent, count_given, same_field}
use Rattle.show_json.proofs.races.RacePairToJson.send.Goals as goal

pub returns : goal.returns
returns g c =
    let pair = c.args.self.now in
    let n_next = count_given (codes "next_write") write_json pair.next_write [] in
    let fields = pair_fields pair in
    let all : 4 + c.given.result ≡ count fields = omega (arith, n_next) in
    on_ok_weaker c.end_map.result (object_sent fields _ _ _ _ _ all c.in_ok-begin_map.ensures (
      _,
      same_field (codes "mixed") _ _ _ _ (ap truth c.both-is_mixed.ensures) c.in_ok-put.ensures,
      (_, c.in_ok-put-2.ensures, (_, c.in_ok-put-3.ensures, (_, c.in_ok-put-4.ensures, (_, c.in_ok-put_if.ensures, refl)))),
    )) c.end_map.ensures
