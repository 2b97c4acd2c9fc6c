use Rattle.std.proofs.Common.{◌≡◌, ◌+◌, codes, [], ◌∷◌, refl, ap, arith}
use Rattle.std.proofs.lemmas.Result.{on_ok_weaker}
use Rattle.show_json.specs.Sent.{count}
use Rattle.show_json.specs.Json.{text}
use Rattle.report_json.specs.Drawn.{drawn_fields, end_field}
use Rattle.report_json.specs.Raced.{races_fields}
use Rattle.report_json.proofs.Fields.{count_end, count_more, sent_more}
use Rattle.show_json.proofs.Sent.{object_sent, same_field}
use Rattle.report_json.proofs.drawn.DrawnObjectToJson.send.Goals as goal

pub returns : goal.returns
returns g c =
    let drawn = c.args.self.now in
    let last = end_field drawn.halt ∷ [] in
    let n_end = count_end drawn.halt [] in
    let n_more = count_more (races_fields drawn.races) last in
    let fields = drawn_fields drawn in
    let all : 5 + c.count_races.result ≡ count fields = omega (arith, n_end, n_more) in
    on_ok_weaker c.end_map.result (object_sent fields _ _ _ _ _ all c.in_ok-begin_map.ensures (
      _,
      c.in_ok-put.ensures,
      (
        _,
        same_field (codes "verdict") _ _ _ _ (ap text c.verdict_of.ensures) c.in_ok-put-2.ensures,
        (
          _,
          c.in_ok-put-3.ensures,
          (
            _,
            c.in_ok-put_list.ensures,
            sent_more (races_fields drawn.races) last _ _ _ c.in_ok-put_races.ensures
                (_, c.in_ok-put_end.ensures, refl),
          ),
        ),
      ),
    )) c.end_map.ensures
