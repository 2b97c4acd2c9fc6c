use Rattle.std.proofs.Common.{codes, refl, ap}
use Rattle.std.proofs.lemmas.Result.{on_ok_weaker}
use Rattle.show_json.specs.Json.{text}
use Rattle.report_json.specs.Said.{said_fields}
use Rattle.show_json.proofs.Sent.{object_sent, same_field}
use Rattle.report_json.proofs.said.send_line.Goals as goal

pub returns : goal.returns
returns g c =
    let fields = said_fields c.args.said.now in
    on_ok_weaker c.end_map.result (object_sent fields _ _ _ _ _ refl c.in_ok-begin_map.ensures (
      _,
      c.in_ok-put.ensures,
      (
        _,
        c.in_ok-put-2.ensures,
        (_, same_field (codes "text") _ _ _ _ (ap text c.as_str.ensures) c.in_ok-put-3.ensures, refl),
      ),
    )) c.end_map.ensures
