use Rattle.std.proofs.Common.{codes, [], ◌∷◌, refl, ap}
use Rattle.std.proofs.lemmas.Result.{on_ok_weaker}
use Rattle.show_json.specs.Json.{number, list_of, is}
use Rattle.show_json.proofs.Sent.{object_sent, same_field}
use Rattle.report_json.proofs.complete.CycleObjectToJson.send.Goals as goal

pub returns : goal.returns
returns g c =
    let cycle = c.args.self.now.0.now in
    let fields = is (codes "threads") (list_of number cycle.threads.items) ∷ is (codes "states") (number cycle.states) ∷ [] in
    on_ok_weaker c.end_map.result (object_sent fields _ _ _ _ _ refl c.in_ok-begin_map.ensures (
      _,
      same_field (codes "threads") _ _ _ _ (ap (list_of number) c.deref.ensures.value) c.in_ok-put_list.ensures,
      (_, c.in_ok-put.ensures, refl),
    )) c.end_map.ensures
