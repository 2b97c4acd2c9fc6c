use Rattle.std.proofs.Common.{ℕ, ◌≡◌, ◌+◌, ◌++◌, codes, Option, List, [], ◌∷◌, refl, ap, arith, subst}
use Rattle.std.proofs.lemmas.Result.{on_ok_weaker}
use Rattle.serde.specs.Event.{Log}
use Rattle.show_json.specs.Sent.{count, given, SendsField}
use Rattle.show_json.specs.Json.{number, text, list_of, is, is_given}
use Rattle.report_json.specs.Drawn.{ending_json}
use Rattle.report_json.specs.Found.{found_json}
use Rattle.report_json.specs.Complete.{levels_told, liveness_json, complete_fields}
use Rattle.report_json.specs.Raced.{races_fields}
use Rattle.report_json.proofs.Fields.{count_more, sent_more}
use Rattle.show_json.proofs.Sent.{object_sent, count_given, same_field}
use Rattle.report_json.proofs.complete.CompleteObjectToJson.send.Goals as goal

given_same : (name : List ℕ) (a b : Option ℕ) (old new : Log) → a ≡ b → SendsField (is_given name number a) old new
    → SendsField (is_given name number b) old new
given_same name a b old new is = subst (λ (o : Option ℕ). SendsField (is_given name number o) old new) is

pub returns : goal.returns
returns g c =
    let complete = c.args.self.now in
    let last = is_given (codes "found") found_json complete.found ∷ [] in
    let n_live = count_given (codes "liveness") liveness_json complete.all.now.liveness last in
    let n_found = count_given (codes "found") found_json complete.found [] in
    let live = is_given (codes "liveness") liveness_json complete.all.now.liveness ∷ last in
    let n_more = count_more (races_fields complete.races) live in
    let levels = levels_told complete.all.now.verdict complete.all.now.levels in
    let endings = is (codes "endings") (list_of ending_json complete.all.now.endings.keys) ∷ (races_fields complete.races ++ live) in
    let n_levels = count_given (codes "gone_through") number levels endings in
    let given_is = ap given c.levels_of-levels.ensures in
    let fields = complete_fields complete in
    let all : 5 + c.count_races.result + (c.given.result + c.given-2.result + c.given-3.result) ≡ count fields = omega
    (arith, n_levels, n_live, n_found, n_more, given_is) in
    on_ok_weaker c.end_map.result (object_sent fields _ _ _ _ _ all c.in_ok-begin_map.ensures (
      _,
      c.in_ok-put.ensures,
      (
        _,
        same_field (codes "verdict") _ _ _ _ (ap text c.verdict_of.ensures) c.in_ok-put-2.ensures,
        (
          _,
          c.in_ok-put-3.ensures,
          (
            _,
            c.in_ok-put-4.ensures,
            (
              _,
              given_same (codes "gone_through") _ _ _ _ c.levels_of-levels.ensures c.in_ok-put_if.ensures,
              (
                _,
                same_field (codes "endings") _ _ _ _ (ap (list_of ending_json) c.as_slice.ensures.keys) c.in_ok-put-5.ensures,
                sent_more (races_fields complete.races) live _ _ _ c.in_ok-put_races.ensures (_, c.in_ok-put_liveness.ensures, (_, c.in_ok-put_if-2.ensures, refl)),
              ),
            ),
          ),
        ),
      ),
    ))
    c.end_map.ensures
