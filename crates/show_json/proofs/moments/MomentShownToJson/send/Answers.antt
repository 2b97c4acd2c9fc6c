use Rattle.std.proofs.Common.{◌≡◌, ◌+◌, codes, [], ◌∷◌, refl, arith}
use Rattle.std.proofs.lemmas.Result.{on_ok_weaker}
use Rattle.show_json.specs.Json.{is_given, are_some}
use Rattle.show_json.specs.Sent.{count}
use Rattle.show_json.specs.Rows.{row_json}
use Rattle.show_json.specs.Moments.{memory_json, moment_fields, sleeper_json}
use Rattle.show_json.proofs.Sent.{object_sent, count_given, count_some}
use Rattle.show_json.proofs.moments.MomentShownToJson.send.Goals as goal

pub returns : goal.returns
returns g c =
    let m = c.args.self.now in
    let memory = is_given (codes "memory") memory_json m.memory ∷ [] in
    let asleep = are_some (codes "asleep") sleeper_json m.asleep.now ∷ memory in
    let n_races = count_some (codes "races") row_json m.races.now asleep in
    let n_asleep = count_some (codes "asleep") sleeper_json m.asleep.now memory in
    let n_memory = count_given (codes "memory") memory_json m.memory [] in
    let fields = moment_fields m in
    let all : 3 + (c.some.result + c.some-2.result + c.given.result) ≡ count fields =
    omega (arith, n_races, n_asleep, n_memory) in
    on_ok_weaker c.end_map.result (object_sent fields _ _ _ _ _ all c.in_ok-begin_map.ensures (
      _,
      c.in_ok-put.ensures,
      (
        _,
        c.in_ok-put-2.ensures,
        (
          _,
          c.in_ok-put_list.ensures,
          (
            _,
            c.in_ok-put_some.ensures,
            (_, c.in_ok-put_some-2.ensures, (_, c.in_ok-put_if.ensures, refl)),
          ),
        ),
      ),
    )) c.end_map.ensures
