use Rattle.std.proofs.Common.{◌≡◌, ◌+◌, codes, [], ◌∷◌, refl, arith}
use Rattle.std.proofs.lemmas.Result.{on_ok_weaker}
use Rattle.show_json.specs.Json.{is_given}
use Rattle.show_json.specs.Sent.{count}
use Rattle.show_json.specs.Moments.{cycle_json, end_fields, memory_json}
use Rattle.show_json.proofs.Sent.{object_sent, count_given, count_some}
use Rattle.show_json.proofs.moments.EndShownToJson.send.Goals as goal

pub returns : goal.returns
returns g c =
    let e = c.args.self.now in
    let memory = is_given (codes "memory") memory_json e.memory ∷ [] in
    let n_cycles = count_some (codes "cycles") cycle_json e.cycles.now memory in
    let n_memory = count_given (codes "memory") memory_json e.memory [] in
    let fields = end_fields e in
    let all : 2 + c.some.result + c.given.result ≡ count fields = omega (arith, n_cycles, n_memory) in
    on_ok_weaker c.end_map.result (object_sent fields _ _ _ _ _ all c.in_ok-begin_map.ensures (
      _,
      c.in_ok-put.ensures,
      (
        _,
        c.in_ok-put_list.ensures,
        (
          _,
          c.in_ok-put_some.ensures,
          (_, c.in_ok-put_if.ensures, refl),
        ),
      ),
    )) c.end_map.ensures
