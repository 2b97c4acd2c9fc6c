use Rattle.std.proofs.Common.{◌≡◌, ◌+◌, codes, [], ◌∷◌, refl, arith}
use Rattle.std.proofs.lemmas.Result.{on_ok_weaker}
use Rattle.show_json.specs.Json.{is_given, are_some}
use Rattle.show_json.specs.Sent.{count}
use Rattle.show_json.specs.Functions.{function_json}
use Rattle.show_json.specs.Rows.{row_json}
use Rattle.show_json.specs.Moments.{last_json, thread_fields}
use Rattle.show_json.proofs.Sent.{object_sent, count_given, count_some}
use Rattle.show_json.proofs.moments.MomentThreadToJson.send.Goals as goal

pub returns : goal.returns
returns g c =
    let t = c.args.self.now in
    let functions = are_some (codes "functions") function_json t.functions.now ∷ [] in
    let write = is_given (codes "last_write") last_json t.last_write ∷ functions in
    let asked = is_given (codes "asked") row_json t.asked ∷ write in
    let n_entry = count_given (codes "entry") row_json t.entry asked in
    let n_asked = count_given (codes "asked") row_json t.asked write in
    let n_write = count_given (codes "last_write") last_json t.last_write functions in
    let n_functions = count_some (codes "functions") function_json t.functions.now [] in
    let fields = thread_fields t in
    let all : 2 + (c.given.result + c.given-2.result + c.given-3.result) + c.some.result ≡ count fields =
    omega (arith, n_entry, n_asked, n_write, n_functions) in
    on_ok_weaker c.end_map.result (object_sent fields _ _ _ _ _ all c.in_ok-begin_map.ensures (
      _,
      c.in_ok-put.ensures,
      (
        _,
        c.in_ok-put-2.ensures,
        (
          _,
          c.in_ok-put_if.ensures,
          (
            _,
            c.in_ok-put_if-2.ensures,
            (_, c.in_ok-put_if-3.ensures, (_, c.in_ok-put_some.ensures, refl)),
          ),
        ),
      ),
    )) c.end_map.ensures
