use Rattle.std.proofs.Common.{◌≡◌, ◌+◌, codes, [], ◌∷◌, refl, arith}
use Rattle.std.proofs.lemmas.Result.{on_ok_weaker}
use Rattle.show_json.specs.Sent.{count}
use Rattle.show_json.specs.Json.{is_given}
use Rattle.report_json.specs.Ends.{run_json}
use Rattle.report_json.specs.Found.{shrunk_json, found_fields}
use Rattle.report_json.proofs.Fields.{count_found}
use Rattle.show_json.proofs.Sent.{object_sent, count_given}
use Rattle.report_json.proofs.found.FoundObjectToJson.send.Goals as goal

pub returns : goal.returns
returns g c =
    let found = c.args.self.now in
    let last = is_given (codes "end") run_json found.run ∷ [] in
    let n_as = count_found found.found_as (is_given (codes "shrunk") shrunk_json found.shrunk ∷ last) in
    let n_shrunk = count_given (codes "shrunk") shrunk_json found.shrunk last in
    let n_end = count_given (codes "end") run_json found.run [] in
    let fields = found_fields found in
    let all : 1 + c.given.result + c.given-2.result ≡ count fields = omega (arith, n_as, n_shrunk, n_end) in
    on_ok_weaker c.end_map.result (object_sent fields _ _ _ _ _ all c.in_ok-begin_map.ensures
    (_, c.in_ok-put_found_as.ensures, (_, c.in_ok-put_if.ensures, (_, c.in_ok-put_if-2.ensures, refl)))) c.end_map.ensures
