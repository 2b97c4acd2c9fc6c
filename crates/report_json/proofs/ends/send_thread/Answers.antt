use Rattle.std.proofs.Common.{◌≡◌, ◌+◌, codes, [], refl, arith}
use Rattle.std.proofs.lemmas.Result.{on_ok_weaker}
use Rattle.show_json.specs.Sent.{count}
use Rattle.show_json.specs.Places.{place_json}
use Rattle.report_json.specs.Ends.{thread_fields}
use Rattle.show_json.proofs.Sent.{object_sent, count_given}
use Rattle.report_json.proofs.ends.send_thread.Goals as goal

pub returns : goal.returns
returns g c =
    let fields = thread_fields c.args.thread c.args.report c.args.place in
    let place = count_given (codes "at") place_json c.args.place [] in
    let all : 3 + c.given.result ≡ count fields = omega (arith, place) in
    on_ok_weaker c.end_map.result (object_sent fields _ _ _ _ _ all c.in_ok-begin_map.ensures
    (_, c.in_ok-put.ensures, (_, c.in_ok-put-2.ensures, (_, c.in_ok-put-3.ensures, (_, c.in_ok-put_if.ensures, refl))))) c.end_map.ensures
