use Rattle.std.proofs.Common.{rules}
use Rattle.std.proofs.lemmas.Result.{on_ok_weaker}
use Rattle.report_json.specs.Ends.{thread_json}
use Rattle.show_json.proofs.Sent.{numbered_sent}
use Rattle.report_json.proofs.ends.ThreadsToJson.send.Goals as goal

pub returns : goal.returns
returns g c =
    let threads = c.args.self.now in
    on_ok_weaker c.end_seq.result (numbered_sent (thread_json threads.places.now) threads.reports.now _ c.loop-thread.thread _ _ _ _
    (search rules) c.loop-thread-test.false c.in_ok-begin_seq.ensures c.loop-thread.invariant) c.end_seq.ensures
