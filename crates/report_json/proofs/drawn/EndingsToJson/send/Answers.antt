use Rattle.std.proofs.Common.{rules}
use Rattle.std.proofs.lemmas.Result.{on_ok_weaker}
use Rattle.serde_json.specs.Events.{SendsItems}
use Rattle.show_json.specs.Json.{items_of, numbered}
use Rattle.show_json.proofs.Sent.{numbered_more, list_sent}
use Rattle.report_json.specs.Drawn.{ending_json}
use Rattle.report_json.proofs.drawn.EndingsToJson.send.Goals as goal

pub loop-ending-init : goal.loop-ending-init
loop-ending-init g c = λ end h. h

pub loop-ending-preserved : goal.loop-ending-preserved
loop-ending-preserved g c =
    numbered_more (λ i x. ending_json x) c.args.self.now.0.now c.loop-ending.ending-index c.ending-item.result _ _
    (λ end. SendsItems (items_of (numbered (λ i x. ending_json x) 0 c.args.self.now.0.now)) (g.S.Serializer.written c.begin_seq.new.self) end)
    c.loop-ending-test.true c.ending-item.is c.in_ok-send_ending.ensures c.loop-ending.invariant

pub returns : goal.returns
returns g c =
    on_ok_weaker c.end_seq.result (list_sent ending_json c.args.self.now.0.now _ c.loop-ending.ending-index _ _ _ _ (search rules)
    c.loop-ending-test.false c.in_ok-begin_seq.ensures c.loop-ending.invariant) c.end_seq.ensures
