use Rattle.std.proofs.Common.{rules}
use Rattle.std.proofs.lemmas.Result.{on_ok_weaker}
use Rattle.serde_json.specs.Events.{SendsItems}
use Rattle.show_json.specs.Json.{items_of, numbered}
use Rattle.show_json.proofs.Sent.{numbered_more, list_sent}
use Rattle.show_json.proofs.object.send_list.Goals as goal

pub loop-value-init : goal.loop-value-init
loop-value-init g c = λ end h. h

pub loop-value-preserved : goal.loop-value-preserved
loop-value-preserved g c =
    numbered_more (λ i x. g.T.ToJson.json x) c.args.values.now c.loop-value.value-index c.value-item.result _ _
    (λ end. SendsItems (items_of (numbered (λ i x. g.T.ToJson.json x) 0 c.args.values.now)) (g.S.Serializer.written c.begin_seq.new.self) end)
    c.loop-value-test.true c.value-item.is c.in_ok-send.ensures c.loop-value.invariant

pub returns : goal.returns
returns g c =
    on_ok_weaker c.end_seq.result (list_sent g.T.ToJson.json c.args.values.now _ c.loop-value.value-index _ _ _ _ (search rules)
    c.loop-value-test.false c.in_ok-begin_seq.ensures c.loop-value.invariant) c.end_seq.ensures
