use Rattle.std.proofs.Common.{rules}
use Rattle.std.proofs.lemmas.Result.{on_ok_weaker}
use Rattle.serde_json.specs.Events.{SendsItems}
use Rattle.show_json.specs.Json.{items_of, numbered}
use Rattle.show_json.proofs.Sent.{numbered_more, list_sent}
use Rattle.report_json.specs.Said.{said_json}
use Rattle.report_json.proofs.said.SaidLinesToJson.send.Goals as goal

pub loop-said-init : goal.loop-said-init
loop-said-init g c = λ end h. h

pub loop-said-preserved : goal.loop-said-preserved
loop-said-preserved g c =
    numbered_more (λ i x. said_json x) c.args.self.now.0.now c.loop-said.said-index c.said-item.result _ _
    (λ end. SendsItems (items_of (numbered (λ i x. said_json x) 0 c.args.self.now.0.now)) (g.S.Serializer.written c.begin_seq.new.self) end)
    c.loop-said-test.true c.said-item.is c.in_ok-send_line.ensures c.loop-said.invariant

pub returns : goal.returns
returns g c =
    on_ok_weaker c.end_seq.result (list_sent said_json c.args.self.now.0.now _ c.loop-said.said-index _ _ _ _ (search rules)
    c.loop-said-test.false c.in_ok-begin_seq.ensures c.loop-said.invariant) c.end_seq.ensures
