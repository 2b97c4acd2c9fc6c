use Rattle.std.proofs.Common.{drop}
use Rattle.serde.specs.Event.{Log}
use Rattle.serde_json.specs.Events.{SendsItems}
use Rattle.show_json.specs.Json.{items_of, numbered}
use Rattle.report_json.specs.Said.{said_json}
use Rattle.report_json.proofs.said.SaidLinesToJson.send.Given as goal

-- whatever ends it well from here ends it well from the start
abbrev pub invariant-loop-said : goal.invariant-loop-said
invariant-loop-said g l =
    (end : Log) → SendsItems (items_of (numbered (λ i x. said_json x) l.said-index (drop l.said-index l.lines))) (g.S.Serializer.written l.out) end
    → SendsItems (items_of (numbered (λ i x. said_json x) 0 l.lines)) (g.S.Serializer.written l.initial.out) end
