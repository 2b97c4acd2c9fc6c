use Rattle.std.proofs.Common.{drop}
use Rattle.serde.specs.Event.{Log}
use Rattle.serde_json.specs.Events.{SendsItems}
use Rattle.show_json.specs.Json.{items_of, numbered}
use Rattle.show_json.proofs.object.send_list.Given as goal

-- whatever ends it well from here ends it well from the start
abbrev pub invariant-loop-value : goal.invariant-loop-value
invariant-loop-value g l =
    (end : Log) → SendsItems (items_of (numbered (λ i x. g.T.ToJson.json x) l.value-index (drop l.value-index l.values))) (g.S.Serializer.written l.out) end
    → SendsItems (items_of (numbered (λ i x. g.T.ToJson.json x) 0 l.values)) (g.S.Serializer.written l.initial.out) end
