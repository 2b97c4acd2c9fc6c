use Rattle.std.proofs.Common.{drop}
use Rattle.serde.specs.Event.{Log}
use Rattle.serde_json.specs.Events.{SendsItems}
use Rattle.show_json.specs.Json.{items_of, numbered}
use Rattle.report_json.specs.Drawn.{ending_json}
use Rattle.report_json.proofs.drawn.EndingsToJson.send.Given as goal

-- whatever ends it well from here ends it well from the start
abbrev pub invariant-loop-ending : goal.invariant-loop-ending
invariant-loop-ending g l =
    (end : Log) → SendsItems (items_of (numbered (λ i x. ending_json x) l.ending-index (drop l.ending-index l.endings))) (g.S.Serializer.written l.out) end
    → SendsItems (items_of (numbered (λ i x. ending_json x) 0 l.endings)) (g.S.Serializer.written l.initial.out) end
