use Rattle.std.proofs.Common.{drop}
use Rattle.serde.specs.Event.{Log}
use Rattle.serde_json.specs.Events.{SendsItems}
use Rattle.show_json.specs.Json.{items_of, numbered}
use Rattle.report_json.specs.Ends.{ended_json}
use Rattle.report_json.proofs.ends.OutcomesToJson.send.Given as goal

-- whatever ends it well from here ends it well from the start
abbrev pub invariant-loop-thread : goal.invariant-loop-thread
invariant-loop-thread g l =
    (end : Log) → SendsItems (items_of (numbered ended_json l.thread (drop l.thread l.outcomes))) (g.S.Serializer.written l.out) end
    → SendsItems (items_of (numbered ended_json 0 l.outcomes)) (g.S.Serializer.written l.initial.out) end
