-- Runs by a call.
use Rattle.std.specs.Prelude.{ℕ}
use Rattle.types.specs.declared.parts.Parts.{Parts}
use Rattle.spawn_host.specs.declared.call.Call.{Call}
use Rattle.spawn_host.specs.declared.end.EndState.{EndState}
use Rattle.spawn_host.specs.Requests.{Requested}
use Rattle.spawn_host.specs.RunEnds.{EndsRunOnWords}
use Rattle.replay_text.specs.declared.parts.RecordParts.{RecordParts}
use Rattle.replay.specs.Recorded.{RecordsRun}

-- A record of such a run over the memory that records, and how it ended.
abbrev pub RecordsCall : Parts → Call → ℕ → RecordParts → EndState → Type 0
RecordsCall m call = RecordsRun m call.name.now call.args.now call.fuel

-- The same of what is requested.
abbrev pub RecordsRequest : Requested → ℕ → RecordParts → EndState → Type 0
RecordsRequest r = RecordsRun r.parts r.name r.args r.fuel

-- How one over the row of words ended.
abbrev pub EndsCallOnWords : Parts → Call → EndState → Type 0
EndsCallOnWords m call = EndsRunOnWords m call.name.now call.args.now call.fuel
