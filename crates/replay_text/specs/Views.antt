-- What the parts of a record that the code reads say, as readings give them.
use Rattle.std.specs.Prelude.{ℕ, List}
use Rattle.types.specs.declared.outcome.ThreadReport.{ThreadReport}
use Rattle.replay_text.specs.declared.header.Scale.{Scale as CodeScale}
use Rattle.replay_text.specs.declared.header.Header.{Header as CodeHeader}
use Rattle.replay_text.specs.declared.body.Ends.{Ends}
use Rattle.replay_text.specs.declared.body.RecordBody.{RecordBody}
use Rattle.replay_text.specs.Reading.{Scale, Header, Body}

abbrev pub scale_of : CodeScale → Scale
scale_of s = (s.version, (s.module_len, (s.threads, s.max_pages)))

abbrev pub header_of : CodeHeader → Header
header_of h = (scale_of h.scale, (h.invoke, (h.args, (h.fuel, h.limit))))

abbrev pub ends_view : Ends → List ThreadReport × ℕ
ends_view e = (e.ends, e.pages)

abbrev pub body_of : RecordBody → Body
body_of b = (b.log, (b.ends, b.pages))

-- Three or four numbers, as pairs.
abbrev pub three_of : ℕ × ℕ × ℕ → ℕ × (ℕ × ℕ)
three_of r = (r.0, (r.1, r.2))

abbrev pub four_of : ℕ × ℕ × ℕ × ℕ → ℕ × (ℕ × (ℕ × ℕ))
four_of r = (r.0, (r.1, (r.2, r.3)))
