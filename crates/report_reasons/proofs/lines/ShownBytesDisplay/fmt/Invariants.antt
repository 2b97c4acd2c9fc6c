use Rattle.std.proofs.Common.{◌≡◌, take}
use Rattle.std.specs.Fmt.{HasWritten, IsPlainFormatter}
use Rattle.report_reasons.specs.Lines.{shown_bytes}
use Rattle.report_reasons.proofs.lines.ShownBytesDisplay.fmt.Given as goal

-- The bytes of these rounds are written.
abbrev pub invariant-loop-byte : goal.invariant-loop-byte
invariant-loop-byte g l = (l.byte-items ≡ l.fn.self.0.now)
    × (IsPlainFormatter l.initial.f → HasWritten g.W.Write.write_str_gives l.initial.f (shown_bytes (take l.byte-index l.fn.self.0.now)) l.f)
