use Rattle.std.proofs.Common.{refl, rules, take, get_or}
use Rattle.std.proofs.Output.{has_written_append, has_written_of_eq}
use Rattle.report_reasons.specs.Lines.{shown_bytes, shown_char}
use Rattle.report_reasons.proofs.Shown.{one_more}
use Rattle.report_reasons.proofs.lines.ShownBytesDisplay.fmt.Goals as goal

pub loop-byte-preserved : goal.loop-byte-preserved
loop-byte-preserved g c = (
  refl,
  λ p. has_written_of_eq _ _ _ _ _ (one_more c.args.self.now.0.now c.loop-byte.byte-index (search rules))
      (has_written_append _ _ _ _ _ _ (c.loop-byte.invariant.1 p) (search rules)),
)
