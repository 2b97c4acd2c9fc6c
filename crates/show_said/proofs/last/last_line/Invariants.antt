use Rattle.std.proofs.Common.{◌≡◌, take, option_map}
use Rattle.show_said.specs.Last.{last_line}
use Rattle.show_said.proofs.last.last_line.Given as goal

abbrev pub invariant-loop-line : goal.invariant-loop-line
invariant-loop-line l = option_map (λ s. s.now) l.last ≡ last_line (take l.line-index l.said) l.thread
