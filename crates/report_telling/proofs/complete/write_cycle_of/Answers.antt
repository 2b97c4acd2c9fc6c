use Rattle.std.proofs.Common.{ℕ, List, subst}
use Rattle.replay_forms.specs.Texts.{Wrote}
use Rattle.report_lines.specs.Complete.{cycle_line}
use Rattle.report_telling.proofs.complete.write_cycle_of.Goals as goal

pub returns : goal.returns
returns g c = subst
    (λ (ts : List ℕ). Wrote g.W.Write.contents c.args.out.now c.write_cycle.new.out c.write_cycle.result (cycle_line ts c.args.cycle.now.states))
    c.as_slice.ensures.value c.write_cycle.ensures
