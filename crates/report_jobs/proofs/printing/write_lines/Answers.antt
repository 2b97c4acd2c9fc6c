use Rattle.std.proofs.Common.{Bool, sym, subst}
use Rattle.replay_forms.specs.Texts.{Wrote}
use Rattle.report_jobs.specs.Prints.{end_text}
use Rattle.report_jobs.proofs.printing.write_lines.Goals as goal

pub returns-then-units : goal.returns-then-units
returns-then-units g c =
    subst (λ (units : Bool). Wrote g.W.Write.contents c.args.out.now c.write_with_units.new.out c.write_with_units.result
    (end_text units c.args.end.now c.args.dump))
    (sym c.if-units.true) c.write_with_units.ensures

pub returns-else-units : goal.returns-else-units
returns-else-units g c =
    subst (λ (units : Bool). Wrote g.W.Write.contents c.args.out.now c.write_without_units.new.out c.write_without_units.result
    (end_text units c.args.end.now c.args.dump))
    (sym c.if-units.false) c.write_without_units.ensures
