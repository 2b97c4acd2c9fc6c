use Rattle.std.proofs.Common.{◌≡◌, ◌∙◌, sym, subst}
use Rattle.report_jobs.specs.Jobs.{IsUnfit}
use Rattle.report_jobs.specs.Silence.{LeavesOut}
use Rattle.report_jobs.specs.declared.replaying.Unfit.{Unfit}
use Rattle.report_jobs.proofs.Silent.{unwritten_out, unwritten_unfit}
use Rattle.report_jobs.proofs.replaying.print_replay.Goals as goal

pub returns-in-Ok-print_said-clause-prints : goal.returns-in-Ok-print_said-clause-prints
returns-in-Ok-print_said-clause-prints g c = λ saved text. record {
  record_is = c.args.recorded.now;
  ranges = c.requires;
  text = text;
  end = c.in-Ok.end;
  run = c.in-Ok.ensures.run;
  all = c.in-Ok-print_said.ensures.prints.all;
  said_is = c.in-Ok-print_said.ensures.prints.said_is;
  prints = c.in-Ok-print_said.ensures.prints.printed;
}

pub returns-clause-unfit : goal.returns-clause-unfit
returns-clause-unfit g c = λ saved text.
    c.misfit.ensures.unfit c.args.loaded.valid.now.parts c.args.recorded.now saved c.requires text c.in-Err.ensures.fault c.in-Err.ensures.none

pub returns-in-Ok-clause-unfit : goal.returns-in-Ok-clause-unfit
returns-in-Ok-clause-unfit g c = λ saved text.
    let m = c.args.loaded.valid.now.parts in
    subst (IsUnfit m saved) (sym (c.alone.ensures ∙ c.unprinted.ensures)) (unwritten_unfit m saved c.in-Err-print_said.unwritten)

pub returns-in-Ok-clause-silent : goal.returns-in-Ok-clause-silent
returns-in-Ok-clause-silent g c =
    subst (λ (e : Unfit). LeavesOut e (c.print_said.new.out ≡ c.args.out.now)) (sym (c.alone.ensures ∙ c.unprinted.ensures))
    (unwritten_out _ _ c.in-Err-print_said.unwritten c.in-Err-print_said.ensures.left)
