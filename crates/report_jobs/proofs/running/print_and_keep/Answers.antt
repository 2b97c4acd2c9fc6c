use Rattle.std.proofs.Common.{rules, List, sym, subst}
use Rattle.show_said.specs.declared.said.Said.{Said}
use Rattle.report_jobs.specs.Prints.{IsSaid}
use Rattle.report_jobs.proofs.running.print_and_keep.Goals as goal

pub returns-clause-made : goal.returns-clause-made
returns-clause-made g c = (
  c.deref.result.now,
  subst (λ (all : List Said). IsSaid c.args.whence.bytes.now c.args.recorded.now c.args.job.now.look.text all)
      (sym c.deref.ensures.value) c.in_ok-said.ensures,
  c.in_ok-done.ensures.made,
  search rules,
)
