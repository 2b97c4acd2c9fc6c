use Rattle.std.proofs.Common.{◌≡◌, ◌⊎◌, inl, inr, sym, subst}
use Rattle.report_jobs.specs.Arguments.{texts_in}
use Rattle.report_jobs.specs.Jobs.{HasNoSuchCall, IsNoValidModule}
use Rattle.report_jobs.specs.Undone.{undone_status}
use Rattle.report_jobs.specs.declared.undone.Undone.{Undone}
use Rattle.report_jobs.proofs.Outcomes.{no_module, trouble_cannot}
use Rattle.report_looks.specs.Allowing.{SomeNamed}
use Rattle.report.proofs.job.search.Goals as goal

pub returns-in-Err-clause-refused : goal.returns-in-Err-clause-refused
returns-in-Err-clause-refused g c =
    subst (λ (why : Undone). undone_status why ≡ 2 → IsNoValidModule c.args.code.«module».now) (sym c.of_refusal.ensures)
    (no_module c.args.code.«module».now c.in-Err.refusal c.in-Err.ensures.err)

pub returns-clause-cannot : goal.returns-clause-cannot
returns-clause-cannot g c =
    let call = c.args.asked.now.call in
    let v = c.in-Ok.valid in
    let t = c.in-Err-search_module.trouble in
    subst (λ (why : Undone). undone_status why ≡ 3 → HasNoSuchCall c.args.code.«module».now call ⊎ SomeNamed c.args.asked.now.allow.bytes.items)
    (sym c.of_trouble.ensures) λ three. inl (record {
      parts = v.parts;
      text = c.in-Ok.ensures.ok.0;
      valid = c.in-Ok.ensures.ok.1.valid;
      cannot = trouble_cannot v _ _ v.parts call.invoke.now (texts_in call.args.items) t c.in-Err-search_module.ensures.trouble three;
    })
