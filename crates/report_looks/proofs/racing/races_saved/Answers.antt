use Rattle.std.proofs.Common.{◌≡◌, ◌∙◌, sym, subst}
use Rattle.report_jobs.specs.Jobs.{IsNoRecordOf, IsNoValidModule}
use Rattle.report_jobs.specs.Undone.{undone_status}
use Rattle.report_jobs.specs.Why.{RefusesRecord}
use Rattle.report_jobs.specs.declared.undone.Undone.{Undone}
use Rattle.report_jobs.proofs.Outcomes.{no_module, no_record, refuses_record}
use Rattle.report_looks.proofs.Statuses.{apart, is_free, is_racy}
use Rattle.report_looks.proofs.racing.races_saved.Goals as goal

pub returns-in-Ok-tell_races-clause-free : goal.returns-in-Ok-tell_races-clause-free
returns-in-Ok-tell_races-clause-free g c = λ zero.
    let v = c.in-Ok.valid in
    let told = c.in-Ok-tell_races.told.is_racy in (
      v.parts,
      c.in-Ok.ensures.ok.0,
      c.in-Ok.ensures.ok.1.valid,
      is_free c.args.asked.now.allow v.parts c.args.saved.now told (sym c.done.ensures ∙ zero) c.in-Ok-tell_races.ensures.races,
    )

pub returns-in-Ok-tell_races-clause-racy : goal.returns-in-Ok-tell_races-clause-racy
returns-in-Ok-tell_races-clause-racy g c = λ one.
    let v = c.in-Ok.valid in
    let told = c.in-Ok-tell_races.told.is_racy in (
      v.parts,
      c.in-Ok.ensures.ok.0,
      c.in-Ok.ensures.ok.1.valid,
      is_racy c.args.asked.now.allow v.parts c.args.saved.now told (sym c.done.ensures ∙ one) c.in-Ok-tell_races.ensures.races,
    )

pub returns-in-Ok-tell_races-clause-refused : goal.returns-in-Ok-tell_races-clause-refused
returns-in-Ok-tell_races-clause-refused g c = λ two. apart c.in-Ok-tell_races.told.is_racy (sym c.done.ensures ∙ two)

pub returns-in-Err-clause-refused : goal.returns-in-Err-clause-refused
returns-in-Err-clause-refused g c =
    subst (λ (why : Undone). undone_status why ≡ 2 → IsNoValidModule c.args.module.now) (sym c.of_refusal.ensures)
    (no_module c.args.module.now c.in-Err.refusal c.in-Err.ensures.err)

pub returns-in-Err-Unfit-clause-none : goal.returns-in-Err-Unfit-clause-none
returns-in-Err-Unfit-clause-none g c =
    let e = rw c.in-Err-Unfit.field-0-is at c.in-Err-Unfit.ensures.unshown in
    let bytes = c.args.module.now in
    let saved = c.args.saved.now in
    let v = c.in-Ok.valid in
    subst (λ (why : Undone). undone_status why ≡ 4 → IsNoRecordOf bytes saved) (sym c.of_unfit.ensures) λ four. record {
      parts = v.parts;
      text = c.in-Ok.ensures.ok.0;
      valid = c.in-Ok.ensures.ok.1.valid;
      none = no_record v c.in-Err-Unfit.stood v.parts saved c.in-Err-Unfit.unfit e four;
    }

pub returns-in-Err-Unfit-clause-wrong : goal.returns-in-Err-Unfit-clause-wrong
returns-in-Err-Unfit-clause-wrong g c =
    let e = rw c.in-Err-Unfit.field-0-is at c.in-Err-Unfit.ensures.unshown in
    let bytes = c.args.module.now in
    let saved = c.args.saved.now in
    let v = c.in-Ok.valid in
    subst (λ (why : Undone). undone_status why ≡ 4 → RefusesRecord bytes saved why) (sym c.of_unfit.ensures)
    (refuses_record v c.in-Err-Unfit.stood bytes saved v.parts c.in-Ok.ensures.ok.0 c.in-Ok.ensures.ok.1.valid c.in-Err-Unfit.unfit e)
