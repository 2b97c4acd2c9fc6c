use Rattle.std.proofs.Common.{◌≡◌, ◌++◌, sym, ◌∙◌, ap, arith, append-nil, add-one, vec_len, vec_capacity}
use Rattle.std.specs.Prelude.{option_to_list}
use Rattle.types.specs.declared.limits.TheConstants.{MOST_THREADS}
use Rattle.schedule_program.specs.Runs.{reports_below}
use Rattle.schedule_program.proofs.Slots.{none_of}
use Rattle.schedule_program.proofs.stepping.Machine.reports.Goals as goal
use Rattle.schedule_program.proofs.stepping.Machine.reports.Goals.{in-Some, in_default}

pub loop-n-preserved : goal.loop-n-preserved
loop-n-preserved g c =
    let n = c.loop-n.n in
    let i = c.loop-n.invariant in
    let pushed : c.match-report.reports.items ≡ c.loop-n.reports.items ++ option_to_list c.report.result =
    elim c.match-report.branch [
      | in-Some w ↦ ap (λ v. v.items) w.reports-is ∙ (w.push_reserved.ensures.items ∙ ap (λ o. c.loop-n.reports.items ++ option_to_list o) (sym w.in-Some.is))
      | in_default w ↦ ap (λ v. v.items) w.reports-is
          ∙ (sym (append-nil c.loop-n.reports.items)
          ∙ ap (λ o. c.loop-n.reports.items ++ option_to_list o)
          (sym (none_of c.report.result w.in_default.not-Some)))
    ] in record {
      few = elim c.match-report.branch [
        | in-Some w ↦ omega (arith, w.push_reserved.ensures.len, ap vec_len w.reports-is, i.few)
        | in_default w ↦ omega (arith, ap vec_len w.reports-is, i.few)
      ];
      room = elim c.match-report.branch [
        | in-Some w ↦ omega (arith, w.push_reserved.ensures.capacity, ap vec_capacity w.reports-is, i.room)
        | in_default w ↦ omega (arith, ap vec_capacity w.reports-is, i.room)
      ];
      reports = λ s w at.
          pushed
          ∙ (ap (λ xs. xs ++ option_to_list c.report.result) (i.reports s w at)
          ∙ (ap (λ o. reports_below n s.fuel w.threads ++ option_to_list o) (c.report.ensures.report s w at)
          ∙ ap (λ k. reports_below k s.fuel w.threads) (sym (add-one n))));
    }

pub returns : goal.returns
returns g c s w at =
    let all : c.loop-n.n ≡ MOST_THREADS = omega arith in
    c.loop-n.invariant.reports s w at ∙ ap (λ k. reports_below k s.fuel w.threads) all
