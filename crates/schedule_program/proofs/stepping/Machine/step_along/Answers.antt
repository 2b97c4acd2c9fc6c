use Rattle.std.proofs.Common.{◌≡◌, ◌<◌, ◌++◌, length, map, take, take_all, sym, ◌∙◌, ap, subst, arith, append-nil, vec_len, vec_capacity}
use Rattle.std.specs.Prelude.{option_to_list}
use Rattle.schedule.specs.Scheduled.{entries_made, scheduled_run}
use Rattle.schedule_machine.specs.Runs.{system_by}
use Rattle.schedule_program.specs.Runs.{IsAt, as_entries, mark_of}
use Rattle.schedule_program.specs.declared.mark.Mark.{Mark}
use Rattle.schedule_program.specs.declared.mark.Kind.TheVariants.{Turn}
use Rattle.schedule_program.proofs.Along.{run_more, entries_more}
use Rattle.schedule_program.proofs.Slots.{none_of}
use Rattle.schedule_program.proofs.stepping.Machine.step_along.Goals as goal
use Rattle.schedule_program.proofs.stepping.Machine.step_along.Goals.{in-Some, in_default}

pub step-requires : goal.step-requires
step-requires g c =
    let r = c.requires in
    (r.0, scheduled_run (system_by r.0) r.1 (map mark_of (take c.loop-mark.mark-index c.args.marks.now)), c.loop-mark.invariant.state r.0 r.1 r.2)

pub loop-mark-preserved : goal.loop-mark-preserved
loop-mark-preserved g c =
    let m = g.T.TakesTurns in
    let i = c.loop-mark.mark-index in
    let xs = c.args.marks.now in
    let d : Mark = record { thread = 0; kind = Turn } in
    let within : i < length xs = omega arith in
    let pushed : c.match-step.entries.items ≡ c.loop-mark.entries.items ++ option_to_list c.step.result =
    elim c.match-step.branch [
      | in-Some w ↦ ap (λ v. v.items) w.entries-is
          ∙ (w.push_reserved.ensures.items ∙ ap (λ o. c.loop-mark.entries.items ++ option_to_list o) (sym w.in-Some.is))
      | in_default w ↦ ap (λ v. v.items) w.entries-is
          ∙ (sym (append-nil c.loop-mark.entries.items)
          ∙ ap (λ o. c.loop-mark.entries.items ++ option_to_list o)
          (sym (none_of c.step.result w.in_default.not-Some)))
    ] in record {
      state = λ s w at.
          subst (λ z. IsAt m.meaning s c.step.new.self z) (sym (run_more s w xs i d within))
          (c.step.ensures.state s (scheduled_run (system_by s) w (map mark_of (take i xs))) (c.loop-mark.invariant.state s w at));
      entries = λ s w at.
          entries_more s w xs i d within c.step.result c.loop-mark.entries.items c.match-step.entries.items
          c.reserve.new.self.items pushed (c.loop-mark.invariant.entries s w at)
          (c.step.ensures.entry s (scheduled_run (system_by s) w (map mark_of (take i xs))) (c.loop-mark.invariant.state s w at));
      room = elim c.match-step.branch [
        | in-Some w ↦ omega (
          arith,
          w.push_reserved.ensures.len,
          w.push_reserved.ensures.capacity,
          ap vec_len w.entries-is,
          ap vec_capacity w.entries-is,
          c.loop-mark.invariant.room,
        )
        | in_default w ↦ omega (arith, ap vec_len w.entries-is, ap vec_capacity w.entries-is, c.loop-mark.invariant.room)
      ];
    }

pub returns-clause-state : goal.returns-clause-state
returns-clause-state g c s w at =
    let m = g.T.TakesTurns in
    let all : take c.loop-mark.mark-index c.args.marks.now ≡ c.args.marks.now = take_all c.loop-mark.mark-index c.args.marks.now (omega arith) in
    subst (λ xs. IsAt m.meaning s c.loop-mark.self (scheduled_run (system_by s) w (map mark_of xs))) all (c.loop-mark.invariant.state s w at)

pub returns-clause-made : goal.returns-clause-made
returns-clause-made g c s w at =
    let all : take c.loop-mark.mark-index c.args.marks.now ≡ c.args.marks.now = take_all c.loop-mark.mark-index c.args.marks.now (omega arith) in
    c.loop-mark.invariant.entries s w at
    ∙ (ap (λ ys. ys ++ as_entries (entries_made (system_by s) w (map mark_of (take c.loop-mark.mark-index c.args.marks.now)))) c.reserve.ensures.items
    ∙ ap (λ xs. c.args.entries.now.items ++ as_entries (entries_made (system_by s) w (map mark_of xs))) all)
