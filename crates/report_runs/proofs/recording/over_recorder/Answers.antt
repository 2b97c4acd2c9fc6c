use Rattle.std.proofs.Common.{◌≡◌, ◌++◌, List, length, Some, false, refl, sym, ◌∙◌, ap, arith}
use Rattle.types.specs.declared.outcome.ThreadReport.{ThreadReport}
use Rattle.types.specs.declared.parts.Parts.{Parts}
use Rattle.shared_memory.specs.Memory.{Memory, pages}
use Rattle.shared_memory.specs.History.{memory_after}
use Rattle.locked_recorder.specs.Promises.{Begins}
use Rattle.report_runs.proofs.NewSeats.{seat_name, seat_new, seat_right, seat_many}
use Rattle.report_runs.proofs.Leaving.{leaves, few_reports, limited_by, the_same}
use Rattle.report_runs.proofs.recording.over_recorder.Goals as goal

pub run_request-requires-clause-len : goal.run_request-requires-clause-len
run_request-requires-clause-len g c κs within =
    let many = seat_many (λ s. s.caller) c.in-Ok.seats.items c.in-Ok.ensures.seats in
    let long = c.in-Ok.seats.ok in
    omega arith

pub run_request-requires-clause-names : goal.run_request-requires-clause-names
run_request-requires-clause-names g c κs within = λ k d less. seat_name (λ s. s.caller) c.in-Ok.seats.items c.in-Ok.ensures.seats k d less

pub run_request-requires-clause-new : goal.run_request-requires-clause-new
run_request-requires-clause-new g c κs within = λ k d less. seat_new (λ s. s.caller) c.in-Ok.seats.items c.in-Ok.ensures.seats k d less

pub run_request-requires-clause-right : goal.run_request-requires-clause-right
run_request-requires-clause-right g c κs within = λ d. seat_right (λ s. s.caller) c.in-Ok.seats.items c.in-Ok.ensures.seats d

pub copy_reports-requires : goal.copy_reports-requires
copy_reports-requires g c =
    let few = few_reports _ _ _ _ _ c.in-Ok-run_request.end.threads.items c.in-Ok-run_request.end.seats.items c.in-Ok-run_request.ensures.run in
    let same : length c.deref.result.now ≡ length c.in-Ok-run_request.end.threads.items = ap length c.deref.ensures.value in
    let none : length c.args.header.ends.items ≡ 0 = ap length c.requires.ends in
    let long = c.args.header.ends.ok in
    let room = c.requires.room in
    omega arith

pub returns-clause-made : goal.returns-clause-made
returns-clause-made g c =
    let log = c.finish-finished.result.log.items in
    record {
      version = refl;
      module_len = ap (λ (m : Parts). m.length) (c.parts.ensures.parts ∙ c.module.ensures);
      threads = refl;
      max_pages = refl;
      invoke = c.requires.of_request.invoke_is;
      args_are = c.requires.of_request.args_are;
      fuel_is = c.requires.of_request.fuel_is;
      limit_is = refl;
      ends_are = c.from_vec-2.ensures ∙ c.copy_reports.ensures.items
          ∙ ap (λ (l : List ThreadReport). l ++ c.deref.result.now) c.requires.ends ∙ c.deref.ensures.value;
      pages_are = refl;
      limited = limited_by _ log _ c.from_vec.ensures c.requires.bound c.requires.range c.finish-finished.ensures.bounds
          c.finish-finished.ensures.record.seen.entries;
      ends_run =
          the_same c.args.request.now.parts c.args.request.now.fuel false _ _ _ _ _ _ _ log c.from_vec.result refl refl
          (ap Some c.requires.bound) (sym c.from_vec.ensures)
          (leaves (λ s. s.caller) (λ s. Begins s.caller log) _ _ _ _ _ _ _ c.in-Ok-run_request.end.seats.items log _
          c.in-Ok-run_request.ensures.run c.finish-finished.ensures.record.others
          (λ s b. (b.begins, b.own)) c.finish-finished.ensures.seats
          (c.finish-finished.ensures.record.pages_after ∙ ap (λ (o : Memory). pages (memory_after o log)) c.requires.image)
          (c.finish-finished.ensures.record.bytes_after ∙ ap (λ (o : Memory). (memory_after o log).bytes) c.requires.image));
    }
