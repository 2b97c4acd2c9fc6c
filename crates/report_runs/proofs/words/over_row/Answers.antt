use Rattle.std.proofs.Common.{◌∙◌, ap, arith}
use Rattle.shared_memory.specs.Memory.{Memory, pages}
use Rattle.shared_memory.specs.History.{memory_after}
use Rattle.shared_memory_on_table.specs.Callers.{GoesOn}
use Rattle.report_runs.proofs.NewSeats.{seat_name, seat_new, seat_right, seat_many}
use Rattle.report_runs.proofs.Whole.{of_no_seat, went_on}
use Rattle.report_runs.proofs.Leaving.{leaves}
use Rattle.replay.proofs.Openable.{max_kept}
use Rattle.report_runs.proofs.words.over_row.Goals as goal

pub run_request-requires-clause-right : goal.run_request-requires-clause-right
run_request-requires-clause-right g c κs within = λ d. seat_right (λ s. s.caller) c.in-Ok.seats.items c.in-Ok.ensures.seats d

pub run_request-requires-clause-len : goal.run_request-requires-clause-len
run_request-requires-clause-len g c κs within =
    let many = seat_many (λ s. s.caller) c.in-Ok.seats.items c.in-Ok.ensures.seats in
    let long = c.in-Ok.seats.ok in
    omega arith

pub run_request-requires-clause-names : goal.run_request-requires-clause-names
run_request-requires-clause-names g c κs within = λ k d less. seat_name (λ s. s.caller) c.in-Ok.seats.items c.in-Ok.ensures.seats k d less

pub run_request-requires-clause-new : goal.run_request-requires-clause-new
run_request-requires-clause-new g c κs within = λ k d less. seat_new (λ s. s.caller) c.in-Ok.seats.items c.in-Ok.ensures.seats k d less

pub copy_bytes-requires-clause-room : goal.copy_bytes-requires-clause-room
copy_bytes-requires-clause-room g c =
    let close = c.close-closed.ensures in
    let max = λ (m : Memory). m.max in
    let same = ap max close.3 ∙ max_kept _ close.0 ∙ ap max c.requires.image in
    let within = c.pages-pages.ensures.sized.within in
    let room = c.requires.room in
    omega (arith, same, within, room)

pub returns-clause-end : goal.returns-clause-end
returns-clause-end g c =
    let close = c.close-closed.ensures in (
      close.0,
      leaves (λ s. s.caller) (λ s. GoesOn s.caller close.0) _ _ _ _ _ _ _ c.in-Ok-run_request.end.seats.items close.0 _
          c.in-Ok-run_request.ensures.run (λ n large. of_no_seat close.0 n close.2.entries large)
          (λ s x. went_on s.caller close.0 x) close.1
          (c.pages-pages.ensures.count ∙ ap pages close.3 ∙ ap (λ (o : Memory). pages (memory_after o close.0)) c.requires.image)
          (c.copy_bytes.ensures ∙ ap (λ (m : Memory). m.bytes) close.3 ∙ ap (λ (o : Memory). (memory_after o close.0).bytes) c.requires.image),
    )
