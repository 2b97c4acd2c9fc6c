use Rattle.std.proofs.Common.{◌∙◌, List, Option, None, length, replicate, ap, refl}
use Rattle.types.specs.declared.event.Entry.{Entry}
use Rattle.replay_text.specs.declared.parts.RecordParts.{RecordParts}
use Rattle.show_rows.specs.declared.rows.Row.{Row}
use Rattle.show_rows.specs.Rows.{RowsSee}
use Rattle.show_races.specs.declared.rows.RowsAndNext.{RowsAndNext}
use Rattle.show_races.proofs.Pulled.{replayed}
use Rattle.show_races.proofs.rows.rows_seen.Goals as goal

pub returns-in-Ok-replay_watched-clause-run : goal.returns-in-Ok-replay_watched-clause-run
returns-in-Ok-replay_watched-clause-run c =
    let log = c.as_slice-log.ensures ∙ ap (λ (r : RecordParts). r.log) c.parts.ensures.parts in
    let m = c.args.module.now.parts in
    let r = c.args.record.now in
    let end = c.in-Ok-replay_watched.field-0 in (
      end,
      c.in-Ok-replay_watched.ensures.run,
      record {
        first = c.in-Ok.rows;
        last = c.replay_watched.new.watch.rows;
        log = c.in-Ok.ensures.log ∙ log;
        empty = c.in-Ok.ensures.rows ∙ ap (λ (l : List Entry). replicate {A = Option Row} (length l) None) log;
        sees = replayed RowsSee (λ (w : RowsAndNext). w.rows) m r end (record { rows = c.in-Ok.rows; next = c.new-next.result })
            c.replay_watched.new.watch c.in-Ok-replay_watched.ensures.seen;
        filled = refl;
      },
    )
