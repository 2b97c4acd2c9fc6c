use Rattle.std.proofs.Common.{ℕ, refl, sym, subst}
use Rattle.std.specs.Io.KnownBytes.{Appends}
use Rattle.std.specs.Prelude.{IfOk}
use Rattle.replay_forms.proofs.Written.{appends_then}
use Rattle.report_jobs.specs.Prints.{changed}
use Rattle.report_lines.specs.Drawn.{cut_line}
use Rattle.report_lines.specs.Found.{found_run_line}
use Rattle.report_telling.specs.Complete.{complete_lines}
use Rattle.report_telling.specs.Drawn.{cut_in, table_lines}
use Rattle.report_telling.specs.Racing.{Tells}
use Rattle.report_telling.specs.Telling.{CanSay, IsSo, Says, head_lines}
use Rattle.report_telling.specs.declared.telling.News.{News}
use Rattle.report_telling.proofs.lines.LinesTellerTeller.tell.Goals as goal

pub write_raced-requires : goal.write_raced-requires
write_raced-requires g c = subst CanSay c.in-Race.is c.requires

pub returns-in-Race-clause-tells : goal.returns-in-Race-clause-tells
returns-in-Race-clause-tells g c m so =
    let out = changed g.W.Write.contents c.args.out.now c.write_raced.new.out in
    subst (λ (news : News). IfOk c.write_raced.result (λ _. Tells out (Says m news))) (sym c.in-Race.is)
    (c.write_raced.ensures.tells m (subst (IsSo m) c.in-Race.is so))

pub returns-in_ok-write_complete-in-Orders-clause-tells : goal.returns-in_ok-write_complete-in-Orders-clause-tells
returns-in_ok-write_complete-in-Orders-clause-tells g c m so =
    let out = changed g.W.Write.contents c.args.out.now c.write_complete.new.out in
    subst (λ (news : News). Tells out (Says m news)) (sym c.in-Orders.is)
    (complete_lines c.in-Orders.most c.in-Orders.whole.now.racing c.in-Orders.whole.now.all, c.in_ok-write_complete-in-Orders.ensures, refl)

pub cut_of-requires : goal.cut_of-requires
cut_of-requires g c = subst CanSay c.in-Table.is c.requires

pub returns-in_ok-write_cut-in-Table-clause-tells : goal.returns-in_ok-write_cut-in-Table-clause-tells
returns-in_ok-write_cut-in-Table-clause-tells g c m so =
    let contents = g.W.Write.contents in
    let out = changed contents c.args.out.now c.write_cut.new.out in
    let s = c.in-Table.drawn.sought.now in
    let table = c.in-Table.drawn.table.now in
    subst (λ (news : News). Tells out (Says m news)) (sym c.in-Table.is) (
      head_lines s table,
      appends_then (contents c.args.out.now) (contents c.write_table.new.out) (contents c.write_cut.new.out) (table_lines s table)
          (cut_line (cut_in table) s.limit) c.in_ok-write_table-in-Table.ensures
          (subst (λ (n : ℕ). Appends (contents c.write_table.new.out) (contents c.write_cut.new.out) (cut_line n s.limit)) c.cut_of.ensures
          c.in_ok-write_cut-in-Table.ensures),
      refl,
    )

pub returns-in_ok-write_found-in-Run-clause-tells : goal.returns-in_ok-write_found-in-Run-clause-tells
returns-in_ok-write_found-in-Run-clause-tells g c m so =
    let out = changed g.W.Write.contents c.args.out.now c.write_found-in-Run.new.out in
    subst (λ (news : News). Tells out (Says m news)) (sym c.in-Run.is) (found_run_line c.in-Run.run', c.in_ok-write_found-in-Run.ensures, refl)
