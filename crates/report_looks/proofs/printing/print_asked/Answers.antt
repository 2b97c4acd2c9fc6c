use Rattle.report_looks.proofs.RunMoments.{moment_beside}
use Rattle.report_looks.proofs.printing.print_asked.Goals as goal

pub returns-in-Write : goal.returns-in-Write
returns-in-Write g c = rw c.in-Write.is c.print_last.ensures

pub returns-in-Moment : goal.returns-in-Moment
returns-in-Moment g c = rw c.in-Moment.is (moment_beside _ _ _ _ _ _ _ _ _ c.requires.left_out c.print_told_moment.ensures)

pub returns-in-Entries : goal.returns-in-Entries
returns-in-Entries g c = rw c.in-Entries.is c.print_entries.ensures
