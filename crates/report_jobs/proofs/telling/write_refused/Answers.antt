use Rattle.report_jobs.proofs.telling.write_refused.Goals as goal

pub returns-in-Header : goal.returns-in-Header
returns-in-Header g c = rw c.in-Header.is c.write-in-Header.ensures.bytes

pub returns-in-Unreadable : goal.returns-in-Unreadable
returns-in-Unreadable g c = rw c.in-Unreadable.is c.write-in-Unreadable.ensures.bytes

pub returns-in-EndMissing : goal.returns-in-EndMissing
returns-in-EndMissing g c = rw c.in-EndMissing.is c.write_all.ensures.bytes

pub returns-in-Line : goal.returns-in-Line
returns-in-Line g c = rw c.in-Line.is c.write-in-Line.ensures.bytes

pub returns-in-EndLine : goal.returns-in-EndLine
returns-in-EndLine g c = rw c.in-EndLine.is c.write-in-EndLine.ensures.bytes
