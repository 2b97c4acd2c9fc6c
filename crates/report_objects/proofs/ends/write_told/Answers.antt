use Rattle.report_objects.proofs.ends.write_told.Goals as goal

pub returns-in-Lines : goal.returns-in-Lines
returns-in-Lines g c = rw c.in-Lines.is c.write_lines.ensures

pub returns-in-Json : goal.returns-in-Json
returns-in-Json g c = rw c.in-Json.is c.write_object.ensures
