use Rattle.show_text.proofs.sheet.Sheet.write_row.Goals as goal

pub returns : goal.returns
returns g c = (c.layout-at.result, c.in_ok-write.ensures.bytes)
