use Rattle.report_first.proofs.bytes_to_lines.run_first.Goals as goal

pub run_valid-requires-clause-address_below : goal.run_valid-requires-clause-address_below
run_valid-requires-clause-address_below g c κs within = c.requires.address_below

pub run_valid-requires-clause-addend_below : goal.run_valid-requires-clause-addend_below
run_valid-requires-clause-addend_below g c κs within = c.requires.addend_below
