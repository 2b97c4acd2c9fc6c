use Rattle.report_command.proofs.call.call_of.Goals as goal

pub returns-clause-asks : goal.returns-clause-asks
returns-clause-asks c = record { invoke = c.in_ok-invoke.ensures; args = c.in_ok-args.ensures; fuel = c.in_ok-fuel.ensures.found }
