use Rattle.search_finds.proofs.EndsSo.{found_so, none_so}
use Rattle.search_finds.proofs.Noting.{met_of_noted, plainly_noted}
use Rattle.search_finds.proofs.finding.first_found.Goals as goal

pub returns-clause-met : goal.returns-clause-met
returns-clause-met g c = met_of_noted _ c.args.request.now c.args.sought.now _ c.in_ok-searched.ensures.noted

pub returns-clause-noted : goal.returns-clause-noted
returns-clause-noted g c = plainly_noted _ c.args.request.now c.args.sought.now _ c.in_ok-searched.ensures.noted

pub returns-clause-found : goal.returns-clause-found
returns-clause-found g c =
    found_so c.args.request.now c.args.sought.now c.in_ok-searched.searched.halt c.in_ok-searched.ensures.found

pub returns-clause-none : goal.returns-clause-none
returns-clause-none g c =
    none_so c.args.request.now c.args.sought.now c.in_ok-searched.searched.table c.in_ok-searched.searched.halt
    c.in_ok-searched.ensures.noted
