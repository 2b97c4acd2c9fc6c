use Rattle.std.proofs.Common.{◌∙◌}
use Rattle.search_table.proofs.Numbers.{number-put, put-states}
use Rattle.search_table.proofs.states.States.push.Goals as goal

pub push-requires : goal.push-requires
push-requires c = c.requires.are.rows

pub returns-clause-are : goal.returns-clause-are
returns-clause-are c =
    let s = c.args.self.now in
    put-states s c.requires.are c.args.row.now c.args.number c.requires.free
    (record { rows = c.push.new.self; digests = c.insert_full.new.self }) c.in_ok-push.ensures.are c.in_ok-push.ensures.rows
    (c.in_ok-insert_full.ensures.keys ∙ number-put s c.requires.are c.args.row.now c.args.number c.requires.free)
