use Rattle.std.proofs.Common.{false}
use Rattle.word_row.specs.Answers.{place_of, word_answer}
use Rattle.word_row.proofs.Standing.{reading, stepped}
use Rattle.word_row.proofs.steps.read.Goals as goal

pub load-requires : goal.load-requires
load-requires g c =
    reading g.B.Naming.table c.caller.inside.place.table_id c.args.row.now.table_id g.B.Naming.opening c.args.row.now.key
    c.caller.inside.name c.caller.inside.place.me c.args.caller.now c.caller.view_is c.caller.invariant c.requires.row
    c.caller.inside.place.id g.M.Making.event c.args.event c.requires.making c.requires.event
    c.word_place.result c.word_place.ensures c.requires.within c.requires.right c.requires.access

pub returns : goal.returns
returns g c =
    stepped g.B.Naming.table c.caller.inside.place.table_id c.args.row.now.table_id g.B.Naming.opening c.args.row.now.key
    c.caller.inside.name c.caller.inside.place.me c.args.caller.now c.caller.view_is c.caller.invariant c.requires.row
    c.caller.inside.place.id g.M.Making.event c.args.event c.requires.making c.requires.event
    false (λ e. word_answer e c.load.result) place_of c.word_place.result c.load.result c.load.new.seat.me c.word_place.ensures c.load.ensures.2
