use Rattle.std.proofs.Common.{refl, false}
use Rattle.word_row.specs.Answers.{size_answer}
use Rattle.word_row.proofs.Standing.{noting, stepped}
use Rattle.word_row.proofs.steps.note.Goals as goal

pub load-requires : goal.load-requires
load-requires g c =
    noting g.B.Naming.table c.caller.inside.place.table_id c.args.row.now.table_id g.B.Naming.opening c.args.row.now.key
    c.caller.inside.name c.caller.inside.place.me c.args.caller.now c.caller.view_is c.caller.invariant c.requires.row
    c.caller.inside.place.id g.M.Making.event c.args.event c.requires.making c.requires.event c.requires.right

pub returns : goal.returns
returns g c =
    stepped g.B.Naming.table c.caller.inside.place.table_id c.args.row.now.table_id g.B.Naming.opening c.args.row.now.key
    c.caller.inside.name c.caller.inside.place.me c.args.caller.now c.caller.view_is c.caller.invariant c.requires.row
    c.caller.inside.place.id g.M.Making.event c.args.event c.requires.making c.requires.event
    false (λ e. size_answer g.B.Naming.opening.max e c.load.result) (λ _. 0) 0 c.load.result c.load.new.seat.me refl c.load.ensures.2
