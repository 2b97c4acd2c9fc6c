use Rattle.std.proofs.Common.{Some, false, arith}
use Rattle.word_row.specs.Answers.{place_of, made_reply}
use Rattle.word_row.proofs.Standing.{putting, stepped}
use Rattle.word_row.proofs.steps.store.Goals as goal

pub store-requires : goal.store-requires
store-requires g c =
    putting g.B.Naming.table c.caller.inside.place.table_id c.args.row.now.table_id g.B.Naming.opening c.args.row.now.key
    c.caller.inside.name c.caller.inside.place.me c.args.caller.now c.caller.view_is c.caller.invariant c.requires.row
    c.caller.inside.place.id g.M.Making.event c.args.event c.requires.making c.requires.event
    c.word_place.result c.word_place.ensures c.requires.within c.requires.right c.args.new (omega arith) c.requires.makes

pub returns : goal.returns
returns g c =
    let found = c.store.ensures.2.0 in (
      found,
      stepped g.B.Naming.table c.caller.inside.place.table_id c.args.row.now.table_id g.B.Naming.opening c.args.row.now.key
          c.caller.inside.name c.caller.inside.place.me c.args.caller.now c.caller.view_is c.caller.invariant c.requires.row
          c.caller.inside.place.id g.M.Making.event c.args.event c.requires.making c.requires.event
          false (λ e. Some (made_reply e found)) place_of c.word_place.result found c.store.new.seat.me c.word_place.ensures c.store.ensures.2.1,
    )
