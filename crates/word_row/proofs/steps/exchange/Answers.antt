use Rattle.std.proofs.Common.{true, arith}
use Rattle.shared_memory_on_table.specs.Moves.{caller_in}
use Rattle.word_row.specs.Answers.{place_of, exchange_answer}
use Rattle.word_row.proofs.Access.{lost_try}
use Rattle.word_row.proofs.Standing.{exchanging, stepped}
use Rattle.word_row.proofs.steps.exchange.Goals as goal

pub compare_exchange-found-requires : goal.compare_exchange-found-requires
compare_exchange-found-requires g c =
    exchanging g.B.Naming.table c.caller.inside.place.table_id c.args.row.now.table_id g.B.Naming.opening c.args.row.now.key
    c.caller.inside.name c.caller.inside.place.me c.args.caller.now c.caller.view_is c.caller.invariant c.requires.row
    c.caller.inside.place.id g.M.Making.event c.args.event c.requires.making c.requires.event
    c.word_place-place.result c.word_place-place.ensures c.requires.within c.args.old c.args.change.new (omega arith) c.requires.change.makes

pub returns : goal.returns
returns g c =
    let found = c.compare_exchange-found.result in
    let after = c.compare_exchange-found.new.seat.me in
    record {
      tried = lost_try g.B.Naming.opening c.args.event c.args.old found c.args.change.new c.args.caller.now (caller_in after.0) c.requires.row.stored
          c.requires.event c.requires.within c.requires.change.makes c.requires.word
          (stepped g.B.Naming.table c.caller.inside.place.table_id c.args.row.now.table_id g.B.Naming.opening c.args.row.now.key
          c.caller.inside.name c.caller.inside.place.me c.args.caller.now c.caller.view_is c.caller.invariant c.requires.row
          c.caller.inside.place.id g.M.Making.event c.args.event c.requires.making c.requires.event
          true (λ e. exchange_answer e c.args.old found) place_of c.word_place-place.result found after c.word_place-place.ensures
          c.compare_exchange-found.ensures.2)
          c.if-found-old.false;
    }
