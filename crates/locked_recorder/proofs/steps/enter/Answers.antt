use Rattle.std.proofs.Common.{sym, subst}
use Rattle.types.specs.declared.event.Entry.{Entry}
use Rattle.shared_memory_on_table.specs.Moves.{caller_in}
use Rattle.locked_recorder.specs.Rule.{MayMake}
use Rattle.locked_recorder.proofs.Moves.{enters}
use Rattle.locked_recorder.proofs.steps.enter.Goals as goal

pub load-requires : goal.load-requires
load-requires g c =
    let kept = c.args.keeper.now in
    let may = subst (λ (e : Entry). MayMake (caller_in kept.me.0) e) (sym c.requires.entry) c.requires.may in (
      c.requires.own,
      c.requires.row,
      enters c.args.row.now.table_id.slots kept.id kept.me kept.me.0.log
          (caller_in kept.me.0) g.M.Making.entry c.requires.guest may,
    )
