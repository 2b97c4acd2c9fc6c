use Rattle.std.proofs.Common.{◌∙◌, ap, ℕ}
use Rattle.atomic_table.specs.Table.{Me}
use Rattle.shared_memory_on_table.specs.declared.view.View.{View}
use Rattle.shared_memory_on_table.specs.Moves.{caller_in}
use Rattle.locked_recorder.proofs.Moves.{learns, guest_on}
use Rattle.locked_recorder.proofs.steps.look.Goals as goal

pub load-requires : goal.load-requires
load-requires c =
    let d = c.args.keeper.now.me in
    let m = c.args.caller.now.me in (
      c.hand.ensures.to.0 ∙ c.requires.own.0,
      c.requires.row,
      learns c.args.row.now.table_id.slots c.hand.new.to.id c.hand.new.to.me d.0.log (caller_in m.0)
          (ap (λ (x : Me ℕ View). x.0) c.hand.ensures.to.1 ∙ guest_on d m c.requires.keeper c.requires.caller),
    )
