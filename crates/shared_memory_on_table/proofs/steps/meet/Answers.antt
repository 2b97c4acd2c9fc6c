use Rattle.std.proofs.Common.{ℕ, ◌∙◌, ap}
use Rattle.atomic_table.specs.Table.{Me}
use Rattle.shared_memory_on_table.specs.declared.view.View.{View}
use Rattle.shared_memory_on_table.specs.Moves.{caller_in}
use Rattle.shared_memory_on_table.proofs.Moves.{meets, both_on}
use Rattle.shared_memory_on_table.proofs.steps.meet.Goals as goal

pub load-requires : goal.load-requires
load-requires g c =
    let a = c.args.a.now.me in
    let b = c.args.b.now.me in
    let on_one = ap (λ (x : Me ℕ View). x.0) c.hand.ensures.to.1 ∙ both_on a b c.requires.a c.requires.b in
    let row = c.args.row.now in (
      c.hand.ensures.to.0 ∙ c.requires.own.0,
      c.requires.row,
      meets g.H.History.has_keeper (g.H.History.agree row.key) row.table_id.slots c.hand.new.to.id c.hand.new.to.me (caller_in b.0) (caller_in a.0) on_one,
    )
