use Rattle.std.proofs.Common.{◌∙◌, subst, arith}
use Rattle.std.specs.Mem.Slots.{slots_items}
use Rattle.shared_memory.specs.Memory.{Memory}
use Rattle.word_row.specs.Rule.{KeptRow}
use Rattle.word_row.proofs.Moves.{arrives}
use Rattle.word_row.proofs.Closing.{stands_for}
use Rattle.word_row.proofs.row.WordRow.close.Goals as goal

pub load_new_seat-host-requires : goal.load_new_seat-host-requires
load_new_seat-host-requires g c =
    let count = c.args.self.row.count in
    (omega (arith, count), arrives c.args.self.board.shared.key c.args.self.board.shared.table_id.slots)

pub invariant_of-result : goal.invariant_of-result
invariant_of-result g c =
    let row = c.args.self.row in
    let values = c.close_with.ensures.values in
    let final = values.2 in
    let kept : KeptRow g.B.Naming.opening final.0 = subst (λ (k : Memory). KeptRow k final.0) row.key final.1.0 in
    let stands = stands_for g.B.Naming.opening c.args.self.pages_max (slots_items c.close_with.result.words) final.0 c.args.self.sized kept final.2 in
    (values.0, c.close_with.ensures.counts.1 ∙ row.slots, (stands.again, stands.stored))

pub returns : goal.returns
returns g c =
    let row = c.args.self.row in
    let values = c.close_with.ensures.values in
    let final = values.2 in
    let kept : KeptRow g.B.Naming.opening final.0 = subst (λ (k : Memory). KeptRow k final.0) row.key final.1.0 in
    let stands = stands_for g.B.Naming.opening c.args.self.pages_max (slots_items c.close_with.result.words) final.0 c.args.self.sized kept final.2 in
    let host = c.gather.new.host in
    let mine = kept.seated.each host.id host.me.0 final.1.1 in
    (kept.log, c.gather.ensures.all kept.log mine.begins, kept.words.seen, stands.memory)
