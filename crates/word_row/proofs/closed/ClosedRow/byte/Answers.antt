use Rattle.std.proofs.Common.{◌≡◌, ◌<◌, ◌*◌, ◌+◌, ◌/◌, ℕ, ap, sym, subst, ◌∙◌, get_or, length, List, Some, arith}
use Rattle.std.specs.Prelude.{slice_get}
use Rattle.std.specs.Mem.Slots.{slots_items, slots_counts}
use Rattle.shared_memory.specs.Memory.{Memory, pages}
use Rattle.word_row.specs.Words.{memory_of, words_of}
use Rattle.word_row.proofs.Memories.{length-words_of}
use Rattle.word_row.proofs.Settling.{holds}
use Rattle.word_row.proofs.Closing.{byte_within, byte_past, byte_is, found_at}
use Rattle.word_row.proofs.closed.ClosedRow.byte.Goals as goal

pub returns-then-addr-pages : goal.returns-then-addr-pages
returns-then-addr-pages c = byte_past c.args.self.now c.args.addr c.pages.ensures.sized (let e = c.pages.ensures.count in omega arith)

pub word-word-requires : goal.word-word-requires
word-word-requires c =
    let inv = c.self.invariant in
    let m : Memory = memory_of c.self.inside.pages_max (slots_items c.self.inside.closed.words) in
    let count = c.pages.ensures.count ∙ sym (ap pages c.self.view_is) in
    let inside = byte_within m c.args.addr inv.2.1 (omega (arith, count, c.if-addr-pages.false)) in
    let counted = (holds m c.args.addr inv.2.1 inside).counted in
    let long : length (slots_items c.self.inside.closed.words) ≡ 8192 * m.max + 1 = ap (λ (l : List ℕ). length l) inv.2.0 ∙ length-words_of m in
    (omega (arith, counted, long, (slots_counts c.self.inside.closed.words).0), inv.0)

pub overflow_cast-result : goal.overflow_cast-result
overflow_cast-result c =
    let inv = c.self.invariant in
    let m : Memory = memory_of c.self.inside.pages_max (slots_items c.self.inside.closed.words) in
    let count = c.pages.ensures.count ∙ sym (ap pages c.self.view_is) in
    let inside = byte_within m c.args.addr inv.2.1 (omega (arith, count, c.if-addr-pages.false)) in
    let at : get_or (words_of m) (c.args.addr / 8 + 1) 0 ≡ c.word-word.result =
    ap (λ (l : List ℕ). get_or l (c.args.addr / 8 + 1) 0) (sym inv.2.0)
    ∙ (found_at (slots_items c.self.inside.closed.words)
    (c.args.addr / 8 + 1) c.word-word.result c.word-word.ensures).1 in
    let byte = byte_is m c.args.addr c.word-word.result inv.2.1 inside at in
    let fits = subst (λ (n : ℕ). n < 256) (sym c.lane.ensures) byte.fits in
    omega (arith, fits)

pub returns : goal.returns
returns c =
    let inv = c.self.invariant in
    let m : Memory = memory_of c.self.inside.pages_max (slots_items c.self.inside.closed.words) in
    let count = c.pages.ensures.count ∙ sym (ap pages c.self.view_is) in
    let inside = byte_within m c.args.addr inv.2.1 (omega (arith, count, c.if-addr-pages.false)) in
    let at : get_or (words_of m) (c.args.addr / 8 + 1) 0 ≡ c.word-word.result =
    ap (λ (l : List ℕ). get_or l (c.args.addr / 8 + 1) 0) (sym inv.2.0)
    ∙ (found_at (slots_items c.self.inside.closed.words)
    (c.args.addr / 8 + 1) c.word-word.result c.word-word.ensures).1 in
    let byte = byte_is m c.args.addr c.word-word.result inv.2.1 inside at in
    ap Some c.lane.ensures ∙ byte.is ∙ ap (λ (x : Memory). slice_get x.bytes c.args.addr) c.self.view_is
