use Rattle.std.proofs.Common.{arith, ap, sym, ◌∙◌, length}
use Rattle.std.specs.Prelude.{ℕ, Some, slice_get, slice_range}
use Rattle.search_table.specs.Tables.{start_at}
use Rattle.search_table.proofs.Cut.{cut-at, cut-none, start-within}
use Rattle.search_table.proofs.rows.PackedRows.get.Goals as goal

pub returns-in_default : goal.returns-in_default
returns-in_default c =
    let r = c.args.self.now in
    sym (cut-none r.words.items 0 r.ends.items c.args.place
    (ap (λ l. slice_get l c.args.place) (sym c.as_slice-ends.ensures.value) ∙ (sym c.end_of.ensures ∙ c.in_default.is)))

pub words_between-requires-clause-in_order : goal.words_between-requires-clause-in_order
words_between-requires-clause-in_order c =
    let r = c.args.self.now in
    let at = ap (λ l. slice_get l c.args.place) (sym c.as_slice-ends.ensures.value) ∙ (sym c.end_of.ensures ∙ c.in-Some.is) in
    let within = start-within (length r.words.items) 0 r.ends.items c.args.place c.in-Some.end c.requires at in
    let low = within.0 in
    let from = c.start_of-from.ensures ∙ ap (λ l. start_at 0 l c.args.place) c.as_slice-ends.ensures.value in
    omega (arith, low, from)

pub words_between-requires-clause-within : goal.words_between-requires-clause-within
words_between-requires-clause-within c =
    let r = c.args.self.now in
    let at = ap (λ l. slice_get l c.args.place) (sym c.as_slice-ends.ensures.value) ∙ (sym c.end_of.ensures ∙ c.in-Some.is) in
    let within = start-within (length r.words.items) 0 r.ends.items c.args.place c.in-Some.end c.requires at in
    let high = within.1 in
    let long = ap (λ l. length l) c.as_slice-words.ensures.value in
    omega (arith, high, long)

pub returns : goal.returns
returns c =
    let r = c.args.self.now in
    let at = ap (λ l. slice_get l c.args.place) (sym c.as_slice-ends.ensures.value) ∙ (sym c.end_of.ensures ∙ c.in-Some.is) in
    let from = c.start_of-from.ensures ∙ ap (λ l. start_at 0 l c.args.place) c.as_slice-ends.ensures.value in
    ap (λ v. Some v) (c.words_between.ensures
    ∙ (ap (λ l. slice_range l c.start_of-from.result c.in-Some.end) c.as_slice-words.ensures.value
    ∙ ap (λ (n : ℕ). slice_range r.words.items n c.in-Some.end) from))
    ∙ sym (cut-at r.words.items 0 r.ends.items c.args.place c.in-Some.end at)
