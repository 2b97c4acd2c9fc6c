use Rattle.std.proofs.Common.{◌≡◌, ◌==◌, ◌∙◌, ℕ, List, ap, false, length, refl, sym, true}
use Rattle.show_race_words.proofs.Stacking.{line_by, none_by}
use Rattle.show_race_words.proofs.stacks.stack_line.Goals as goal

pub returns-then-is_empty : goal.returns-then-is_empty
returns-then-is_empty c =
    let none = ap (λ (l : List ℕ). length l == 0) (sym c.as_bytes.ensures.value) ∙ sym c.is_empty.ensures ∙ c.if-is_empty.true in
    none_by c.args.shown c.args.story.now c.args.stacks c.args.thread c.args.at _ _ c.in_ok-calls.ensures none c.new.ensures.bytes

pub returns : goal.returns
returns c =
    let some = ap (λ (l : List ℕ). length l == 0) (sym c.as_bytes.ensures.value) ∙ sym c.is_empty.ensures ∙ c.if-is_empty.false in
    line_by c.args.shown c.args.story.now c.args.stacks c.args.thread c.args.at c.place_at.result _ _ _ c.in_ok-calls.ensures some
    c.place_at.ensures c.in_ok-spot.ensures c.in_ok-text.ensures.ok
