use Rattle.std.proofs.Common.{ℕ, ◌∙◌, ◌++◌, List, ap, refl}
use Rattle.std.specs.String.{string_bytes}
use Rattle.show_stacks.proofs.Added.{calls_next}
use Rattle.show_stacks.proofs.texts.push_calls.Goals as goal

pub loop-at-preserved : goal.loop-at-preserved
loop-at-preserved c =
    let behind : List ℕ → List ℕ = λ text. string_bytes c.loop-at.text ++ text in
    calls_next c.args.code.now c.args.calls.now c.loop-at.at (record { function = 0; instr = 0 }) _
    (string_bytes c.args.text.now) (string_bytes c.loop-at.text) (string_bytes c.push_str.new.self)
    (string_bytes c.in_ok-call.call) c.loop-at-test.true refl c.loop-at.invariant c.in_ok-call.ensures
    (c.in_ok-push_str.ensures.bytes ∙ ap behind c.as_str.ensures.value)
