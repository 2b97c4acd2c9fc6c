use Rattle.std.proofs.Common.{◌≡◌, ℕ, ◌+◌, ◌<◌, List, ◌∷◌, length, drop, get_or, suc, Bool, Option, Some, None}
use Rattle.std.proofs.Common.{if◌then◌else◌, nat_eq, sym, ap, ◌∙◌, add-one, drop-cons}
use Rattle.std.proofs.Math.ListN.{drop_of_length-le}
use Rattle.types.specs.declared.instr.Instr.{Instr}
use Rattle.types.specs.Tests.{closes, opens_behind}
use Rattle.types.proofs.nesting.is_expression_in.Goals as goal

-- the rest closes what is open where the rest behind its first instruction closes what is open there
past : (code : List Instr) (i : ℕ) (instr : Instr) (opens : List Bool) (behind : Option (List Bool)) → i < length code
    → instr ≡ get_or code i instr → opens_behind opens instr ≡ behind
    → closes (Some opens) (drop i code) ≡ closes behind (drop (i + 1) code)
past code i instr opens behind h e to =
    rw add-one (ap (λ k. closes (Some opens) k) (drop-cons code i instr h ∙ ap (λ x. x ∷ drop (suc i) code) (sym e))
    ∙ ap (λ o. closes o (drop (suc i) code)) to)

pub returns-then-not-step : goal.returns-then-not-step
returns-then-not-step c =
    sym (past c.args.code.now c.loop-instr.instr-index c.instr-item.result c.loop-instr.opens None c.loop-instr-test.true c.instr-item.is
    (c.step.ensures ∙ ap (λ b. if b then Some c.step.new.self else None) c.if-not-step.true))
    ∙ c.loop-instr.invariant

pub loop-instr-preserved : goal.loop-instr-preserved
loop-instr-preserved c =
    sym (past c.args.code.now c.loop-instr.instr-index c.instr-item.result c.loop-instr.opens (Some c.step.new.self) c.loop-instr-test.true c.instr-item.is
    (c.step.ensures ∙ ap (λ b. if b then Some c.step.new.self else None) c.if-not-step.false))
    ∙ c.loop-instr.invariant

pub returns : goal.returns
returns c =
    ap (λ n. nat_eq n 0) c.len.ensures
    ∙ (sym (ap (λ k. closes (Some c.loop-instr.opens) k) (drop_of_length-le c.args.code.now c.loop-instr-test.false))
    ∙ c.loop-instr.invariant)
