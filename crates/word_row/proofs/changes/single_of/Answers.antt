use Rattle.std.proofs.Common.{ℕ, ◌≡◌, sym, subst, arith}
use Rattle.types.specs.declared.event.Event.TheVariants.{Rmw}
use Rattle.types.specs.declared.event.RmwOp.{RmwOp}
use Rattle.types.specs.declared.event.RmwOp.TheVariants as ops
use Rattle.shared_memory.specs.Events.{IsAtomic}
use Rattle.word_row.specs.Answers.{IsMadeBy, after_single}
use Rattle.word_row.specs.declared.single.Single.{Single}
use Rattle.word_row.specs.declared.single.Single.TheVariants as single
use Rattle.word_row.proofs.Singles.{swap_made, add_made, sub_made, and_made, or_made, xor_made}
use Rattle.word_row.proofs.changes.single_of.Goals as goal

pub returns-in-And-clause-made : goal.returns-in-And-clause-made
returns-in-And-clause-made c =
    let a = c.args in
    let w = c.with_lane in
    subst (λ (op : RmwOp). IsMadeBy (Rmw op a.addr a.width a.value) (after_single (single.And w.result))) (sym c.in-And.is)
    (and_made a.addr a.width a.value w.result w.type_inv c.requires.event.0 c.requires.event.1 w.ensures)

pub returns-in-Or-clause-made : goal.returns-in-Or-clause-made
returns-in-Or-clause-made c =
    let a = c.args in
    let w = c.with_lane-in-Or in
    subst (λ (op : RmwOp). IsMadeBy (Rmw op a.addr a.width a.value) (after_single (single.Or w.result))) (sym c.in-Or.is)
    (or_made a.addr a.width a.value w.result w.type_inv c.requires.event.0 c.requires.event.1 w.ensures)

pub returns-in-Xor-clause-made : goal.returns-in-Xor-clause-made
returns-in-Xor-clause-made c =
    let a = c.args in
    let w = c.with_lane-in-Xor in
    subst (λ (op : RmwOp). IsMadeBy (Rmw op a.addr a.width a.value) (after_single (single.Xor w.result))) (sym c.in-Xor.is)
    (xor_made a.addr a.width a.value w.result w.type_inv c.requires.event.0 c.requires.event.1 w.ensures)

-- of a whole word
whole : (op tried : RmwOp) (addr width value : ℕ) (by : Single) → tried ≡ op → width ≡ 8 → IsAtomic addr width
    → (IsAtomic addr 8 → IsMadeBy (Rmw op addr 8 value) (after_single by)) → IsMadeBy (Rmw tried addr width value) (after_single by)
whole op tried addr width value by is eight atomic made =
    subst (λ (o : RmwOp). IsMadeBy (Rmw o addr width value) (after_single by)) (sym is)
    (subst (λ (w : ℕ). IsMadeBy (Rmw op addr w value) (after_single by)) (sym eight)
    (made (subst (IsAtomic addr) eight atomic)))

pub returns-in-Xchg-clause-made : goal.returns-in-Xchg-clause-made
returns-in-Xchg-clause-made c =
    let a = c.args in
    whole ops.Xchg a.op a.addr a.width a.value (single.Swap a.value) c.in-Xchg.is c.if-width-eq8.true c.requires.event.0 (swap_made a.addr a.value)

pub returns-in-Add-clause-made : goal.returns-in-Add-clause-made
returns-in-Add-clause-made c =
    let a = c.args in
    whole ops.Add a.op a.addr a.width a.value (single.Add a.value) c.in-Add.is c.if-width-eq8-2.true c.requires.event.0 (add_made a.addr a.value)

pub returns-in-Sub-clause-made : goal.returns-in-Sub-clause-made
returns-in-Sub-clause-made c =
    let a = c.args in
    let negated : ℕ = c.wrapping_neg.result in
    whole ops.Sub a.op a.addr a.width a.value (single.Add negated) c.in-Sub.is c.if-width-eq8-3.true c.requires.event.0
    (λ atomic. sub_made a.addr a.value negated atomic (omega arith) c.wrapping_neg.type_inv c.wrapping_neg.ensures)
