use Rattle.std.proofs.Common.{◌∙◌, ap, arith, length, get_or}
use Rattle.std.proofs.lemmas.List.{length-set}
use Rattle.search_memory.proofs.Windows.{changed_within, changed_outside}
use Rattle.search_memory.proofs.bytes.bytes_at.Goals.{then-from-one+then-one-from, else-from-one, else-from-one-via-then-from-one+else-one-from, else-from-one-via-else-from-one}
use Rattle.search_memory.proofs.bytes.bytes_at.Goals as goal

pub loop-one-preserved : goal.loop-one-preserved
loop-one-preserved c =
    let changes = c.args.changes.now in
    let from = c.args.from in
    let within = changed_within c.args.opening.now c.args.len changes c.loop-one.one-index _ c.loop-one-test.true
    c.loop-one.bytes c.args.width from c.requires.inside c.loop-one.invariant.are in
    let outside = changed_outside c.args.opening.now c.args.len changes c.loop-one.one-index (record { at = 0; byte = 0 }) c.loop-one-test.true
    c.loop-one.bytes c.args.width from c.requires.inside c.loop-one.invariant.are in
    elim c.if-from-one.branch [
      | then-from-one+then-one-from w ↦ record {
        long = ap length w.bytes-is ∙ (length-set c.loop-one.bytes _ _ ∙ c.loop-one.invariant.long);
        are = λ i low. ap (λ bs. get_or bs i 0) w.bytes-is ∙ within w.if-from-one.true
            (omega (arith, w.if-one-from.true, c.requires.narrow, c.loop-one.invariant.long)) i low;
      }
      | else-from-one w ↦ record {
        long = ap length w.bytes-is ∙ c.loop-one.invariant.long;
        are = λ i low. ap (λ bs. get_or bs i 0) w.bytes-is ∙ outside (λ j less e. elim w.else-from-one.branch [
          | else-from-one-via-then-from-one+else-one-from k ↦ absurd (omega (arith, k.if-one-from.false, e, less))
          | else-from-one-via-else-from-one k ↦ absurd (omega (arith, k.if-from-one.false, e))
        ]) i low;
      }
    ]
