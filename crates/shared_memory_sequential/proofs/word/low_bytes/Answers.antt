use Rattle.std.proofs.Common.{◌≡◌, ◌*◌, ◌^◌, ◌%◌, ap, ◌∙◌, arith}
use Rattle.shared_memory_sequential.proofs.Lanes.{cut_by_mask}
use Rattle.shared_memory_sequential.proofs.word.low_bytes.Goals as goal

pub returns : goal.returns
returns c =
    let bits : 8 * c.from.result ≡ 8 * c.args.width = omega arith in
    cut_by_mask _ (8 * c.from.result) (omega arith) ∙ ap (λ j. c.args.number % 2 ^ j) bits
