use Rattle.std.proofs.Common.{ℕ, ◌<◌, arith}
use Rattle.std.proofs.lemmas.List.Elements.{All-from_get_or}
use Rattle.word_row.proofs.prepared.show_bytes.Goals as goal

pub returns : goal.returns
returns c =
    let is_byte : ℕ → Type 0 = λ byte. byte < 256 in
    All-from_get_or is_byte c.args.bytes.now 0 (λ k h. omega (arith, c.type_inv.bytes k))
