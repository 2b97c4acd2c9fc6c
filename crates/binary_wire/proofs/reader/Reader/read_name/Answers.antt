use Rattle.std.proofs.Common.{◌≡◌, refl, true, false}
use Rattle.std.specs.Str.{is_utf8}
use Rattle.std.proofs.lemmas.Str.{is_utf8-from_IsUtf8}
use Rattle.binary_wire.specs.Reading.{name_at}
use Rattle.binary_wire.proofs.Text.{no_text}
use Rattle.binary_wire.proofs.reader.Reader.read_name.Goals as goal

pub returns-in-Ok-clause-gives : goal.returns-in-Ok-clause-gives
unfolding name_at
returns-in-Ok-clause-gives c =
    let u : is_utf8 c.in_ok-bytes.bytes.now ≡ true = is_utf8-from_IsUtf8 c.in_ok-bytes.bytes.now c.in-Ok.ensures.cases.1 in
    rw (c.in_ok-size.ensures.gives, rw c.in_ok-size.ensures.keeps at c.in_ok-bytes.ensures.gives, u, c.in-Ok.ensures.cases.0) refl

pub returns-in-Err-clause-gives : goal.returns-in-Err-clause-gives
unfolding name_at
returns-in-Err-clause-gives c =
    let u : is_utf8 c.in_ok-bytes.bytes.now ≡ false = no_text c.in_ok-bytes.bytes.now c.in-Err.ensures.cases.0 in
    rw (c.in_ok-size.ensures.gives, rw c.in_ok-size.ensures.keeps at c.in_ok-bytes.ensures.gives, u, c.offset-offset.ensures, c.in_ok-size.ensures.keeps) refl
