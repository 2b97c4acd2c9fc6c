use Rattle.std.proofs.lemmas.Str.{is_utf8-from_IsUtf8}
use Rattle.binary_wire.proofs.Text.{no_text}
use Rattle.show_said.proofs.text.as_text.Goals as goal

pub returns-in-Ok : goal.returns-in-Ok
returns-in-Ok c = (c.in-Ok.ensures.cases.0, is_utf8-from_IsUtf8 c.args.line.now c.in-Ok.ensures.cases.1)

pub returns-in-Err : goal.returns-in-Err
returns-in-Err c = no_text c.args.line.now c.in-Err.ensures.cases.0
