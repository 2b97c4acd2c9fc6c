use Rattle.std.proofs.Common.{◌++◌, encode_utf8, rules}
use Rattle.std.proofs.Output.{has_written_append, has_written_of_eq}
use Rattle.std.proofs.lemmas.Str.{IsUtf8-past_char}
use Rattle.show_text.specs.Plain.{plain_char}
use Rattle.show_text.proofs.Parts.{one_more, nothing_left}
use Rattle.show_text.proofs.plain.PlainDisplay.fmt.Goals as goal

pub loop-c-preserved : goal.loop-c-preserved
loop-c-preserved g c =
    let held = c.loop-c.invariant in
    let parts = c.in-Some.ensures.steps.0 in (
      IsUtf8-past_char _ _ c.in-Some.c held.0 parts,
      (
        held.1.0 ++ encode_utf8 (plain_char c.in-Some.c),
        (λ p. has_written_append _ _ _ _ _ _ (held.1.1 p) (search rules)),
        one_more _ _ _ _ c.in-Some.c held.0 parts held.1.2,
      ),
    )

pub returns-clause-writes : goal.returns-clause-writes
returns-clause-writes g c = λ p ok. has_written_of_eq _ _ _ _ _ (nothing_left _ _ _ c.in-None.ensures.steps.0.0 c.loop-c.invariant.1.2)
    (c.loop-c.invariant.1.1 p)
