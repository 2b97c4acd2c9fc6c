use Rattle.std.proofs.Common.{◌≡◌, ◌++◌, ℕ, List, [], Option, encode_utf8, encode_utf8_all, chars, map, subst, sym}
use Rattle.std.proofs.lemmas.List.{append-nil}
use Rattle.std.proofs.lemmas.Str.{IsUtf8-past_char}
use Rattle.std.specs.Io.KnownBytes.{Appends}
use Rattle.std.specs.Str.Iter.{chars_rest}
use Rattle.replay_forms.proofs.Written.{appends_then}
use Rattle.show_text.specs.Plain.{plain_char, plain_text}
use Rattle.show_text.proofs.Parts.{one_more, nothing_left}
use Rattle.report_jobs.specs.Trapped.{Tells}
use Rattle.report_jobs.proofs.Said.{tells_behind, tells_front}
use Rattle.report_jobs.proofs.telling.say_plain.Goals as goal

pub loop-c-preserved : goal.loop-c-preserved
loop-c-preserved g c =
    let held = c.loop-c.invariant in
    let parts = c.in-Some.ensures.steps.0 in
    let now : Option (List ℕ) = g.E.Write.contents c.loop-c.err in
    let new : Option (List ℕ) = g.E.Write.contents c.say_char.new.err in
    let said : Appends now new (encode_utf8 (plain_char c.in-Some.c)) =
    subst (λ (x : ℕ). Appends now new (encode_utf8 x)) c.plain_char.ensures (c.say_char.ensures.all c.if-not-say_char.false) in (
      IsUtf8-past_char _ _ c.in-Some.c held.0 parts,
      (
        held.1.0 ++ encode_utf8 (plain_char c.in-Some.c),
        appends_then _ now new _ _ held.1.1 said,
        one_more _ _ _ _ c.in-Some.c held.0 parts held.1.2,
      ),
    )

pub returns-then-not-say_char-clause-told : goal.returns-then-not-say_char-clause-told
returns-then-not-say_char-clause-told g c =
    let held = c.loop-c.invariant in
    let parts = c.in-Some.ensures.steps.0 in
    let old : Option (List ℕ) = g.E.Write.contents c.args.err.now in
    let now : Option (List ℕ) = g.E.Write.contents c.loop-c.err in
    let new : Option (List ℕ) = g.E.Write.contents c.say_char.new.err in
    let one : List ℕ = encode_utf8 (plain_char c.in-Some.c) in
    let told : Tells now new one = subst (λ (x : ℕ). Tells now new (encode_utf8 x)) c.plain_char.ensures c.say_char.ensures.told in
    subst (λ (x : List ℕ). Tells old new x) (one_more _ _ _ _ c.in-Some.c held.0 parts held.1.2)
    (tells_front old new (held.1.0 ++ one) _ (tells_behind old now new held.1.0 one held.1.1 told))

pub returns-clause-told : goal.returns-clause-told
returns-clause-told g c =
    let held = c.loop-c.invariant in
    let all : held.1.0 ≡ plain_text c.args.text.now = nothing_left _ _ _ c.in-None.ensures.steps.0.0 held.1.2 in
    record {
      front = plain_text c.args.text.now;
      more = [];
      cut = sym (append-nil (plain_text c.args.text.now));
      told = subst (λ (x : List ℕ). Appends (g.E.Write.contents c.args.err.now) (g.E.Write.contents c.loop-c.err) x) all held.1.1;
    }

pub returns-clause-all : goal.returns-clause-all
returns-clause-all g c = λ said.
    let held = c.loop-c.invariant in
    subst (λ (x : List ℕ). Appends (g.E.Write.contents c.args.err.now) (g.E.Write.contents c.loop-c.err) x)
    (nothing_left _ _ _ c.in-None.ensures.steps.0.0 held.1.2) held.1.1
