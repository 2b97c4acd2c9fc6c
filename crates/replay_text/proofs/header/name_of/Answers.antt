use Rattle.std.proofs.Common.{◌≡◌, ap, sym, subst, ◌∙◌, Some, List, ℕ}
use Rattle.std.specs.Str.{IsUtf8}
use Rattle.std.specs.String.{string_bytes}
use Rattle.std.proofs.lemmas.Str.{IsUtf8-string_bytes}
use Rattle.replay_text.proofs.Names.{utf8_named, no_name, not_empty, never}
use Rattle.replay_text.proofs.header.name_of.Goals as goal

pub returns-in-Ok : goal.returns-in-Ok
returns-in-Ok c =
    let same : string_bytes c.in-Ok.name ≡ c.args.bytes.items = ap (λ v. v.items) c.in-Ok.ensures.ok in
    utf8_named c.args.bytes.items (not_empty c.as_slice.result.now c.args.bytes.items c.is_empty.result
    c.as_slice.ensures.value c.is_empty.ensures c.if-is_empty.false)
    (subst IsUtf8 same (IsUtf8-string_bytes c.in-Ok.name))
    ∙ ap (λ (t : List ℕ). Some t) (sym same ∙ sym c.from_string.ensures)

pub returns : goal.returns
returns c = no_name c.args.bytes.items (λ u. never (c.in-Err.ensures.succeeds u))
