use Rattle.std.proofs.Common.{rules, false, ℕ, ◌≡◌, ◌+◌, ◌-◌, ◌^◌, ◌<◌, List, [], ◌∷◌, ◌++◌, get_or, take, arith, ap, sym, ◌∙◌, subst}
use Rattle.std.specs.Fmt.{digits, padded_integral, format_spec}
use Rattle.std.specs.Io.KnownBytes.{Appends}
use Rattle.std.proofs.lemmas.Fmt.{hex_byte}
use Rattle.std.proofs.lemmas.Grind.{flat_map-append}
use Rattle.std.proofs.lemmas.List.{take_more}
use Rattle.replay_forms.proofs.Written.{appends_then}
use Rattle.report_lines.specs.Lines as lines
use Rattle.report_lines.proofs.lines.write_hex.Goals as goal

pub loop-byte-preserved : goal.loop-byte-preserved
loop-byte-preserved g c =
    let first = g.W.Write.contents c.args.out.now in
    let old = g.W.Write.contents c.loop-byte.out in
    let new = g.W.Write.contents c.write.new.self in
    let bytes = c.args.bytes.now in
    let k = c.loop-byte.byte-index in
    let b = get_or bytes k 0 in
    let small : b < 256 = omega (arith, c.type_inv.bytes k) in
    let padded : Appends old new (32 ∷ padded_integral (format_spec 32 0 4 2 (2 ^ 64 - 1)) false [] (digits 16 false b)) = search rules in
    let wrote : Appends old new (lines.hex_byte b) = rw (hex_byte false b small) at padded in
    let next : lines.hex_bytes (take (k + 1) bytes) ≡ lines.hex_bytes (take k bytes) ++ lines.hex_byte b
    = ap lines.hex_bytes (take_more bytes k 0 c.loop-byte-test.true) ∙ flat_map-append lines.hex_byte (take k bytes) (b ∷ []) in
    subst (λ (text : List ℕ). Appends first new text) (sym next)
    (appends_then first old new (lines.hex_bytes (take k bytes)) (lines.hex_byte b) c.loop-byte.invariant wrote)
