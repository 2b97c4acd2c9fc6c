use Rattle.std.proofs.Common.{ℕ, ◌≡◌, ◌+◌, codes, List, [], ◌∷◌, Option, Some, None, refl, arith}
use Rattle.std.proofs.lemmas.Result.{on_ok_weaker}
use Rattle.std.specs.Borrow.{Bor}
use Rattle.show_json.specs.Json.{Field, is_given, are_some}
use Rattle.show_json.specs.Sent.{count, given}
use Rattle.show_json.specs.Functions.{chain_json, function_fields, offset_field, source_field, value_json, word_json}
use Rattle.show_json.proofs.Sent.{object_sent, count_given, count_some, same_some, some_same}
use Rattle.show_json.proofs.functions.ToldFunctionToJson.send.Goals as goal

count_offset : (o : Option ℕ) (fs : List Field) → count (offset_field o ∷ fs) ≡ given o + count fs
count_offset None fs = omega arith
count_offset (Some n) fs = omega arith

count_source : (o : Option (Bor (List ℕ) × ℕ)) (fs : List Field) → count (source_field o ∷ fs) ≡ given o + count fs
count_source None fs = omega arith
count_source (Some s) fs = omega arith

pub returns : goal.returns
returns g c =
    let f = c.args.self.now in
    let values = are_some (codes "values") value_json f.values.items ∷ [] in
    let operands = are_some (codes "operands") word_json f.operands.items ∷ values in
    let locals = are_some (codes "locals") word_json f.locals.items ∷ operands in
    let inlined = is_given (codes "inlined") chain_json f.chain ∷ locals in
    let source = source_field f.spot.source ∷ inlined in
    let n_offset = count_offset f.spot.offset source in
    let n_source = count_source f.spot.source inlined in
    let n_inlined = count_given (codes "inlined") chain_json f.chain locals in
    let n_locals = count_some (codes "locals") word_json f.locals.items operands in
    let n_operands = count_some (codes "operands") word_json f.operands.items values in
    let n_values = count_some (codes "values") value_json f.values.items [] in
    let s_locals = some_same _ _ c.as_slice-locals.ensures.value in
    let s_operands = some_same _ _ c.as_slice-operands.ensures.value in
    let s_values = some_same _ _ c.as_slice-values.ensures.value in
    let fields = function_fields f in
    let all : 1 + (c.given.result + c.given-2.result + c.given-3.result) + c.some.result + c.some-2.result + c.some-3.result
    ≡ count fields =
    omega (arith, n_offset, n_source, n_inlined, n_locals, n_operands, n_values, s_locals, s_operands, s_values) in
    on_ok_weaker c.end_map.result (object_sent fields _ _ _ _ _ all c.in_ok-begin_map.ensures (
      _,
      c.in_ok-put.ensures,
      (
        _,
        c.in_ok-put_offset.ensures,
        (
          _,
          c.in_ok-put_source.ensures,
          (
            _,
            c.in_ok-put_if.ensures,
            (
              _,
              same_some (codes "locals") word_json _ _ _ _ c.as_slice-locals.ensures.value c.in_ok-put_some.ensures,
              (
                _,
                same_some (codes "operands") word_json _ _ _ _ c.as_slice-operands.ensures.value c.in_ok-put_some-2.ensures,
                (
                  _,
                  same_some (codes "values") value_json _ _ _ _ c.as_slice-values.ensures.value c.in_ok-put_some-3.ensures,
                  refl,
                ),
              ),
            ),
          ),
        ),
      ),
    )) c.end_map.ensures
