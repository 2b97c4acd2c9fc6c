use Rattle.std.proofs.Common.{◌≡◌, ◌<◌, ◌++◌, List, [], Some, length, get_or, map, refl, ◌∙◌, ap, arith}
use Rattle.std.proofs.lemmas.Option.{slice_get-get_or, slice_get_within}
use Rattle.std.specs.List.{slice_get}
use Rattle.types.specs.declared.value.ValType.{ValType}
use Rattle.types.specs.declared.parts.FuncType.{FuncType}
use Rattle.types.specs.declared.parts.Body.{Body}
use Rattle.types.specs.declared.parts.Parts.{Parts}
use Rattle.types.specs.Values.{type_of}
use Rattle.interp_machine.specs.Program.{zero_of, opening_globals}
use Rattle.interp_state.proofs.Words.{means_same}
use Rattle.interp.proofs.Begun.{one_function}
use Rattle.interp.proofs.Starting.{one_found, starts, few_values}
use Rattle.interp.proofs.entry.start.Goals as goal

pub opening_values-requires : goal.opening_values-requires
opening_values-requires c =
    let r = c.requires in
    let same = one_found _ _ _ c.in-Some-body.ensures r.2.body_is in
    let locals : c.as_slice.result.now ≡ r.1.locals = c.as_slice.ensures ∙ ap (λ (b : Body). b.locals) same in
    let l = ap length locals in
    let few = few_values c.args.valid.now.parts c.args.own r.0 r.1 c.args.args.now c.parts-parts.ensures.tested r.2 r.3 in
    omega arith

pub returns-clause-stands : goal.returns-clause-stands
returns-clause-stands c = λ t body f.
    let r = c.requires in
    let m = c.args.valid.now.parts in
    let one = one_function m c.args.own r.0 t r.1 body r.2 f in
    let fit : map type_of c.args.args.now ≡ t.params = r.3 ∙ ap (λ (x : FuncType). x.params) one.0 in
    let same = one_found _ _ _ c.in-Some-body.ensures f.body_is in
    let found = c.in-Some.ensures in
    let index = one_found _ _ _ found.1 f.typed in
    let type_is = one_found _ _ _ found.2 (ap (λ i. slice_get m.types i) index ∙ f.type_is) in
    let locals : c.as_slice.result.now ≡ body.locals = c.as_slice.ensures ∙ ap (λ (b : Body). b.locals) same in
    let within : c.args.own < length c.args.valid.now.tables =
    (let h = slice_get_within m.bodies c.args.own body f.body_is in let e = c.parts-parts.ensures.validated.long in omega arith) in
    let rows = get_or c.args.valid.now.tables c.args.own [] in
    let there : slice_get c.args.valid.now.tables c.args.own ≡ Some rows = slice_get-get_or c.args.valid.now.tables c.args.own [] within in
    starts c.args.valid.now _ c.args.own t body rows c.args.args.now c.parts-parts.ensures.validated
    c.parts-parts.ensures.tested.bodies f fit
    (record {
      program = c.in_ok-program.ensures;
      function = refl;
      rows_are = there;
      code = c.code_of-code.ensures.code body (ap (λ (y : Parts). slice_get y.bodies c.args.own) c.in_ok-program.ensures.parts ∙ f.body_is);
      table = c.code_of-code.ensures.table rows (ap (λ x. slice_get x c.args.own) c.in_ok-program.ensures.tables ∙ there);
      pc = refl;
      base = refl;
      operands = c.len.ensures ∙ c.in_ok-values.values.ok.0;
      results = c.len-2.ensures ∙ ap (λ (x : FuncType). length x.results) type_is;
      values = means_same _ _ _ (ap (λ (ts : List ValType). c.args.args.now ++ map zero_of ts) locals) c.in_ok-values.ensures.items;
      globals = c.in_ok-globals.ensures ∙ ap opening_globals c.parts-parts.ensures.parts;
      callers = c.in_ok-callers.ensures.items;
      progress = refl;
      few = few_values m c.args.own t body c.args.args.now c.parts-parts.ensures.tested f fit;
    })

pub unreachable-requires : goal.unreachable-requires
unreachable-requires c =
    let h : c.args.own < length c.args.valid.now.parts.functions = slice_get_within _ _ _ c.requires.2.typed in let e = c.in_default.ensures in omega arith

pub unreachable-requires-in_default-body : goal.unreachable-requires-in_default-body
unreachable-requires-in_default-body c = let h = c.requires.2.body_is in let e = c.in_default-body.ensures in cc

pub code_of-code-requires-clause-body : goal.code_of-code-requires-clause-body
code_of-code-requires-clause-body c = rw c.in_ok-program.ensures.parts (slice_get_within _ _ _ c.requires.2.body_is)

pub code_of-code-requires-clause-table : goal.code_of-code-requires-clause-table
code_of-code-requires-clause-table c =
    let h : c.args.own < length c.args.valid.now.parts.bodies = slice_get_within _ _ _ c.requires.2.body_is in
    let e = c.parts-parts.ensures.validated.long in rw c.in_ok-program.ensures.tables (omega arith)

pub returns-clause-room : goal.returns-clause-room
returns-clause-room c = record { values = c.in_ok-values.ensures.room; callers = c.in_ok-callers.ensures.exact }
