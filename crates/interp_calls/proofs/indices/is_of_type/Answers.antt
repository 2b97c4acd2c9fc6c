use Rattle.std.proofs.Common.{rules, ◌≡◌, ◌<◌, ℕ, List, length, get_or, Bool, ◌&&◌, refl, ◌∙◌, ap}
use Rattle.std.proofs.lemmas.Option.{get_or_from_slice_get, slice_get_within}
use Rattle.std.specs.Cmp.Lexicographic.{pointwise}
use Rattle.types.specs.declared.value.ValType.{ValType}
use Rattle.types.specs.declared.value.ValType.TheVariants as types
use Rattle.types.specs.declared.parts.FuncType.{FuncType}
use denote.Enum.Bare.{sameb}
use Rattle.types.specs.contracts.value.ValType.{the_type}
use Rattle.types.specs.Equal.{is_type, are_types}
use Rattle.types.proofs.Equal.{pointwise_types}
use Rattle.interp_machine.specs.Step.{same_type}
use Rattle.interp_state.specs.declared.state.Program.{Program}
use Rattle.interp_calls.specs.Entering.{FunctionHasType}
use Rattle.interp_calls.proofs.indices.is_of_type.Goals as goal

same : (x y : ValType) → sameb the_type x y ≡ is_type x y
same types.I32 types.I32 = refl
same types.I32 types.I64 = refl
same types.I64 types.I32 = refl
same types.I64 types.I64 = refl

compared : (r : Bool) (s t : FuncType) → r ≡
    (pointwise (λ x y. sameb the_type x y) s.params t.params && pointwise (λ x y. sameb the_type x y) s.results
    t.results) →
    r ≡ same_type s t
compared r s t h =
    h ∙ ap (λ (b : Bool). b && pointwise (λ x y. sameb the_type x y) s.results t.results) (pointwise_types (λ x y. sameb the_type x y) same s.params t.params)
    ∙ ap (λ (b : Bool). are_types s.params t.params && b) (pointwise_types (λ x y. sameb the_type x y) same s.results t.results)

pub returns : goal.returns
returns c = λ t stated k e.
    let function = c.index.ensures ∙ get_or_from_slice_get c.args.program.now.functions.items c.args.function k.0 c.index.result.now k.1 in
    let first : c.index-types-index.result ≡ t =
    c.index-types-index.is ∙ ap (λ (ts : List FuncType). get_or ts c.index.result.now c.index-types-index.result) c.as_slice-types.ensures
    ∙ ap (λ n. get_or c.args.program.now.parts.now.types n c.index-types-index.result) function
    ∙ get_or_from_slice_get c.args.program.now.parts.now.types k.0 t c.index-types-index.result k.2 in
    let second : c.index-types-type_index.result ≡ stated =
    c.index-types-type_index.is ∙ ap (λ (ts : List FuncType). get_or ts c.args.type_index c.index-types-type_index.result) c.as_slice-types.ensures
    ∙ get_or_from_slice_get c.args.program.now.parts.now.types c.args.type_index stated c.index-types-type_index.result e in
    compared c.eq.result c.index-types-index.result c.index-types-type_index.result c.eq.ensures
    ∙ ap (λ (x : FuncType). same_type x c.index-types-type_index.result) first ∙ ap (same_type t) second

typed : (program : Program) (function index : ℕ) (k : (t : FuncType) × FunctionHasType program function t) →
    index ≡ get_or program.functions.items function index → index < length program.parts.now.types
typed program function index k is =
    rw (is ∙ get_or_from_slice_get program.functions.items function k.1.0 index k.1.1) (slice_get_within _ _ _ k.1.2)

pub bounds-types-index : goal.bounds-types-index
bounds-types-index c = rw c.as_slice-types.ensures (typed c.args.program.now c.args.function _ c.requires.function c.index.ensures)

pub offset_bounds-types-index : goal.offset_bounds-types-index
offset_bounds-types-index c =
    let h : c.index.result.now < length c.as_slice-types.result.now =
    rw c.as_slice-types.ensures (typed c.args.program.now c.args.function _ c.requires.function c.index.ensures) in search rules

pub bounds-types-type_index : goal.bounds-types-type_index
bounds-types-type_index c = rw c.as_slice-types.ensures (slice_get_within _ _ _ c.requires.stated.1)

pub offset_bounds-types-type_index : goal.offset_bounds-types-type_index
offset_bounds-types-type_index c =
    let h : c.args.type_index < length c.as_slice-types.result.now = rw c.as_slice-types.ensures (slice_get_within _ _ _ c.requires.stated.1) in search rules
