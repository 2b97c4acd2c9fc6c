-- On operands of the types that it takes, a numeric instruction lacks nothing.
use Rattle.std.proofs.Common.{◌≡◌, ℕ, List, [], ◌∷◌, ◌++◌, map, Result, Ok, Err, refl, sym, ap, ◌∙◌, subst}
use Rattle.types.specs.Values.{type_of}
use Rattle.types.specs.Widths.{narrow_type}
use Rattle.types.specs.declared.outcome.Trap.{Trap}
use Rattle.types.specs.declared.value.ValType.{ValType}
use Rattle.types.specs.declared.value.ValType.TheVariants as types
use Rattle.types.specs.declared.value.Value.{Value}
use Rattle.types.specs.declared.value.Value.TheVariants as values
use Rattle.types.specs.declared.operators.ConvertOp.TheVariants as convert
use Rattle.types.specs.declared.operators.NumericInstr.{NumericInstr}
use Rattle.types.specs.declared.operators.NumericInstr.TheVariants as instrs
use Rattle.interp_numeric.specs.Integers.{ieqz, wrap, extend_u, extend_s}
use Rattle.interp_numeric.specs.Results.{width, value_of, unary_result, binary_result, compare_result, NumericResult}
use Rattle.interp_numeric.specs.Results.{Traps, Gives, with_integer, with_two, given, sign_extension, numeric_result}
use Rattle.validate_typing.specs.Typing.{numeric_takes, numeric_gives}
use Rattle.interp_numeric.specs.Laws.{HasTypes, TypedResults, onto, BelowStays}

-- what an instruction makes of operands, with others below them
pub data Works (n : NumericInstr) (operands low : List Value) (below : List ValType) : Type 0 where
  Leaves : (v : Value) (rest : List Value) → numeric_result n operands ≡ Gives v rest
      → numeric_result n (operands ++ low) ≡ Gives v (rest ++ low) → type_of v ≡ numeric_gives n
      → map type_of rest ≡ below → Works n operands low below
  Trapped : (trap : Trap) → numeric_result n operands ≡ Traps trap → numeric_result n (operands ++ low) ≡ Traps trap → Works n operands low below

-- an operand of a type on top
record Top (t : ValType) (operands : List Value) (below : List ValType) : Type 0 where
  integer : ℕ
  rest : List Value
  is : operands ≡ value_of t integer ∷ rest
  typed : map type_of rest ≡ below

top : (t : ValType) (operands : List Value) (below : List ValType) → map type_of operands ≡ t ∷ below → Top t operands below
top t [] below h = absurd cc
top types.I32 (values.I32 i ∷ rest) below h = record { integer = i; rest = rest; is = refl; typed = cc }
top types.I32 (values.I64 i ∷ rest) below h = absurd cc
top types.I64 (values.I32 i ∷ rest) below h = absurd cc
top types.I64 (values.I64 i ∷ rest) below h = record { integer = i; rest = rest; is = refl; typed = cc }

taken : (t : ValType) (i : ℕ) (rest : List Value) (go : ℕ → List Value → NumericResult) → with_integer t (value_of t i ∷ rest) go ≡ go i rest
taken types.I32 i rest go = refl
taken types.I64 i rest go = refl

type_of-value_of : (t : ValType) (i : ℕ) → type_of (value_of t i) ≡ t
type_of-value_of types.I32 i = refl
type_of-value_of types.I64 i = refl

-- an instruction on one operand
on_one : (n : NumericInstr) (t : ValType) (answer : ℕ → Value)
    → ((operands : List Value) → numeric_result n operands ≡ with_integer t operands (λ i rest. Gives (answer i) rest))
    → ((i : ℕ) → type_of (answer i) ≡ numeric_gives n) →
    (operands low : List Value) (below : List ValType) → map type_of operands ≡ t ∷ below → Works n operands low below
on_one n t answer meaning typed operands low below h =
    let a = top t operands below h in
    subst (λ (x : List Value). Works n x low below) (sym a.is)
    (Leaves (answer a.integer) a.rest
    (meaning (value_of t a.integer ∷ a.rest) ∙ taken t a.integer a.rest _)
    (meaning (value_of t a.integer ∷ (a.rest ++ low)) ∙ taken t a.integer (a.rest ++ low) _)
    (typed a.integer)
    a.typed)

-- what an operator gave
on_given : (n : NumericInstr) (t : ValType) (r : Result ℕ Trap) (operands rest low : List Value)
    (below : List ValType) → numeric_gives n ≡ t → numeric_result n operands ≡ given t r rest
    → numeric_result n (operands ++ low) ≡ given t r (rest ++ low) → map type_of rest ≡ below
    → Works n operands low below
on_given n t (Ok i) operands rest low below is p q h = Leaves (value_of t i) rest p q (type_of-value_of t i ∙ sym is) h
on_given n t (Err trap) operands rest low below is p q h = Trapped trap p q

-- an instruction on two operands, the second on top
on_two : (n : NumericInstr) (t u : ValType) (answer : ℕ → ℕ → Result ℕ Trap) → numeric_gives n ≡ u
    → ((operands : List Value) → numeric_result n operands ≡ with_two t operands
    (λ i j rest. given u (answer i j) rest)) →
    (operands low : List Value) (below : List ValType) → map type_of operands ≡ t ∷ (t ∷ below) → Works n operands low below
on_two n t u answer is meaning operands low below h =
    let b = top t operands (t ∷ below) h in
    let a = top t b.rest below b.typed in
    let all : operands ≡ value_of t b.integer ∷ (value_of t a.integer ∷ a.rest) = b.is ∙ ap (λ (x : List Value). value_of t b.integer ∷ x) a.is in
    subst (λ (x : List Value). Works n x low below) (sym all)
    (on_given n u (answer a.integer b.integer) (value_of t b.integer ∷ (value_of t a.integer ∷ a.rest)) a.rest low below is
    (meaning (value_of t b.integer ∷ (value_of t a.integer ∷ a.rest)) ∙ taken t b.integer (value_of t a.integer ∷ a.rest) _ ∙ taken t a.integer a.rest _)
    (meaning (value_of t b.integer ∷ (value_of t a.integer ∷ (a.rest ++ low)))
    ∙ taken t b.integer (value_of t a.integer ∷ (a.rest ++ low)) _ ∙ taken t a.integer (a.rest ++ low) _)
    a.typed)

pub works : (n : NumericInstr) (operands low : List Value) (below : List ValType) → map type_of operands ≡ numeric_takes n ++ below → Works n operands low below
works (instrs.Unary t op) operands low below h =
    on_one (instrs.Unary t op) t (λ i. value_of t (unary_result (width t) op i)) (λ operands. refl)
    (λ i. type_of-value_of t _) operands low below h
works (instrs.Binary t op) operands low below h = on_two (instrs.Binary t op) t t (binary_result (width t) op) refl (λ operands. refl) operands low below h
works (instrs.Test t) operands low below h = on_one (instrs.Test t) t (λ i. values.I32 (ieqz (width t) i)) (λ operands. refl) (λ i. refl) operands low below h
works (instrs.Compare t op) operands low below h =
    on_two (instrs.Compare t op) t types.I32 (λ i j. Ok (compare_result (width t) op i j)) refl (λ operands. refl)
    operands low below h
works (instrs.Convert convert.WrapI64) operands low below h =
    on_one (instrs.Convert convert.WrapI64) types.I64 (λ i. values.I32 (wrap 64 32 i)) (λ operands. refl)
    (λ i. refl) operands low below h
works (instrs.Convert convert.ExtendI32S) operands low below h =
    on_one (instrs.Convert convert.ExtendI32S) types.I32 (λ i. values.I64 (extend_s 32 64 i)) (λ operands. refl)
    (λ i. refl) operands low below h
works (instrs.Convert convert.ExtendI32U) operands low below h =
    on_one (instrs.Convert convert.ExtendI32U) types.I32 (λ i. values.I64 (extend_u 32 64 i)) (λ operands. refl)
    (λ i. refl) operands low below h
works (instrs.Convert (convert.SignExtend w)) operands low below h =
    on_one (instrs.Convert (convert.SignExtend w)) (narrow_type w) (sign_extension w) (λ operands. refl)
    (λ i. type_of-value_of (narrow_type w) _) operands low below h

has_types : (n : NumericInstr) (operands : List Value) (below : List ValType) → Works n operands [] below → HasTypes n below (numeric_result n operands)
has_types n operands below (Leaves v rest p q t h) = rw p (rw (t, h) refl)
has_types n operands below (Trapped trap p q) = rw p tt

pub typed_results : TypedResults
typed_results n operands below h = has_types n operands below (works n operands [] below h)

stays : (n : NumericInstr) (operands low : List Value) (below : List ValType) → Works n operands low below
    → numeric_result n (operands ++ low) ≡ onto low (numeric_result n operands)
stays n operands low below (Leaves v rest p q t h) = q ∙ sym (ap (onto low) p)
stays n operands low below (Trapped trap p q) = q ∙ sym (ap (onto low) p)

pub below_stays : BelowStays
below_stays n operands low below h = stays n operands low below (works n operands low below h)
