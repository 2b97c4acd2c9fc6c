-- The operands at a place of a function of a valid module.
use Rattle.std.proofs.Common.{◌≡◌, inl, inr, ℕ, List, Option, Some, None, Result, Ok, Err, IfOk, refl, subst}
use Rattle.std.specs.Option.{MatchOption}
use Rattle.types.specs.declared.value.ValType.{ValType}
use Rattle.types.specs.declared.parts.FuncType.{FuncType}
use Rattle.types.specs.declared.parts.Body.{Body}
use Rattle.types.specs.declared.parts.Parts.{Parts}
use Rattle.validate_typing.specs.Context.{Context, context_of, in_function}
use Rattle.validate_typing.specs.Validity.{IsValid}
use Rattle.validate_bodies.specs.Reached.{Reached, Unreached}
use Rattle.validate_module.specs.Own.{IsOwn}
use Rattle.validate.specs.Operands.{HasOwnOperands, LacksOperands}
use Rattle.validate.proofs.TableLaws.{valid_own}

-- a place of a typed body without operands
lacks_own : (m : Parts) (own place : ℕ) (t : FuncType) (b : Body) → IsValid m → IsOwn m own t b →
    Unreached (in_function (context_of m) t b) b.code place → LacksOperands m own place
lacks_own m own place t b v o (inl short) = inr (b, o.has_body, inl short)
lacks_own m own place t b v o (inr (inl none)) =
    absurd (none b.code refl (valid_own m own o.index t b v o.has_index o.has_type o.has_body))
lacks_own m own place t b v o (inr (inr cut)) = inr (b, o.has_body, inr cut)

-- what is found of a body is found of its function
pub own_operands : {V E : Type 0} (m : Parts) (own place : ℕ) (t : FuncType) (b : Body) (c : Context) (items : V → List ValType)
    (r : Result (Option V) E) → IsValid m → IsOwn m own t b → c ≡ context_of m →
    IfOk r (λ o. MatchOption o (Unreached (in_function c t b) b.code place) (λ v. Reached (in_function c t b) b.code place (items v))) →
    IfOk r (λ o. MatchOption o (LacksOperands m own place) (λ v. HasOwnOperands m own place (items v)))
own_operands m own place t b c items (Ok (Some x)) v o e h = record {
  func_type = t;
  body = b;
  is_own = o;
  reached = subst (λ (d : Context). Reached (in_function d t b) b.code place (items x)) e h;
}
own_operands m own place t b c items (Ok None) v o e h =
    lacks_own m own place t b v o (subst (λ (d : Context). Unreached (in_function d t b) b.code place) e h)
own_operands m own place t b c items (Err x) v o e h = tt
