-- Cases that can't be, and what two equations of one thing say. They stand here since `cc` reads each fact of where it is called.
use Rattle.std.proofs.Common.{◌≡◌, ℕ, Bool, true, false, Option, Some, None, sym, ◌∙◌, ap}
use Rattle.types.specs.declared.event.Event.{Event}
use Rattle.types.specs.declared.event.Question.{Question}
use Rattle.types.specs.declared.event.Question.TheVariants.{Spawn}
use Rattle.types.specs.declared.outcome.Outcome.{Outcome}
use Rattle.interp_trait.specs.declared.turn.Turn.{Turn}
use Rattle.interp_trait.specs.declared.turn.Turn.TheVariants as turns

pub isnt_true : {P : Type 0} → ◌≡◌ {A = Bool} false true → P
isnt_true e = absurd (cc e)

pub isnt_false : {P : Type 0} → ◌≡◌ {A = Bool} true false → P
isnt_false e = absurd (cc e)

pub isnt_none : {A P : Type 0} {a : A} → Some a ≡ None → P
isnt_none e = absurd (cc e)

pub isnt_some : {A P : Type 0} {a : A} → None ≡ Some a → P
isnt_some e = absurd (cc e)

pub same_some : {A : Type 0} {a b : A} → Some a ≡ Some b → a ≡ b
same_some e = cc e

pub same_wanted : {t : Turn} {a b : Event} → t ≡ turns.Wants a → t ≡ turns.Wants b → a ≡ b
same_wanted e f = cc (e, f)

pub ended_wants : {t : Turn} {o : Outcome} {a : Event} → t ≡ turns.Ended o → t ≡ turns.Wants a → ⊥
ended_wants e f = cc (e, f)

pub same_spawned : {q : Question} {a b : ℕ} → q ≡ Spawn a → q ≡ Spawn b → a ≡ b
same_spawned e f = cc (e, f)

-- what was found in place of an option that is another one
pub found_in : {A : Type 0} {o p : Option A} {a b : A} → o ≡ Some a → o ≡ p → a ≡ b → p ≡ Some b
found_in found is same = sym is ∙ (found ∙ ap (λ x. Some x) same)

pub same_found : {A : Type 0} {o p : Option A} {a b : A} → o ≡ Some a → o ≡ p → p ≡ Some b → a ≡ b
same_found found is there = same_some (sym found ∙ (is ∙ there))
