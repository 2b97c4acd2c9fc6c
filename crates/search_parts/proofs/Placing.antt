-- The instruction at which a thread stands is the one that its code begins with.
use Rattle.std.proofs.Common.{◌≡◌, ◌≤◌, ℕ, zero, suc, arith, List, [], ◌∷◌, length, Option, Some, None, Bool, true, false, refl, sym, ◌∙◌, ap}
use Rattle.std.specs.List.{slice_get}
use Rattle.std.proofs.lemmas.Option.{none-some}
use Rattle.types.specs.declared.instr.Instr.{Instr}
use Rattle.types.specs.declared.parts.Body.{Body}
use Rattle.types.specs.declared.value.ValType.{ValType}
use Rattle.types.specs.Nesting.{Code, Empty, Then, BlockThen, LoopThen, IfThen, IfElseThen}
use Rattle.validate_typing.specs.Placed.{FlatLabel, Flat, IsPlaced}
use Rattle.validate_typing.specs.Tabled.{WithTables}
use Rattle.interp_machine.specs.Config.{Config}
use Rattle.interp_state.proofs.Views.{Ends, AtEnd, AtElse, ends_at}
use Rattle.interp.specs.declared.kept.Kept.{Kept}
use Rattle.interp.specs.Kept.{IsKept}
use Rattle.search_runs.specs.Accesses.{is_plain_code, is_plain_instr}

abbrev pub found : Option Instr → Bool
found (Some i) = is_plain_instr i
found None = false

pub past : (xs : List Instr) (n : ℕ) → length xs ≤ n → slice_get xs n ≡ None
past [] n h = refl
past (x ∷ xs) zero h = absurd (omega (arith, h))
past (x ∷ xs) (suc n) h = past xs n (omega (arith, h))

placed : (b : Flat) (live : Bool) (ss : List FlatLabel) (height : ℕ) (code : Code) (pc stop : ℕ) (ts us : List ValType) → Ends b stop
    → IsPlaced b live ss height code pc stop ts us → found (slice_get b.code pc) ≡ is_plain_code code
placed b live ss height Empty pc stop ts us (AtEnd e) p = ap (λ j. found (slice_get b.code j)) p.0 ∙ ap found e
placed b live ss height Empty pc stop ts us (AtElse e) p = ap (λ j. found (slice_get b.code j)) p.0 ∙ ap found e
placed b live ss height (Then op rest) pc stop ts us ends p = ap found p.2.instr
placed b live ss height (BlockThen t body rest) pc stop ts us ends p = ap found p.3.instr
placed b live ss height (LoopThen t body rest) pc stop ts us ends p = ap found p.3.instr
placed b live ss height (IfThen t first rest) pc stop ts us ends p = ap found p.6.instr
placed b live ss height (IfElseThen t first second rest) pc stop ts us ends p = ap found p.6.instr

module _ (w : WithTables) (k : Kept) (c : Config) (kept : IsKept w k c) where
  -- the body of its function
  pub body-of : (body : Body) → slice_get w.parts.bodies k.function ≡ Some body → found (slice_get body.code k.pc) ≡ is_plain_code c.frame.code
  body-of body at =
      let st = kept.stands in
      let of = kept.is_of in
      let own = st.own in
      let frame = st.frame in
      let same : own.body ≡ body = cc (own.body_is, ap (slice_get w.parts.bodies) (sym of.function) ∙ at) in
      let code : st.body.code ≡ body.code = ap (λ (f : Flat). f.code) own.flat ∙ ap (λ (y : Body). y.code) same in
      ap (λ l. found (slice_get l k.pc)) (sym code)
      ∙ (ap (λ j. found (slice_get st.body.code j)) of.pc
      ∙ placed st.body true frame.statics _ c.frame.code kept.state.pc frame.stop _ frame.ends
      (ends_at st.body c.frame.labels frame.statics frame.stop frame.ends frame.runs) frame.placed)

  -- there is one
  pub no-body : slice_get w.parts.bodies k.function ≡ None → ⊥
  no-body none =
      let st = kept.stands in
      let of = kept.is_of in
      let own = st.own in
      none-some own.body (sym none ∙ (ap (slice_get w.parts.bodies) of.function ∙ own.body_is))
