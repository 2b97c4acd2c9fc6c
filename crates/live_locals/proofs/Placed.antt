-- Code that stands in flat code with sound marks lives by them.
use Rattle.std.proofs.Common.{◌≡◌, ℕ, zero, suc, ◌+◌, ◌<◌, Bool, true, List, [], ◌∷◌, length, map, Option, Some, None, slice_get, refl, sym, ◌∙◌, ap, subst, inl, inr, arith}
use Rattle.std.specs.Prelude.{slice_index_or, unwrap_or}
use Rattle.std.specs.List.{Contains}
use Rattle.std.specs.Option.{option_map}
use Rattle.types.specs.declared.value.ValType.{ValType}
use Rattle.types.specs.declared.instr.PlainInstr.{PlainInstr}
use Rattle.types.specs.declared.instr.PlainInstr.TheVariants as plain
use Rattle.types.specs.declared.instr.Instr.{Instr}
use Rattle.types.specs.declared.instr.Instr.TheVariants as instrs
use Rattle.types.specs.Nesting.{Code, Empty, Then, BlockThen, LoopThen, IfThen, IfElseThen}
use Rattle.validate_typing.specs.declared.target.Target.{Target}
use Rattle.validate_typing.specs.Placed.{FlatLabel, Flat, At, IsRow, IsPlaced, labels_of, target_of, goes_on}
use Rattle.interp_machine.specs.Config.{Label, Frame}
use Rattle.interp_state.specs.Stands.{Closes, Lands, Runs, FrameAt}
use Rattle.live_locals.specs.Live.{IsSound, Covers, GoesTo, row_at, written_by}
use Rattle.live_locals.specs.Lives.{Includes, IsLiveBefore, Lives, IsLiveAt, OpensLive, IsLiveFrame}
use Rattle.live_locals.proofs.Marks.{includes_itself, plainly}

-- ---- Rows of targets

-- what names a label writes no local
no_write : (op : PlainInstr) (k : ℕ) → Contains (labels_of op) k → written_by (instrs.Plain op) ≡ None
no_write plain.Unreachable k h = refl
no_write plain.Nop k h = refl
no_write (plain.Br l) k h = refl
no_write (plain.BrIf l) k h = refl
no_write (plain.BrTable l ls) k h = refl
no_write plain.Return k h = refl
no_write (plain.Call f) k h = refl
no_write (plain.CallIndirect index) k h = refl
no_write plain.Drop k h = refl
no_write plain.Select k h = refl
no_write (plain.LocalGet x) k h = refl
no_write (plain.LocalSet x) k h = let l = h.1 in absurd (omega arith)
no_write (plain.LocalTee x) k h = let l = h.1 in absurd (omega arith)
no_write (plain.GlobalGet x) k h = refl
no_write (plain.GlobalSet x) k h = refl
no_write (plain.I32Const n) k h = refl
no_write (plain.I64Const n) k h = refl
no_write (plain.Numeric n) k h = refl
no_write (plain.Load op arg) k h = refl
no_write (plain.Store w arg) k h = refl
no_write plain.MemorySize k h = refl
no_write plain.MemoryGrow k h = refl
no_write (plain.Atomic op arg) k h = refl
no_write plain.Fence k h = refl

-- the target of a label that is named
pub record HasTarget (row : List Target) (to : ℕ) : Type 0 where
  pub target : Target
  pub named : Contains row target
  pub leads : target.to ≡ to

first_has : (t : Target) (row : List Target) (s : FlatLabel) → option_map target_of (Some s) ≡ Some t → HasTarget (t ∷ row) s.to
first_has t row s e = record {
  target = t;
  named = (0, omega arith, refl);
  leads = (let same : target_of s ≡ t = cc in sym (ap (λ (u : Target). u.to) same));
}

later_has : (t : Target) (row : List Target) (to : ℕ) → HasTarget row to → HasTarget (t ∷ row) to
later_has t row to h = record {
  target = h.target;
  named = (let n = h.named in let l = n.1 in (suc n.0, omega arith, n.2));
  leads = h.leads;
}

module _ (statics : List FlatLabel) (k : ℕ) (s : FlatLabel) (at : slice_get statics k ≡ Some s) where
  has_target : (ks : List ℕ) (row : List Target) → map (λ j. option_map target_of (slice_get statics j)) ks ≡ map Some row →
      (place : ℕ) → place < length ks → slice_index_or ks place k ≡ k → HasTarget row s.to
  has_target [] row e place less is = absurd (omega arith)
  has_target (j ∷ ks) [] e place less is = absurd cc
  has_target (j ∷ ks) (t ∷ row) e zero less is =
      let head : option_map target_of (slice_get statics j) ≡ Some t = cc in
      first_has t row s (ap (option_map target_of) (sym at) ∙ ap (λ n. option_map target_of (slice_get statics n)) (sym is) ∙ head)
  has_target (j ∷ ks) (t ∷ row) e (suc place) less is =
      let tail : map (λ n. option_map target_of (slice_get statics n)) ks ≡ map Some row = cc in
      later_has t row s.to (has_target ks row tail place (omega arith) is)

-- a label by what is live there
record HasLabel (live : ℕ → List Bool) (statics : List FlatLabel) (k : ℕ) (out : List Bool) : Type 0 where
  static : FlatLabel
  at : slice_get statics k ≡ Some static
  is : live static.to ≡ out

has_label : (live : ℕ → List Bool) (statics : List FlatLabel) (k : ℕ) (out : List Bool) → slice_get (map (λ s. live s.to) statics) k ≡ Some out →
    HasLabel live statics k out
has_label live [] k out e = absurd cc
has_label live (s ∷ statics) zero out e = record { static = s; at = refl; is = cc }
has_label live (s ∷ statics) (suc k) out e =
    let h = has_label live statics k out e in record { static = h.static; at = h.at; is = h.is }

module _ (b : Flat) (marks : List (List Bool)) (sound : IsSound b.code b.rows marks) where
  abbrev live : ℕ → List Bool
  live place = row_at marks place

  abbrev outs_of : List FlatLabel → List (List Bool)
  outs_of statics = map (λ s. live s.to) statics

  -- ---- Where an instruction goes

  flow : (place : ℕ) (i : Instr) (row : List Target) (next : ℕ) → At b place i row → GoesTo i row place next → Covers (live place) (live next) (written_by i)
  flow place i row next at goes =
      sound.flows place i next at.instr
      (subst (λ ts. GoesTo i ts place next) (sym (ap (λ (o : Option (List Target)). unwrap_or o []) at.row)) goes)

  -- to the next place, and to its only target
  onward : (place : ℕ) (i : Instr) (row : List Target) → At b place i row → ((next : ℕ) → next ≡ place + 1 → GoesTo i row place next) → written_by i ≡ None →
      Includes (live place) (live (place + 1))
  onward place i row at goes none =
      plainly (live place) (live (place + 1)) (subst (Covers (live place) (live (place + 1))) none (flow place i row (place + 1) at (goes (place + 1) refl)))

  aside : (place : ℕ) (i : Instr) (t : Target) → At b place i (t ∷ []) → written_by i ≡ None → Includes (live place) (live t.to)
  aside place i t at none =
      plainly (live place) (live t.to) (subst (Covers (live place) (live t.to)) none (flow place i (t ∷ []) t.to at (inr (t, (0, omega arith, refl), refl))))

  behind_end : (place : ℕ) (row : List Target) → At b place instrs.End row → Includes (live place) (live (place + 1))
  behind_end place row at = onward place instrs.End row at (λ next e. inl (refl, e)) refl

  -- ---- Nested code

  before_plain : (statics : List FlatLabel) (place : ℕ) (op : PlainInstr) (row : List Target) → At b place (instrs.Plain op) row →
      IsRow statics (labels_of op) row → IsLiveBefore (outs_of statics) op (live place) (live (place + 1))
  before_plain statics place op row at is = record {
    reads = λ local e. sound.reads place (instrs.Plain op) local at.instr e;
    next = λ e. flow place (instrs.Plain op) row (place + 1) at (inl (e, refl));
    labels = λ k out named there.
        let l = has_label live statics k out there in
        let t = has_target statics k l.static l.at (labels_of op) row is named.0 named.1 named.2 in
        subst (λ o. Includes (live place) o) l.is
        (plainly (live place) (live l.static.to)
        (subst (Covers (live place) (live l.static.to)) (no_write op k named)
        (flow place (instrs.Plain op) row l.static.to at (inr (t.target, t.named, t.leads)))));
  }

  placed : (code : Code) (alive : Bool) (statics : List FlatLabel) (height start stop : ℕ) (from to : List ValType) →
      IsPlaced b alive statics height code start stop from to → (behind : List Bool) → Includes (live stop) behind →
      Lives (outs_of statics) (live start) code behind
  placed Empty alive statics height start stop from to x behind i = subst (λ n. Includes (live n) behind) (sym x.0) i
  placed (Then op rest) alive statics height start stop from to x behind i = (
    live (start + 1),
    before_plain statics start op x.1 x.2 x.3,
    placed rest (goes_on op alive) statics height (start + 1) stop x.0 to x.5 behind i,
  )
  placed (BlockThen t body rest) alive statics height start stop from to x behind i = (
    live (start + 1),
    live (x.0 + 1),
    onward start (instrs.Block t) [] x.3 (λ next e. inl (refl, e)) refl,
    placed body alive _ _ (start + 1) x.0 _ _ x.5 (live (x.0 + 1)) (behind_end x.0 [] x.4),
    placed rest alive statics height (x.0 + 1) stop _ to x.6 behind i,
  )
  placed (LoopThen t body rest) alive statics height start stop from to x behind i = (
    live (start + 1),
    live (x.0 + 1),
    onward start (instrs.Loop t) [] x.3 (λ next e. inl (refl, e)) refl,
    placed body alive _ _ (start + 1) x.0 _ _ x.5 (live (x.0 + 1)) (behind_end x.0 [] x.4),
    placed rest alive statics height (x.0 + 1) stop _ to x.6 behind i,
  )
  placed (IfThen t first rest) alive statics height start stop from to x behind i = (
    live (start + 1),
    live (x.1 + 1),
    onward start (instrs.If t) _ x.6 (λ next e. inl (refl, e)) refl,
    (λ local h. aside start (instrs.If t) _ x.6 refl local (behind_end x.1 [] x.7 local h)),
    placed first alive _ _ (start + 1) x.1 _ _ x.8 (live (x.1 + 1)) (behind_end x.1 [] x.7),
    placed rest alive statics height (x.1 + 1) stop _ to x.9 behind i,
  )
  placed (IfElseThen t first second rest) alive statics height start stop from to x behind i = (
    live (start + 1),
    live (x.1 + 1),
    live (x.2 + 1),
    onward start (instrs.If t) _ x.6 (λ next e. inl (refl, e)) refl,
    aside start (instrs.If t) _ x.6 refl,
    placed first alive _ _ (start + 1) x.1 _ _ x.9 (live (x.2 + 1)) (aside x.1 instrs.Else _ x.7 refl),
    placed second alive _ _ (x.1 + 1) x.2 _ _ x.10 (live (x.2 + 1)) (behind_end x.2 [] x.8),
    placed rest alive statics height (x.2 + 1) stop _ to x.11 behind i,
  )

  -- ---- Frames

  closing : (stop after : ℕ) → Closes b stop after → Includes (live stop) (live after)
  closing stop after (inl x) = subst (λ n. Includes (live stop) (live n)) (sym x.1) (behind_end stop [] x.0)
  closing stop after (inr x) = subst (λ n. Includes (live stop) (live n)) x.2 (aside stop instrs.Else x.0 x.1 refl)

  landing : (again : Option Code) (s : FlatLabel) (ss : List FlatLabel) (stop after : ℕ) (results : List ValType) → Lands b again s ss stop after results →
      Includes (live stop) (live after) → IsLiveAt again (live s.to) (outs_of ss) (live after)
  landing None s ss stop after results x i = subst (λ n. Includes (live n) (live after)) (sym x.1) (includes_itself (live after))
  landing (Some body) s ss stop after results x i = placed body true (s ∷ ss) s.height s.to stop [] results x.1 (live after) i

  -- the open blocks, with what is live where the innermost one ends
  record AreOpen (ls : List Label) (statics : List FlatLabel) (stop : ℕ) : Type 0 where
    behind : List Bool
    within : Includes (live stop) behind
    opens : OpensLive ls (outs_of statics) behind

  open_blocks : (ls : List Label) (statics : List FlatLabel) (stop : ℕ) (results : List ValType) → Runs b ls statics stop results → AreOpen ls statics stop
  open_blocks [] statics stop results h = record { behind = live stop; within = includes_itself (live stop); opens = tt }
  open_blocks (l ∷ ls) [] stop results h = absurd h
  open_blocks (l ∷ ls) (s ∷ ss) stop results h =
      let i = closing stop h.0 h.3 in
      let r = open_blocks ls ss h.1 h.2 h.8 in
      record {
        behind = live h.0;
        within = i;
        opens = (
          r.behind,
          landing l.again s ss stop h.0 results h.6 i,
          placed l.after true ss _ h.0 h.1 _ h.2 h.7 r.behind r.within,
          r.opens,
        );
      }

  pub frame_lives : (more : List ValType) (f : Frame) (pc : ℕ) → FrameAt b more f pc → IsLiveFrame (live pc) f
  frame_lives more f pc m =
      let o = open_blocks f.labels m.statics m.stop m.ends m.runs in
      record {
        outs = outs_of m.statics;
        behind = o.behind;
        code = placed f.code true m.statics _ pc m.stop _ m.ends m.placed o.behind o.within;
        opens = o.opens;
      }
