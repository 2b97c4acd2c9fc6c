-- A thread with dead locals cleared stands for a configuration that is alike.
use Rattle.std.proofs.Common.{◌≡◌, ℕ, Bool, List, [], ◌∷◌, ◌++◌, length, map, reverse, Option, slice_get, refl, sym, ◌∙◌, ap, subst, inl, inr, arith, ◌⊎◌}
use Rattle.std.proofs.lemmas.List.{reverse-reverse}
use Rattle.types.specs.declared.value.ValType.{ValType}
use Rattle.types.specs.declared.value.ValType.TheVariants as types
use Rattle.types.specs.declared.value.Value.{Value}
use Rattle.types.specs.Values.{type_of}
use Rattle.types.specs.declared.instr.Instr.{Instr}
use Rattle.types.specs.declared.instr.PlainInstr.TheVariants as plain
use Rattle.types.specs.Widths.{access_type}
use Rattle.validate_typing.specs.Placed.{Flat}
use Rattle.validate_typing.specs.Tabled.{WithTables}
use Rattle.std.specs.Global.{Vec}
use Rattle.interp_machine.specs.Config.{Frame, Config, Progress as Reached}
use Rattle.live_locals.proofs.Both.{in_turn}
use Rattle.live_locals.proofs.Dead.{dead}
use Rattle.interp_state.specs.declared.state.Caller.{Caller}
use Rattle.interp_state.specs.declared.state.State.{State}
use Rattle.interp_state.specs.declared.state.Progress.{Progress}
use Rattle.interp_state.specs.declared.state.Progress.TheVariants.{Fresh, Halfway, Asked}
use Rattle.interp_state.specs.Stands.{AnswerFits, values_on, FrameAt, FitsProgress, IsLoadPart, IsStorePart, Stands, due, reached}
use Rattle.interp_state.specs.Words.{word_of}
use Rattle.interp_state.proofs.Words.{map_reversed, means_turned}
use Rattle.interp_state.proofs.Views.{view_plain}
use Rattle.interp.specs.declared.kept.Kept.{Kept}
use Rattle.interp.specs.Kept.{IsKept}
use Rattle.live_locals.specs.Live.{AreSound, row_at}
use Rattle.live_locals.specs.Alike.{AreAlike}
use Rattle.live_kept.specs.Cleared.{cleared_at, running, cleared_words}
use Rattle.live_kept.specs.Clearing.{IsClearedOf, IsKeptUpToDead, StandsForAlike}
use Rattle.live_kept.proofs.Words.{cleared_open, folded}
use Rattle.live_kept.proofs.Opened.{cleared_frame, cleared_stands, cleared_same, as_many_locals, range_on, range_lower, words_long, values_many, within_callers, HasCleared, words_on}
use Rattle.live_kept.proofs.Opened.{callers_cleared}

-- ---- The first part of an access

load_again : (ops : List Value) (ts : List ValType) → map type_of ops ≡ types.I32 ∷ ts → (i : Option Instr) (more less : List Value) →
    IsLoadPart i (map word_of (ops ++ more)) → IsLoadPart i (map word_of (ops ++ less))
load_again [] ts e i more less h = absurd cc
load_again (v ∷ ops) ts e i more less h = record {
  op = h.op;
  arg = h.arg;
  base = h.base;
  below = map word_of (ops ++ less);
  here = h.here;
  operands = (let o = h.operands in let same : word_of v ≡ h.base = cc in ap (λ n. n ∷ map word_of (ops ++ less)) same);
  two_words = h.two_words;
}

store_again : (ops : List Value) (t u : ValType) (ts : List ValType) → map type_of ops ≡ t ∷ (u ∷ ts) → (i : Option Instr) (more less : List Value) →
    IsStorePart i (map word_of (ops ++ more)) → IsStorePart i (map word_of (ops ++ less))
store_again [] t u ts e i more less h = absurd cc
store_again (v ∷ []) t u ts e i more less h = absurd cc
store_again (v ∷ (x ∷ ops)) t u ts e i more less h = record {
  width = h.width;
  arg = h.arg;
  value = h.value;
  base = h.base;
  below = map word_of (ops ++ less);
  here = h.here;
  operands = (
      let o = h.operands in
      let first : word_of v ≡ h.value = cc in
      let second : word_of x ≡ h.base = cc in
      λ j. first j ∷ (second j ∷ map word_of (ops ++ less))
      );
  two_words = h.two_words;
}

halfway_again : (b : Flat) (f : Frame) (pc : ℕ) (i : Option Instr) → FrameAt b [] f pc → slice_get b.code pc ≡ i → (more less : List Value) →
    IsLoadPart i (map word_of (f.operands ++ more)) ⊎ IsStorePart i (map word_of (f.operands ++ more)) →
    IsLoadPart i (map word_of (f.operands ++ less)) ⊎ IsStorePart i (map word_of (f.operands ++ less))
halfway_again b f pc i m e more less (inl h) =
    let at = view_plain b [] f (plain.Load h.op h.arg) pc m (e ∙ h.here) in
    inl (load_again f.operands at.fits.2.0 at.fits.2.1 i more less h)
halfway_again b f pc i m e more less (inr h) =
    let at = view_plain b [] f (plain.Store h.width h.arg) pc m (e ∙ h.here) in
    inr (store_again f.operands (access_type h.width) types.I32 at.fits.2.0 at.fits.2.1 i more less h)

part_again : (x : Progress) (b : Flat) (f : Frame) (pc : ℕ) (i : Option Instr) → FrameAt b (due (reached x)) f pc → slice_get b.code pc ≡ i →
    (more less : List Value) → FitsProgress x i (map word_of (f.operands ++ more)) → FitsProgress x i (map word_of (f.operands ++ less))
part_again Fresh b f pc i m e more less h = tt
part_again (Halfway n) b f pc i m e more less h = halfway_again b f pc i m e more less h
part_again Asked b f pc i m e more less h = tt

-- ---- A state with other words

-- as many other items
abbrev with_items : (v : Vec ℕ) (ws : List ℕ) → length ws ≡ length v.items → Vec ℕ
with_items v ws e =
    record { ptr = v.ptr; len = v.len; cap = v.cap; alloc = v.alloc; items = ws; ok = (v.ok.0 ∙ sym e, v.ok.1); small = v.small }

abbrev with_values : (s : State) (ws : List ℕ) → length ws ≡ length s.values.items → State
with_values s ws e = record s { values = with_items s.values ws e }

module _ (w : WithTables) (tables : List (List (List Bool))) (sound : AreSound w tables) (s : State) (c : Config) (st : Stands w s c) where
  abbrev own : Caller
  own = record { function = s.function; pc = s.pc; base = s.base; operands = s.operands; results = s.results }

  abbrev row : List Bool
  row = row_at (row_at tables s.function) s.pc

  abbrev callers : List Caller
  callers = reverse s.callers.items

  below : HasCleared w tables st.body.context.results callers c.callers st.lower
  below = callers_cleared w tables st.body.context.results callers c.callers st.lower st.callers (range_lower c.frame st.lower st.values.in_range)

  abbrev values_now : List Value
  values_now = values_on (cleared_frame row c.frame) below.cleared

  abbrev words_now : List ℕ
  words_now = cleared_at tables (cleared_open tables callers s.values.items) own

  words_mean : words_now ≡ map word_of (reverse values_now)
  words_mean =
      let were = (means_turned s.values.items (values_on c.frame st.lower) st.values).are in
      ap (λ (ws : List ℕ). cleared_at tables (cleared_open tables callers ws) own) were
      ∙ sym (words_on w tables own callers c.frame st.lower below.cleared
      (within_callers w tables st.body.context.results callers c.callers st.lower st.callers (length st.lower) (omega arith)) below.words below.long st.base st.operands)

  words_turned : reverse words_now ≡ map word_of values_now
  words_turned = ap reverse words_mean ∙ sym (map_reversed word_of (reverse values_now)) ∙ ap (map word_of) (reverse-reverse values_now)

  as_many : length words_now ≡ length s.values.items
  as_many =
      let were = (means_turned s.values.items (values_on c.frame st.lower) st.values).are in
      ap length words_mean ∙ words_long values_now ∙ values_many row c.frame st.lower below.cleared below.long
      ∙ sym (words_long (values_on c.frame st.lower)) ∙ ap length (sym were)

  abbrev state_now : State
  state_now = with_values s words_now as_many

  abbrev config_now : Config
  config_now = record c { frame = cleared_frame row c.frame; callers = below.frames }

  stands_now : Stands w state_now config_now
  stands_now = record {
    body = st.body;
    lower = below.cleared;
    program = st.program;
    own = st.own;
    code = st.code;
    rows = st.rows;
    frame = cleared_stands st.body (due c.progress) c.frame s.pc row st.frame;
    values = record { are = words_turned; in_range = range_on row c.frame st.lower below.cleared st.values.in_range below.in_range };
    base = st.base ∙ sym below.long;
    operands = (let o = st.operands in let l = below.long in let m = as_many_locals row c.frame in omega arith);
    results = st.results;
    callers = below.callers;
    globals = st.globals;
    globals_typed = st.globals_typed;
    progress = st.progress;
    part = subst (FitsProgress s.progress (slice_get s.code.now s.pc)) (sym words_turned)
        (part_again s.progress st.body c.frame s.pc (slice_get s.code.now s.pc)
        (subst (λ (y : Reached). FrameAt st.body (due y) c.frame s.pc) st.progress st.frame)
        (ap (λ (code : List Instr). slice_get code s.pc) st.code) _ _
        (subst (FitsProgress s.progress (slice_get s.code.now s.pc)) st.values.are st.part));
    few = st.few;
    room = (let l = as_many in let r = st.room in omega arith);
    answer_fits = subst (AnswerFits c.progress) (sym as_many) st.answer_fits;
  }

  alike_now : AreAlike config_now c
  alike_now = dead w tables sound state_now config_now c stands_now
      (record { globals = refl; frame = cleared_same row c.frame; callers = below.same; progress = refl })

-- ---- What is kept

kept_cleared : (tables : List (List (List Bool))) (old new : Kept) → IsClearedOf tables old new → (w : WithTables) (c : Config) → AreSound w tables →
    IsKept w old c → IsKeptUpToDead w new c
kept_cleared tables old new h w c sound k =
    let s = k.state in
    let o = k.is_of in
    let f = o.function in
    let p = o.pc in
    let b = o.base in
    let m = o.operands in
    let r = o.results in
    let v = o.values in
    let l = o.callers in
    let words : cleared_words tables old ≡ words_now w tables sound s c k.stands =
    ap (λ (ws : List ℕ). cleared_at tables ws (running old)) (folded tables old.callers.items old.values.items)
    ∙ (λ i. cleared_at tables (cleared_open tables (reverse (l i)) (v i)) (record { function = f i; pc = p i; base = b i; operands = m i; results = r i })) in (
      config_now w tables sound s c k.stands,
      record {
        state = state_now w tables sound s c k.stands;
        stands = stands_now w tables sound s c k.stands;
        is_of = record {
          function = h.function ∙ f;
          pc = h.pc ∙ p;
          base = h.base ∙ b;
          operands = h.operands ∙ m;
          results = h.results ∙ r;
          values = h.values ∙ words;
          globals = h.globals ∙ o.globals;
          callers = h.callers ∙ l;
          progress = h.progress ∙ o.progress;
        };
      },
      alike_now w tables sound s c k.stands,
    )

pub clears : (tables : List (List (List Bool))) (old new : Kept) → IsClearedOf tables old new → StandsForAlike tables old new
clears tables old new h w c sound k =
    let r = kept_cleared tables old new h w k.0 sound k.1 in
    (r.0, r.1, in_turn r.0 k.0 c r.2 k.2)
