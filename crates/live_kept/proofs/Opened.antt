-- Calling frames with dead locals cleared stand where they stood.
use Rattle.std.proofs.Common.{◌≡◌, ℕ, ◌+◌, ◌≤◌, Bool, List, [], ◌∷◌, ◌++◌, length, map, reverse, refl, sym, ◌∙◌, ap, subst, arith, length-append}
use Rattle.std.proofs.lemmas.List.{length-map, length-reverse, reverse-reverse}
use Rattle.types.specs.declared.value.ValType.{ValType}
use Rattle.types.specs.declared.value.Value.{Value}
use Rattle.validate_typing.specs.Placed.{Flat}
use Rattle.validate_typing.specs.Tabled.{WithTables}
use Rattle.interp_machine.specs.Config.{Frame}
use Rattle.interp_state.specs.declared.state.Caller.{Caller}
use Rattle.interp_state.specs.Stands.{belows, values_on, FrameAt, AreCallers}
use Rattle.interp_state.specs.Words.{word_of, AreInRange}
use Rattle.interp_state.proofs.Words.{in_range_front, in_range_back, in_range_both, in_range_reversed}
use Rattle.interp_state.proofs.Views.{same_length}
use Rattle.live_locals.specs.Live.{row_at}
use Rattle.live_locals.specs.Alike.{AreSameBy}
use Rattle.live_locals.specs.Dead.{AreCallersSameBy}
use Rattle.live_kept.specs.Cleared.{cleared_at}
use Rattle.live_kept.proofs.Words.{cleared_values, values_cleared, types_cleared, range_cleared, agree_cleared, tops_of, words_laid, cleared_between, cleared_open}
use Rattle.live_kept.proofs.Words.{AreWithin, open_below}

-- a frame with its dead locals cleared
abbrev pub cleared_frame : List Bool → Frame → Frame
cleared_frame row f = record f { locals = cleared_values row f.locals }

pub cleared_stands : (b : Flat) (more : List ValType) (f : Frame) (pc : ℕ) (row : List Bool) → FrameAt b more f pc → FrameAt b more (cleared_frame row f) pc
cleared_stands b more f pc row m = record {
  statics = m.statics;
  stop = m.stop;
  ends = m.ends;
  placed = m.placed;
  runs = m.runs;
  locals = types_cleared row f.locals ∙ m.locals;
  arity = m.arity;
}

pub cleared_same : (row : List Bool) (f : Frame) → AreSameBy row (cleared_frame row f) f
cleared_same row f = record { locals = agree_cleared row f.locals; code = refl; operands = refl; labels = refl; arity = refl }

pub as_many_locals : (row : List Bool) (f : Frame) → length (cleared_values row f.locals) ≡ length f.locals
as_many_locals row f = same_length (cleared_values row f.locals) f.locals (types_cleared row f.locals)

-- the values of a frame are in range, with cleared locals too
pub range_on : (row : List Bool) (f : Frame) (lower lowered : List Value) → AreInRange (values_on f lower) → AreInRange lowered →
    AreInRange (values_on (cleared_frame row f) lowered)
range_on row f lower lowered h k =
    let ops = in_range_front f.operands (belows f.labels ++ (reverse f.locals ++ lower)) h in
    let more = in_range_back f.operands (belows f.labels ++ (reverse f.locals ++ lower)) h in
    let below = in_range_front (belows f.labels) (reverse f.locals ++ lower) more in
    let rest = in_range_back (belows f.labels) (reverse f.locals ++ lower) more in
    let turned = in_range_front (reverse f.locals) lower rest in
    let locals : AreInRange f.locals = subst AreInRange (reverse-reverse f.locals) (in_range_reversed (reverse f.locals) turned) in
    in_range_both f.operands _ ops (in_range_both (belows f.labels) _ below
    (in_range_both (reverse (cleared_values row f.locals)) lowered (in_range_reversed (cleared_values row f.locals) (range_cleared row f.locals locals)) k))

pub range_lower : (f : Frame) (lower : List Value) → AreInRange (values_on f lower) → AreInRange lower
range_lower f lower h =
    let more = in_range_back f.operands (belows f.labels ++ (reverse f.locals ++ lower)) h in
    in_range_back (reverse f.locals) lower (in_range_back (belows f.labels) (reverse f.locals ++ lower) more)

-- a frame's words lie above all below them
lower_long : (f : Frame) (lower : List Value) → length lower + length f.locals ≤ length (values_on f lower)
lower_long f lower =
    let a = length-append f.operands (belows f.labels ++ (reverse f.locals ++ lower)) in
    let b = length-append (belows f.labels) (reverse f.locals ++ lower) in
    let d = length-append (reverse f.locals) lower in
    let e = length-reverse f.locals in
    omega arith

pub values_many : (row : List Bool) (f : Frame) (lower lowered : List Value) → length lowered ≡ length lower →
    length (values_on (cleared_frame row f) lowered) ≡ length (values_on f lower)
values_many row f lower lowered e =
    let a = length-append f.operands (belows f.labels ++ (reverse f.locals ++ lower)) in
    let b = length-append (belows f.labels) (reverse f.locals ++ lower) in
    let d = length-append (reverse f.locals) lower in
    let g = length-reverse f.locals in
    let x = length-append f.operands (belows f.labels ++ (reverse (cleared_values row f.locals) ++ lowered)) in
    let y = length-append (belows f.labels) (reverse (cleared_values row f.locals) ++ lowered) in
    let z = length-append (reverse (cleared_values row f.locals)) lowered in
    let u = length-reverse (cleared_values row f.locals) in
    let v = as_many_locals row f in
    omega arith

pub words_long : (vs : List Value) → length (map word_of (reverse vs)) ≡ length vs
words_long vs = length-map (reverse vs) word_of ∙ length-reverse vs

module _ (w : WithTables) (tables : List (List (List Bool))) where
  pub within_callers : (results : List ValType) (ks : List Caller) (fs : List Frame) (values : List Value) → AreCallers w results ks fs values →
      (n : ℕ) → length values ≤ n → AreWithin tables n ks
  within_callers results [] [] values h n l = tt
  within_callers results [] (f ∷ fs) values h n l = absurd h
  within_callers results (k ∷ ks) [] values h n l = absurd h
  within_callers results (k ∷ ks) (f ∷ fs) values h n l =
      let long = lower_long f h.1 in
      let same = ap length h.4 in
      let b = h.5 in
      let o = h.6 in
      (omega arith, omega arith, within_callers h.0.context.results ks fs h.1 h.8 n (omega arith))

  -- the frames with their dead locals cleared, and their values
  pub record HasCleared (results : List ValType) (ks : List Caller) (fs : List Frame) (values : List Value) : Type 0 where
    pub frames : List Frame
    pub cleared : List Value
    pub callers : AreCallers w results ks frames cleared
    pub words : map word_of (reverse cleared) ≡ cleared_open tables ks (map word_of (reverse values))
    pub in_range : AreInRange cleared
    pub same : AreCallersSameBy tables ks frames fs
    pub long : length cleared ≡ length values

  -- the words of a frame and of all below it are cleared, where those below are
  pub words_on : (k : Caller) (ks : List Caller) (f : Frame) (lower lowered : List Value) → AreWithin tables (length lower) ks →
      map word_of (reverse lowered) ≡ cleared_open tables ks (map word_of (reverse lower)) → length lowered ≡ length lower → k.base ≡ length lower →
      k.operands ≡ length lower + length f.locals →
      map word_of (reverse (values_on (cleared_frame (row_at (row_at tables k.function) k.pc) f) lowered))
      ≡ cleared_at tables (cleared_open tables ks (map word_of (reverse (values_on f lower)))) k
  words_on k ks f lower lowered within is long b o =
      let row = row_at (row_at tables k.function) k.pc in
      let L = map word_of (reverse lower) in
      let M = map word_of (reverse lowered) in
      let X = map word_of f.locals in
      let T = map word_of (tops_of f) in
      let many = words_long lower in
      let much = words_long lowered in
      let count = length-map f.locals word_of in
      words_laid (cleared_frame row f) lowered ∙ ap (λ (ws : List ℕ). M ++ (ws ++ T)) (values_cleared row f.locals)
      ∙ sym (cleared_between tables M X T k (omega arith) (omega arith))
      ∙ ap (λ (ws : List ℕ). cleared_at tables (ws ++ (X ++ T)) k) is
      ∙ ap (λ (ws : List ℕ). cleared_at tables ws k) (sym (open_below tables ks L (X ++ T) (subst (λ n. AreWithin tables n ks) (sym many) within)))
      ∙ ap (λ (ws : List ℕ). cleared_at tables (cleared_open tables ks ws) k) (sym (words_laid f lower))

  pub callers_cleared : (results : List ValType) (ks : List Caller) (fs : List Frame) (values : List Value) → AreCallers w results ks fs values →
      AreInRange values → HasCleared results ks fs values
  callers_cleared results [] [] values h r =
      record { frames = []; cleared = values; callers = h; words = refl; in_range = r; same = tt; long = refl }
  callers_cleared results [] (f ∷ fs) values h r = absurd h
  callers_cleared results (k ∷ ks) [] values h r = absurd h
  callers_cleared results (k ∷ ks) (f ∷ fs) values h r =
      let row = row_at (row_at tables k.function) k.pc in
      let on : AreInRange (values_on f h.1) = subst AreInRange h.4 r in
      let c = callers_cleared h.0.context.results ks fs h.1 h.8 (range_lower f h.1 on) in
      let long = c.long in
      let many = as_many_locals row f in
      let b = h.5 in
      let o = h.6 in
      record {
        frames = cleared_frame row f ∷ c.frames;
        cleared = values_on (cleared_frame row f) c.cleared;
        callers = (h.0, c.cleared, h.2, cleared_stands h.0 results f k.pc row h.3, refl, omega arith, omega arith, h.7, c.callers);
        words = words_on k ks f h.1 c.cleared (within_callers h.0.context.results ks fs h.1 h.8 (length h.1) (omega arith)) c.words long b o
            ∙ ap (λ (vs : List Value). cleared_at tables (cleared_open tables ks (map word_of (reverse vs))) k) (sym h.4);
        in_range = range_on row f h.1 c.cleared on c.in_range;
        same = (cleared_same row f, c.same);
        long = values_many row f h.1 c.cleared long ∙ ap length (sym h.4);
      }
