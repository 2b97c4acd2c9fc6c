-- A function that is opened over its arguments is the machine's step.
use Rattle.std.proofs.Common.{◌≡◌, ℕ, suc, ◌+◌, ◌<◌, ◌≤◌, List, [], ◌∷◌, ◌++◌, length, map, replicate, reverse, sum_by}
use Rattle.std.proofs.Common.{slice_get, nat_lt, true, false, inl, inr, refl, sym, ◌∙◌, ap, subst, arith}
use Rattle.std.proofs.Common.{append_assoc, length-append}
use Rattle.std.proofs.lemmas.List.{length-reverse, length-map, length-replicate, map-append, reverse-append, reverse-reverse}
use Rattle.std.proofs.lemmas.List.Sums.{sum_by-cons}
use Rattle.std.proofs.lemmas.Bool.{cases_lt}
use Rattle.types.specs.declared.value.ValType.{ValType}
use Rattle.types.specs.declared.value.ValType.TheVariants as types
use Rattle.types.specs.declared.value.Value.{Value}
use Rattle.types.specs.declared.outcome.Trap.TheVariants as traps
use Rattle.types.specs.declared.parts.FuncType.{FuncType}
use Rattle.types.specs.declared.parts.GlobalType.{GlobalType}
use Rattle.types.specs.declared.parts.Body.{Body}
use Rattle.types.specs.declared.parts.Parts.{Parts}
use Rattle.types.specs.Nesting.{Code}
use Rattle.types.specs.Values.{type_of}
use Rattle.types.specs.declared.limits.TheConstants.{MOST_VALUES, MOST_FRAMES}
use Rattle.validate_typing.specs.declared.target.Target.{Target}
use Rattle.validate_typing.specs.Nested.{nested_of}
use Rattle.validate_typing.specs.Placed.{Flat, IsPlaced, IsTabled, own_label}
use Rattle.validate_typing.specs.Tabled.{WithTables, IsValidated, flat_body}
use Rattle.validate_typing.proofs.Nested.{nested_of_flat}
use Rattle.interp_machine.specs.Config.{Frame, Config, Fresh as NotBegun, Goes, Traps, values_in, values_of}
use Rattle.interp_machine.specs.Program.{Function, program_of, function_of_body, zero_of}
use Rattle.interp_machine.specs.Step.{next, runs, opens}
use Rattle.interp_state.specs.declared.state.Caller.{Caller}
use Rattle.interp_state.specs.declared.state.Program.{Program as Prog}
use Rattle.interp_state.specs.declared.state.State.{State}
use Rattle.interp_state.specs.declared.state.Progress.TheVariants.{Fresh}
use Rattle.interp_state.specs.declared.state.StepResult.{StepResult}
use Rattle.interp_state.specs.declared.state.StepResult.TheVariants.{Trapped}
use Rattle.interp_state.specs.Stands.{values_on, FrameAt, IsOwn, IsProgram, AreCallers, Stands, reached}
use Rattle.interp_state.specs.Steps.{Steps}
use Rattle.interp_state.specs.Words.{word_of, AreInRange, Mean}
use Rattle.interp_state.proofs.Words.{in_range_both, means_both, means_long, means_same, means_words, zeros_are}
use Rattle.interp_state.proofs.Views.{Still, still, moved, next_fresh, no_room, not_due, all_values, values_long}
use Rattle.interp_calls.specs.Entering.{IsOwnFunction, IsOpened, IsEntered, caller_of}

-- ---- The frames

-- the frame of a function that was just opened
abbrev pub opened_frame : FuncType → Function → List Value → Frame
opened_frame t own args = record { locals = reverse args ++ map zero_of own.locals; code = own.code; operands = []; labels = []; arity = length t.results }

-- the frame that waits for it
abbrev pub waiting_frame : Frame → Code → List Value → Frame
waiting_frame f rest below = record f { code = rest; operands = below }

abbrev pub inner : Config → Code → List Value → List Value → FuncType → Function → Config
inner c rest args below t own = record c { frame = opened_frame t own args; callers = waiting_frame c.frame rest below ∷ c.callers }

pub zeros_typed : (ts : List ValType) → map type_of (map zero_of ts) ≡ ts
zeros_typed [] = refl
zeros_typed (types.I32 ∷ ts) = ap (λ (x : List ValType). types.I32 ∷ x) (zeros_typed ts)
zeros_typed (types.I64 ∷ ts) = ap (λ (x : List ValType). types.I64 ∷ x) (zeros_typed ts)

map_reversed : {B : Type 0} (f : Value → B) (vs : List Value) → map f (reverse vs) ≡ reverse (map f vs)
map_reversed f [] = refl
map_reversed f (v ∷ vs) =
    ap (map f) (reverse-append (v ∷ []) vs) ∙ map-append f (reverse vs) (v ∷ [])
    ∙ ap (λ x. x ++ (f v ∷ [])) (map_reversed f vs) ∙ sym (reverse-append (f v ∷ []) (map f vs))

pub locals_typed : (args : List Value) (params locals : List ValType) → map type_of args ≡ reverse params →
    map type_of (reverse args ++ map zero_of locals) ≡ params ++ locals
locals_typed args params locals h =
    map-append type_of (reverse args) (map zero_of locals)
    ∙ ap (λ (x : List ValType). x ++ map type_of (map zero_of locals)) (map_reversed type_of args ∙ ap reverse h ∙ reverse-reverse params)
    ∙ ap (λ (x : List ValType). params ++ x) (zeros_typed locals)

tabled : (w : WithTables) (own : ℕ) (b : Flat) (o : IsOwn w own b) → IsValidated w → IsTabled (flat_body w.parts o.func_type o.body o.rows)
tabled w own b o v = v.tabled own o.index o.func_type o.body o.rows o.function o.typed o.body_is o.rows_are

frame_of : (m : Parts) (t : FuncType) (body : Body) (rows : List (List Target)) (args : List Value) → IsTabled (flat_body m t body rows) →
    map type_of args ≡ reverse t.params → FrameAt (flat_body m t body rows) [] (opened_frame t (function_of_body body) args) 0
frame_of m t body rows args x h = record {
  statics = own_label (flat_body m t body rows) ∷ [];
  stop = x.last;
  ends = t.results;
  placed = subst (λ (k : Code). IsPlaced (flat_body m t body rows) true (own_label (flat_body m t body rows) ∷ []) 0 k 0 x.last [] t.results)
      (sym (ap nested_of x.stands ∙ nested_of_flat x.nested)) x.placed;
  runs = (x.ends, x.long, refl, refl);
  locals = locals_typed args t.params body.locals h;
  arity = refl;
}

-- ---- The stack

turned_over : (args zeros lower : List Value) → reverse zeros ++ (args ++ lower) ≡ reverse (reverse args ++ zeros) ++ lower
turned_over args zeros lower =
    sym (append_assoc (reverse zeros) args lower)
    ∙ ap (λ x. x ++ lower) (ap (λ x. reverse zeros ++ x) (sym (reverse-reverse args)) ∙ sym (reverse-append (reverse args) zeros))

in_range_reversed : (vs : List Value) → AreInRange vs → AreInRange (reverse vs)
in_range_reversed [] h = tt
in_range_reversed (v ∷ vs) h =
    subst AreInRange (sym (reverse-append (v ∷ []) vs)) (in_range_both (reverse vs) (v ∷ []) (in_range_reversed vs h.1) (h.0, tt))

-- words and values the other way round
means_reversed : (words : List ℕ) (vs : List Value) → Mean words vs → Mean (reverse words) (reverse vs)
means_reversed words vs m = record { are = ap reverse m.are ∙ sym (map_reversed word_of vs); in_range = in_range_reversed vs m.in_range }

opened_long : (old new : List ℕ) (n : ℕ) → new ≡ old ++ replicate n 0 → length new ≡ length old + n
opened_long old new n e =
    let zeros : List ℕ = replicate n 0 in
    let z : length zeros ≡ n = length-replicate n 0 in
    let a : length new ≡ length (old ++ zeros) = ap length e in
    let b = length-append old zeros in
    omega arith

-- the arguments and the zeros are the locals
values_opened : (old new : List ℕ) (args lower : List Value) (locals : List ValType) → Mean (reverse old) (args ++ lower) →
    new ≡ old ++ replicate (length locals) 0 → Mean (reverse new) (reverse (reverse args ++ map zero_of locals) ++ lower)
values_opened old new args lower locals h e =
    let zeros = replicate (length locals) 0 in
    let both = means_both (reverse zeros) (reverse old) (reverse (map zero_of locals)) (args ++ lower) (means_reversed zeros _ (zeros_are locals)) h in
    means_words (reverse new) (reverse zeros ++ reverse old) _ (ap reverse e ∙ reverse-append old zeros)
    (means_same _ _ _ (turned_over args (map zero_of locals) lower) both)

-- ---- The state

-- a state in the midst of the call: of its values the index of an indirect call may be gone
pub record Midway (s old : State) : Type 0 where
  pub same : still old ≡ still s
  pub pc : old.pc ≡ s.pc
  pub globals : old.globals.items ≡ s.globals.items
  pub progress : old.progress ≡ s.progress

pub is_function : (w : WithTables) (p : Prog) (own : ℕ) (b : Flat) → IsProgram w p → (o : IsOwn w own b) → IsOwnFunction p own o.func_type o.body o.rows
is_function w p own b x o = record {
  typed = (o.index, ap (λ (m : Parts). slice_get m.functions own) x.parts ∙ o.function, ap (λ (m : Parts). slice_get m.types o.index) x.parts ∙ o.typed);
  body_is = ap (λ (m : Parts). slice_get m.bodies own) x.parts ∙ o.body_is;
  rows_are = ap (λ (ts : List (List (List Target))). slice_get ts own) x.tables ∙ o.rows_are;
}

typed_globals : (w : WithTables) (own : ℕ) (b : Flat) → IsOwn w own b → b.context.globals ≡ map (λ g. g.global_type) w.parts.globals
typed_globals w own b o = ap (λ (x : Flat). x.context.globals) o.flat

-- the callers, with the one that waits
callers_wait : (w : WithTables) (s old : State) (c : Config) (st : Stands w s c) (rest : Code) (below : List Value) (results : List ValType) → Midway s old →
    FrameAt st.body results (waiting_frame c.frame rest below) (s.pc + 1) →
    AreCallers w results (caller_of old ∷ reverse old.callers.items) (waiting_frame c.frame rest below ∷ c.callers)
    (values_on (waiting_frame c.frame rest below) st.lower)
callers_wait w s old c st rest below results m f = (
  st.body,
  st.lower,
  rw (ap (λ (x : Still). x.function) m.same) st.own,
  rw m.pc f,
  refl,
  ap (λ (x : Still). x.base) m.same ∙ st.base,
  ap (λ (x : Still). x.operands) m.same ∙ st.operands,
  ap (λ (x : Still). x.results) m.same ∙ st.results,
  rw (ap (λ (x : Still). x.callers) m.same) st.callers,
)

opened_stands : (w : WithTables) (s old n : State) (c : Config) (st : Stands w s c) (rest : Code)
    (args below : List Value) (own : ℕ) (b : Flat) (o : IsOwn w own b) →
    IsValidated w → Midway s old → s.progress ≡ Fresh → map type_of args ≡ reverse o.func_type.params →
    FrameAt st.body b.context.results (waiting_frame c.frame rest below) (s.pc + 1) →
    Mean (reverse old.values.items) (args ++ values_on (waiting_frame c.frame rest below) st.lower) →
    length n.callers.items < MOST_FRAMES → length n.values.items ≤ MOST_VALUES → IsOpened old n own o.func_type o.body o.rows →
    Stands w n (record (inner c rest args below o.func_type (function_of_body o.body)) { progress = NotBegun })
opened_stands w s old n c st rest args below own b o v m fresh at f h few room x =
    let lower = values_on (waiting_frame c.frame rest below) st.lower in
    let long : length args ≡ length o.func_type.params =
    (let p = ap length at in let q = length-map args type_of in let r = length-reverse o.func_type.params in omega arith) in
    let count : length old.values.items ≡ length args + length lower =
    (let p = means_long _ _ h in let q = length-reverse old.values.items in let r = length-append args lower in omega arith) in
    let results : b.context.results ≡ o.func_type.results = ap (λ (y : Flat). y.context.results) o.flat in
    let progress : n.progress ≡ Fresh = x.progress ∙ m.progress ∙ fresh in
    record {
      body = b;
      lower = lower;
      program = rw (x.program ∙ ap (λ (y : Still). y.program) m.same) st.program;
      own = rw x.function o;
      code = ap (λ (y : Flat). y.code) o.flat ∙ sym x.code;
      rows = ap (λ (y : Flat). y.rows) o.flat ∙ sym x.table;
      frame = rw (x.pc, o.flat) (frame_of w.parts o.func_type o.body o.rows args (tabled w own b o v) at);
      values = values_opened old.values.items n.values.items args lower o.body.locals h x.values;
      base = let p = x.base in omega arith;
      operands =
          (let p = x.operands in let q = opened_long old.values.items n.values.items (length o.body.locals) x.values in
          let r = length-append (reverse args) (map zero_of o.body.locals) in let z = length-map o.body.locals zero_of in
          let t = length-reverse args in omega arith);
      results = x.results ∙ ap length (sym results);
      callers = rw x.callers (callers_wait w s old c st rest below b.context.results m f);
      globals = x.globals ∙ m.globals ∙ st.globals;
      globals_typed = st.globals_typed ∙ ap (λ (y : List GlobalType). map (λ (g : GlobalType). g.val_type) y)
          (typed_globals w s.function st.body st.own ∙ sym (typed_globals w own b o));
      progress = sym (ap reached progress);
      few = few;
      room = room;
      answer_fits = tt;
      part = rw progress tt;
    }

-- ---- The step

-- how many values there are with those of the opened function
opened_values : (w : WithTables) (s old : State) (c : Config) (st : Stands w s c) (rest : Code) (args below : List Value) (t : FuncType) (body : Body) →
    Mean (reverse old.values.items) (args ++ values_on (waiting_frame c.frame rest below) st.lower) →
    values_of (inner c rest args below t (function_of_body body)) ≡ length old.values.items + length body.locals
opened_values w s old c st rest args below t body h =
    let waiting = waiting_frame c.frame rest below in
    let lower = values_on waiting st.lower in
    let count : length old.values.items ≡ length args + length lower =
    (let p = means_long _ _ h in let q = length-reverse old.values.items in let r = length-append args lower in omega arith) in
    let low = values_long waiting st.lower in
    let all : values_in c.frame + length st.lower ≡ length s.values.items =
    sym (values_long c.frame st.lower) ∙ sym (means_long _ _ st.values) ∙ length-reverse s.values.items in
    let callers : sum_by values_in c.callers ≡ length st.lower = let p = all_values w s c st in omega arith in
    let new = length-append (reverse args) (map zero_of body.locals) in let turned = length-reverse args in let zeros = length-map body.locals zero_of in
    let sum = sum_by-cons values_in waiting c.callers in
    omega arith

callers_many : (w : WithTables) (results : List ValType) (ks : List Caller) (fs : List Frame) (values : List Value) → AreCallers w results ks fs values →
    length fs ≡ length ks
callers_many w results [] [] values h = refl
callers_many w results [] (f ∷ fs) values h = absurd h
callers_many w results (k ∷ ks) [] values h = absurd h
callers_many w results (k ∷ ks) (f ∷ fs) values h = ap suc (callers_many w h.0.context.results ks fs h.1 h.8)

opens_now : (c after : Config) → length after.callers < MOST_FRAMES → opens c after ≡ Goes after
opens_now c after h = let e : nat_lt (length after.callers) MOST_FRAMES ≡ true = search arith in rw e refl

opens_never : (c after : Config) → MOST_FRAMES ≤ length after.callers → opens c after ≡ Traps traps.StackExhausted
opens_never c after h = let e : nat_lt (length after.callers) MOST_FRAMES ≡ false = search arith in rw e refl

trapped : (w : WithTables) (s n : State) (c : Config) → Stands w s c → s.progress ≡ Fresh →
    next (program_of w.parts) c ≡ Traps traps.StackExhausted → Steps w c (next (program_of w.parts) c) (Trapped traps.StackExhausted) n
trapped w s n c st f h = rw h refl

pub opening : (w : WithTables) (s old n : State) (c : Config) (st : Stands w s c) (step : StepResult) (rest : Code)
    (args below : List Value) (own : ℕ) (b : Flat) (o : IsOwn w own b) →
    IsValidated w → Midway s old → s.progress ≡ Fresh → map type_of args ≡ reverse o.func_type.params →
    FrameAt st.body b.context.results (waiting_frame c.frame rest below) (s.pc + 1) →
    Mean (reverse old.values.items) (args ++ values_on (waiting_frame c.frame rest below) st.lower) → IsEntered old own step n →
    runs (program_of w.parts) c c.frame.code c.frame.operands ≡ opens c (inner c rest args below o.func_type (function_of_body o.body)) →
    Steps w c (next (program_of w.parts) c) step n
opening w s old n c st step rest args below own b o v m fresh at f h x r =
    let after = inner c rest args below o.func_type (function_of_body o.body) in
    let p = program_of w.parts in
    let e = x o.func_type o.body o.rows (subst (λ (q : Prog). IsOwnFunction q own o.func_type o.body o.rows)
    (sym (ap (λ (y : Still). y.program) m.same)) (is_function w s.program own b st.program o)) in
    let many : length c.callers ≡ length old.callers.items =
    callers_many w st.body.context.results (reverse s.callers.items) c.callers st.lower st.callers ∙ length-reverse s.callers.items
    ∙ sym (ap (λ (y : Still). length y.callers) m.same) in
    let count = opened_values w s old c st rest args below o.func_type o.body h in
    elim (cases_lt MOST_FRAMES (length old.callers.items + 2)) [
      | inl deep ↦
          let traps_now : next p c ≡ Traps traps.StackExhausted =
          next_fresh p c (Traps traps.StackExhausted) (not_due w s c st fresh) (r ∙ opens_never c after (let q = many in omega arith)) in
          rw (e.too_deep deep) (trapped w s n c st fresh traps_now)
      | inr few ↦
          let goes = r ∙ opens_now c after (let q = many in omega arith) in
          elim (cases_lt MOST_VALUES (length old.values.items + length o.body.locals)) [
            | inl full ↦
                let traps_now : next p c ≡ Traps traps.StackExhausted =
                next_fresh p c (Goes after) (not_due w s c st fresh) goes ∙ no_room after (Goes after) (let q = count in omega arith) in
                rw (e.too_full full) (trapped w s n c st fresh traps_now)
            | inr room ↦
                let y = e.opened few room in
                let callers : length n.callers.items < MOST_FRAMES =
                (let a = ap length y.1.callers in let d = length-reverse n.callers.items in let g = length-reverse old.callers.items in omega arith) in
                let values : length n.values.items ≤ MOST_VALUES =
                (let a = opened_long old.values.items n.values.items (length o.body.locals) y.1.values in omega arith) in
                let stands = opened_stands w s old n c st rest args below own b o v m fresh at f h callers values y.1 in
                rw y.0 (moved w s n c (record after { progress = NotBegun }) st fresh stands
                (goes ∙ ap (λ q. Goes (record after { progress = q })) (not_due w s c st fresh)))
          ]
    ]
