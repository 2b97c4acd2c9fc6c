-- Calls are the machine's steps.
use Rattle.std.proofs.Common.{◌≡◌, ◌≢◌, ℕ, ◌+◌, ◌-◌, ◌<◌, ◌≤◌, List, [], ◌∷◌, ◌++◌, length, map, reverse, sum_by, Some}
use Rattle.std.proofs.Common.{slice_get, nat_lt, true, false, refl, sym, ◌∙◌, ap, subst, arith, length-append}
use Rattle.std.proofs.Common.{append_assoc}
use Rattle.std.specs.Option.{option_map}
use Rattle.std.proofs.lemmas.List.{length-reverse, length-map}
use Rattle.std.proofs.lemmas.Option.{slice_get-map, slice_get_within}
use Rattle.types.specs.declared.value.ValType.{ValType}
use Rattle.types.specs.declared.value.ValType.TheVariants as types
use Rattle.types.specs.declared.value.Value.{Value}
use Rattle.types.specs.declared.value.Value.TheVariants as values
use Rattle.types.specs.declared.instr.PlainInstr.{PlainInstr}
use Rattle.types.specs.declared.instr.PlainInstr.TheVariants as plain
use Rattle.types.specs.declared.instr.Instr.TheVariants.{Plain}
use Rattle.types.specs.declared.parts.FuncType.{FuncType}
use Rattle.types.specs.declared.parts.Parts.{Parts}
use Rattle.types.specs.declared.event.Event.TheVariants.{Ask}
use Rattle.types.specs.declared.event.Question.TheVariants.{Spawn}
use Rattle.types.specs.Nesting.{Code, Then}
use Rattle.types.specs.Values.{type_of}
use Rattle.types.specs.declared.limits.TheConstants.{MOST_VALUES}
use Rattle.validate_typing.specs.Placed.{Flat, goes_on}
use Rattle.validate_typing.specs.Context.{imported_functions, functions_of}
use Rattle.validate_typing.specs.Tabled.{WithTables, IsValidated}
use Rattle.interp_machine.specs.Config.{Config, Asks, values_in, values_of}
use Rattle.interp_machine.specs.Program.{Program, Function, program_of, function_of_body}
use Rattle.interp_machine.specs.Step.{next, runs, opens, calls, calls_own, waits}
use Rattle.interp_state.specs.declared.state.Program.{Program as Prog}
use Rattle.interp_state.specs.declared.state.State.{State}
use Rattle.interp_state.specs.declared.state.Progress.TheVariants.{Fresh, Asked}
use Rattle.interp_state.specs.declared.state.StepResult.{StepResult}
use Rattle.interp_state.specs.declared.state.StepResult.TheVariants.{Wants}
use Rattle.interp_state.specs.Stands.{belows, values_on, FrameAt, Stands}
use Rattle.interp_state.specs.Steps.{Steps, Replies, ComesNext, IsAt}
use Rattle.interp_state.specs.Words.{word_of, Mean, HasWords}
use Rattle.interp_state.proofs.Words.{means_long, means_same}
use Rattle.interp_state.proofs.Views.{AtPlain, Still, still, all_values, values_long, frame_behind, remade}
use Rattle.interp_state.proofs.Events.{fresh_not_asked, at_undue, wants, replies}
use Rattle.interp_state.proofs.Branch.{split_types, front_is}
use Rattle.interp_calls.specs.Entering.{IsOwnFunction, CanEnter, IsEntered, HasBodies}
use Rattle.interp_calls.proofs.Opening.{Midway, waiting_frame, inner, opening, is_function}
use Rattle.interp_calls.proofs.Functions.{called, own_of, spawn_type}

-- a state is as it was
pub unmoved : (s : State) → Midway s s
unmoved s = record { same = refl; pc = refl; globals = refl; progress = refl }

-- the frame waits behind the call
pub waits_there : (w : WithTables) (s : State) (c : Config) (st : Stands w s c) (op : PlainInstr) (at : AtPlain st.body [] c.frame op s.pc)
    (results tail : List ValType) (below : List Value) → goes_on op true ≡ true → at.middle ≡ results ++ tail → map type_of below ≡ tail →
    FrameAt st.body results (waiting_frame c.frame at.rest below) (s.pc + 1)
waits_there w s c st op at results tail below g m h =
    frame_behind w s c st op at results below c.frame.locals g (ap (λ (ts : List ValType). results ++ ts) h ∙ sym m) refl

-- ---- Functions of the module itself

-- a call of a function of the module itself, behind the tests
pub record CallsOwn (w : WithTables) (s old : State) (c : Config) (st : Stands w s c) (rest : Code)
    (operands : List Value) (f index : ℕ) (t : FuncType) (tail : List ValType) : Type 0 where
  pub own : length (imported_functions w.parts) ≤ f
  pub function : slice_get (functions_of w.parts) f ≡ Some index
  pub typed : slice_get w.parts.types index ≡ Some t
  pub midway : Midway s old
  pub operands_typed : map type_of operands ≡ reverse t.params ++ tail
  pub values : Mean (reverse old.values.items) (operands ++ (belows c.frame.labels ++ (reverse c.frame.locals ++ st.lower)))

pub can_enter : (w : WithTables) (s old : State) (c : Config) (st : Stands w s c) (rest : Code)
    (operands : List Value) (f index : ℕ) (t : FuncType) (tail : List ValType) →
    IsValidated w → HasBodies s → CallsOwn w s old c st rest operands f index t tail → length old.values.items ≤ MOST_VALUES → s.pc < length s.code.now →
    CanEnter old (f - old.program.imported)
can_enter w s old c st rest operands f index t tail v bodies x room place =
    let program : old.program ≡ s.program = ap (λ (y : Still). y.program) x.midway.same in
    let many : length w.parts.functions ≡ length w.parts.bodies = subst (λ (m : Parts). length m.functions ≡ length m.bodies) st.program.parts bodies in
    let k = called w v many f index t x.own x.function x.typed in
    let at : f - length (imported_functions w.parts) ≡ f - old.program.imported = ap (λ (n : ℕ). f - n)
    (sym (ap (λ (y : Prog). y.imported) program ∙ st.program.imported)) in
    let is = is_function w s.program (f - length (imported_functions w.parts)) _ st.program (own_of w (f - length (imported_functions w.parts)) index t k) in
    record {
      func_type = t;
      body = k.body;
      rows = k.rows;
      is = subst (λ (i : ℕ). IsOwnFunction old.program i t k.body k.rows) at
          (subst (λ (y : Prog). IsOwnFunction y (f - length (imported_functions w.parts)) t k.body k.rows) (sym program) is);
      arguments =
          (let a = ap length x.operands_typed in let b = length-map operands type_of in
          let d = length-append (reverse t.params) tail in let e = length-reverse t.params in
          let g = means_long _ _ x.values in let h = length-reverse old.values.items in
          let i = length-append operands (belows c.frame.labels ++ (reverse c.frame.locals ++ st.lower)) in
          omega arith);
      room = room;
      behind = rw (x.midway.pc, ap (λ (y : Still). length y.code) x.midway.same) place;
    }

own_is : (p : Program) (c : Config) (f : ℕ) (t : FuncType) (own : Function) (rest : Code) (operands : List Value) → p.imported ≤ f →
    slice_get p.bodies (f - p.imported) ≡ Some own → calls p c f t rest operands ≡ calls_own c t own rest operands
own_is p c f t own rest operands h e = let g : nat_lt f p.imported ≡ false = search arith in rw (g, e) refl

pub enters_own : (w : WithTables) (s old n : State) (c : Config) (st : Stands w s c) (step : StepResult) (rest : Code)
    (operands : List Value) (f index : ℕ) (t : FuncType) (tail : List ValType) →
    IsValidated w → HasBodies s → s.progress ≡ Fresh → CallsOwn w s old c st rest operands f index t tail →
    ((below : List Value) → map type_of below ≡ tail → FrameAt st.body t.results (waiting_frame c.frame rest below) (s.pc + 1)) →
    IsEntered old (f - old.program.imported) step n →
    runs (program_of w.parts) c c.frame.code c.frame.operands ≡ calls (program_of w.parts) c f t rest operands →
    Steps w c (next (program_of w.parts) c) step n
enters_own w s old n c st step rest operands f index t tail v bodies fresh x wait e r =
    let program : old.program ≡ s.program = ap (λ (y : Still). y.program) x.midway.same in
    let many : length w.parts.functions ≡ length w.parts.bodies = subst (λ (m : Parts). length m.functions ≡ length m.bodies) st.program.parts bodies in
    let own = f - length (imported_functions w.parts) in
    let k = called w v many f index t x.own x.function x.typed in
    let at : f - old.program.imported ≡ own = ap (λ (n : ℕ). f - n) (ap (λ (y : Prog). y.imported) program ∙ st.program.imported) in
    let split = split_types (reverse t.params) tail operands x.operands_typed in
    let body : slice_get (program_of w.parts).bodies own ≡ Some (function_of_body k.body) =
    slice_get-map function_of_body w.parts.bodies own ∙ ap (option_map function_of_body) k.body_is in
    let whole : Mean (reverse old.values.items) (split.kept ++ values_on (waiting_frame c.frame rest split.gone) st.lower) =
    means_same _ _ _ (ap (λ (y : List Value). y ++ (belows c.frame.labels ++ (reverse c.frame.locals ++ st.lower))) split.whole
    ∙ append_assoc split.kept split.gone _) x.values in
    opening w s old n c st step rest split.kept split.gone own _ (own_of w own index t k) v x.midway fresh split.kept_typed
    (wait split.gone split.gone_typed) whole (subst (λ (i : ℕ). IsEntered old i step n) at e)
    (r ∙ own_is (program_of w.parts) c f t (function_of_body k.body) rest operands x.own body
    ∙ front_is operands (reverse t.params) tail (length t.params)
    (λ args below. opens c (inner c rest args below t (function_of_body k.body))) split (sym (length-reverse t.params)))

-- ---- The imported function

-- the imported function is called with an argument, which lies below these values
pub record Spawns (w : WithTables) (s : State) (c : Config) (st : Stands w s c) (above : List Value) : Type 0 where
  pub arg : ℕ
  pub rest : Code
  pub below : List Value
  pub runs : runs (program_of w.parts) c c.frame.code c.frame.operands ≡ Asks (Ask (Spawn arg)) (λ _. waits c rest below)
  pub frame : FrameAt st.body (types.I32 ∷ []) (waiting_frame c.frame rest below) (s.pc + 1)
  pub values : Mean (reverse s.values.items) (above ++ (values.I32 arg ∷ values_on (waiting_frame c.frame rest below) st.lower))

-- how many values stay
left_values : (w : WithTables) (s : State) (c : Config) (st : Stands w s c) (above : List Value) (x : Spawns w s c st above) →
    values_of (waits c x.rest x.below) < length s.values.items
left_values w s c st above x =
    let waiting = waiting_frame c.frame x.rest x.below in
    let low = values_long waiting st.lower in
    let all : values_in c.frame + length st.lower ≡ length s.values.items =
    sym (values_long c.frame st.lower) ∙ sym (means_long _ _ st.values) ∙ length-reverse s.values.items in
    let callers : sum_by values_in c.callers ≡ length st.lower = let p = all_values w s c st in omega arith in
    let count = means_long _ _ x.values in let turned = length-reverse s.values.items in
    let parts = length-append above (values.I32 x.arg ∷ values_on waiting st.lower) in
    omega arith

left_room : (w : WithTables) (s : State) (c : Config) (st : Stands w s c) (above : List Value) (x : Spawns w s c st above) →
    values_of (waits c x.rest x.below) ≤ MOST_VALUES
left_room w s c st above x = let a = left_values w s c st above x in let b = st.room in omega arith

-- the question is asked
pub spawn_wants : (w : WithTables) (s : State) (c : Config) (st : Stands w s c) (above : List Value)
    (x : Spawns w s c st above) (arg : ℕ) → s.progress ≡ Fresh →
    arg ≡ x.arg → Steps w c (next (program_of w.parts) c) (Wants (Ask (Spawn arg))) s
spawn_wants w s c st above x arg f e =
    rw e (wants w s c (Ask (Spawn x.arg)) (λ _. waits c x.rest x.below) st (fresh_not_asked s f) (left_room w s c st above x) tt x.runs)

-- the answer is due
pub spawn_replied : (w : WithTables) (s n : State) (c : Config) (st : Stands w s c) (above : List Value)
    (x : Spawns w s c st above) (number : ℕ) → s.progress ≢ Asked →
    still n ≡ still s → n.pc ≡ s.pc + 1 → n.progress ≡ Asked → n.globals.items ≡ s.globals.items →
    Mean (reverse n.values.items) (values_on (waiting_frame c.frame x.rest x.below) st.lower) → Replies w (next (program_of w.parts) c) number n
spawn_replied w s n c st above x number u e k p g v =
    let less : length n.values.items < MOST_VALUES =
    (let a = means_long _ _ v in let b = length-reverse n.values.items in let d = means_long _ _ x.values in let f = length-reverse s.values.items in
    let h = length-append above (values.I32 x.arg ∷ values_on (waiting_frame c.frame x.rest x.below) st.lower) in let i = st.room in omega arith) in
    replies w s n c (Ask (Spawn x.arg)) (λ _. waits c x.rest x.below) number st u (left_room w s c st above x) x.runs
    (remade w s n c st (waiting_frame c.frame x.rest x.below) c.globals Asked (rw k x.frame) e p v (omega (arith, less)) refl (g ∙ st.globals) refl tt less)

-- what is left below the topmost word
pub means_below : (words left : List ℕ) (w : ℕ) (v : Value) (more : List Value) → Mean words (v ∷ more) → words ≡ w ∷ left → Mean left more
means_below words left w v more m e = let a = m.are in record { are = cc; in_range = m.in_range.1 }

-- a number of 32 bits on top
pub record Number (vs : List Value) (ts : List ValType) : Type 0 where
  pub number : ℕ
  pub below : List Value
  pub is : vs ≡ values.I32 number ∷ below
  pub typed : map type_of below ≡ ts

pub number_on : (vs : List Value) (ts : List ValType) → map type_of vs ≡ types.I32 ∷ ts → Number vs ts
number_on [] ts h = absurd cc
number_on (values.I32 n ∷ below) ts h = record { number = n; below = below; is = refl; typed = cc }
number_on (values.I64 n ∷ below) ts h = absurd cc

pub functions_are : (w : WithTables) (s : State) (c : Config) (st : Stands w s c) → st.body.context.functions ≡ functions_of w.parts
functions_are w s c st = ap (λ (b : Flat). b.context.functions) st.own.flat

pub types_are : (w : WithTables) (s : State) (c : Config) (st : Stands w s c) → st.body.context.types ≡ w.parts.types
types_are w s c st = ap (λ (b : Flat). b.context.types) st.own.flat

pub spawn_is : (p : Program) (c : Config) (f : ℕ) (t : FuncType) (rest : Code) (operands below : List Value) (arg : ℕ) → f < p.imported →
    operands ≡ values.I32 arg ∷ below → calls p c f t rest operands ≡ Asks (Ask (Spawn arg)) (λ _. waits c rest below)
spawn_is p c f t rest operands below arg h e = let g : nat_lt f p.imported ≡ true = search arith in rw (g, e) refl

-- ---- Calls

-- the function of a call, with its type
pub record CallAt (w : WithTables) (s : State) (c : Config) (st : Stands w s c) (f : ℕ) : Type 0 where
  pub index : ℕ
  pub func_type : FuncType
  pub tail : List ValType
  pub at : AtPlain st.body [] c.frame (plain.Call f) s.pc
  pub function : slice_get (functions_of w.parts) f ≡ Some index
  pub typed : slice_get w.parts.types index ≡ Some func_type
  pub operands_typed : map type_of c.frame.operands ≡ reverse func_type.params ++ tail
  pub middle : at.middle ≡ func_type.results ++ tail
  pub runs : runs (program_of w.parts) c c.frame.code c.frame.operands ≡ calls (program_of w.parts) c f func_type at.rest c.frame.operands

call_runs : (p : Program) (c : Config) (f index : ℕ) (t : FuncType) (rest : Code)
    → c.frame.code ≡ Then (plain.Call f) rest → slice_get p.functions f ≡ Some index →
    slice_get p.types index ≡ Some t → runs p c c.frame.code c.frame.operands ≡ calls p c f t rest c.frame.operands
call_runs p c f index t rest h e g = rw (h, e, g) refl

pub call_at : (w : WithTables) (s : State) (c : Config) (f : ℕ) (st : Stands w s c) → IsAt s (Plain (plain.Call f))
    → s.progress ≢ Asked → CallAt w s c st f
call_at w s c f st h u =
    let at = at_undue w s c (plain.Call f) st h u in
    let fits = at.fits in
    let function : slice_get (functions_of w.parts) f ≡ Some fits.0 = ap (λ (x : List ℕ). slice_get x f) (sym (functions_are w s c st)) ∙ fits.1 in
    let typed : slice_get w.parts.types fits.0 ≡ Some fits.2.0 = ap (λ (x : List FuncType). slice_get x fits.0) (sym (types_are w s c st)) ∙ fits.2.1 in
    record {
      index = fits.0;
      func_type = fits.2.0;
      tail = fits.2.2.0;
      at = at;
      function = function;
      typed = typed;
      operands_typed = fits.2.2.1;
      middle = fits.2.2.2;
      runs = call_runs (program_of w.parts) c f fits.0 fits.2.0 at.rest at.code_is function typed;
    }

-- of an imported function
pub call_spawns : (w : WithTables) (s : State) (c : Config) (st : Stands w s c) (f : ℕ) → IsValidated w
    → f < s.program.imported → CallAt w s c st f → Spawns w s c st []
call_spawns w s c st f v k x =
    let low : f < length (imported_functions w.parts) = let e = st.program.imported in omega arith in
    let spawn = spawn_type w.parts v.valid f x.index x.func_type low x.function x.typed in
    let top = number_on c.frame.operands x.tail (x.operands_typed ∙ ap (λ (ts : List ValType). reverse ts ++ x.tail) spawn.0) in
    record {
      arg = top.number;
      rest = x.at.rest;
      below = top.below;
      runs = x.runs ∙ spawn_is (program_of w.parts) c f x.func_type x.at.rest c.frame.operands top.below top.number low top.is;
      frame = waits_there w s c st (plain.Call f) x.at (types.I32 ∷ []) x.tail top.below refl (x.middle
          ∙ ap (λ (ts : List ValType). ts ++ x.tail) spawn.1) top.typed;
      values = means_same _ _ _ (ap (λ (y : List Value). y ++ (belows c.frame.labels ++ (reverse c.frame.locals ++ st.lower))) top.is) st.values;
    }

pub call_asks : (s : State) (f : ℕ) → ComesNext s (Plain (plain.Call f)) → f < s.program.imported
    → HasWords (types.I32 ∷ []) (reverse s.values.items)
call_asks s f b k =
    let w = b.sound.0 in let c = b.sound.1 in let st = b.sound.3 in
    let x = call_spawns w s c st f b.sound.2 k (call_at w s c f st b.here (fresh_not_asked s b.fresh)) in
    (_, x.values, (map type_of (values_on (waiting_frame c.frame x.rest x.below) st.lower), refl))

pub call_wants : (w : WithTables) (s : State) (c : Config) (f arg : ℕ) (below : List ℕ) → IsValidated w
    → Stands w s c → ComesNext s (Plain (plain.Call f)) →
    f < s.program.imported → reverse s.values.items ≡ arg ∷ below → Steps w c (next (program_of w.parts) c) (Wants (Ask (Spawn arg))) s
call_wants w s c f arg below v st b k h =
    let x = call_spawns w s c st f v k (call_at w s c f st b.here (fresh_not_asked s b.fresh)) in
    let same : arg ∷ below ≡ x.arg ∷ map word_of (values_on (waiting_frame c.frame x.rest x.below) st.lower) = sym h ∙ x.values.are in
    spawn_wants w s c st [] x arg b.fresh cc

-- of a function of the module itself
own_call : (w : WithTables) (s : State) (c : Config) (st : Stands w s c) (f : ℕ) → s.program.imported ≤ f → (x : CallAt w s c st f) →
    CallsOwn w s s c st x.at.rest c.frame.operands f x.index x.func_type x.tail
own_call w s c st f k x = record {
  own = let e = st.program.imported in omega arith;
  function = x.function;
  typed = x.typed;
  midway = unmoved s;
  operands_typed = x.operands_typed;
  values = st.values;
}

pub call_ready : (s : State) (f : ℕ) → ComesNext s (Plain (plain.Call f)) → HasBodies s → s.program.imported ≤ f → CanEnter s (f - s.program.imported)
call_ready s f b bodies k =
    let w = b.sound.0 in let c = b.sound.1 in let st = b.sound.3 in
    let x = call_at w s c f st b.here (fresh_not_asked s b.fresh) in
    can_enter w s s c st x.at.rest c.frame.operands f x.index x.func_type x.tail b.sound.2 bodies
    (own_call w s c st f k x) st.room (slice_get_within _ _ _ b.here)

pub call_enters : (w : WithTables) (s n : State) (c : Config) (step : StepResult) (f : ℕ) → IsValidated w → Stands w s c
    → ComesNext s (Plain (plain.Call f)) → HasBodies s →
    s.program.imported ≤ f → IsEntered s (f - s.program.imported) step n → Steps w c (next (program_of w.parts) c) step n
call_enters w s n c step f v st b bodies k e =
    let x = call_at w s c f st b.here (fresh_not_asked s b.fresh) in
    enters_own w s s n c st step x.at.rest c.frame.operands f x.index x.func_type x.tail v bodies b.fresh (own_call w s c st f k x)
    (λ below h. waits_there w s c st (plain.Call f) x.at x.func_type.results x.tail below refl x.middle h) e x.runs
