-- Indirect calls are the machine's steps.
use Rattle.std.proofs.Common.{◌≡◌, ◌≢◌, ℕ, ◌+◌, ◌-◌, ◌<◌, ◌≤◌, List, [], ◌∷◌, ◌++◌, length, map, reverse, take, Option}
use Rattle.std.proofs.Common.{Some, None, slice_get, Bool, true, false, inl, inr, refl, sym, ◌∙◌, ap, subst, arith}
use Rattle.std.proofs.Common.{length-append}
use Rattle.std.proofs.lemmas.List.{length-reverse, reverse-append, reverse-reverse}
use Rattle.std.proofs.Math.Seq.{take-append_seam}
use Rattle.std.proofs.lemmas.Option.{slice_get_within}
use Rattle.std.proofs.lemmas.Bool.{cases_lt}
use Rattle.types.specs.declared.value.ValType.{ValType}
use Rattle.types.specs.declared.value.ValType.TheVariants as types
use Rattle.types.specs.declared.value.Value.{Value}
use Rattle.types.specs.declared.value.Value.TheVariants as values
use Rattle.types.specs.declared.instr.PlainInstr.TheVariants as plain
use Rattle.types.specs.declared.instr.Instr.TheVariants.{Plain}
use Rattle.types.specs.declared.parts.FuncType.{FuncType}
use Rattle.types.specs.declared.parts.Parts.{Parts}
use Rattle.types.specs.declared.event.Event.TheVariants.{Ask}
use Rattle.types.specs.declared.event.Question.TheVariants.{Spawn}
use Rattle.types.specs.declared.outcome.Trap.{Trap}
use Rattle.types.specs.declared.outcome.Trap.TheVariants as traps
use Rattle.types.specs.Nesting.{Code, Then}
use Rattle.types.specs.Values.{type_of}
use Rattle.types.specs.declared.limits.TheConstants.{MOST_VALUES}
use Rattle.validate_typing.specs.Context.{imported_functions, functions_of}
use Rattle.validate_typing.specs.Tabled.{WithTables, IsValidated}
use Rattle.interp_machine.specs.Config.{Config, Traps}
use Rattle.interp_machine.specs.Program.{Program, program_of, opening_table}
use Rattle.interp_machine.specs.Step.{next, runs, limited, calls, calls_place, same_type}
use Rattle.interp_state.specs.declared.state.Program.{Program as Prog}
use Rattle.interp_state.specs.declared.state.State.{State}
use Rattle.interp_state.specs.declared.state.Progress.TheVariants.{Asked}
use Rattle.interp_state.specs.declared.state.StepResult.{StepResult}
use Rattle.interp_state.specs.declared.state.StepResult.TheVariants.{Trapped, Wants}
use Rattle.interp_state.specs.Stands.{belows, values_on, IsProgram, Stands}
use Rattle.interp_state.specs.Steps.{Steps, Replies, ComesNext, Wanting, IsAsking, IsAt}
use Rattle.interp_state.specs.Words.{word_of, Mean, HasWords}
use Rattle.interp_state.proofs.Words.{means_long, means_same}
use Rattle.interp_state.proofs.Views.{AtPlain, still}
use Rattle.interp_state.proofs.Events.{fresh_not_asked, undue, at_undue, next_limited, not_asked}
use Rattle.interp_calls.specs.Entering.{CanEnter, IsEntered, HasBodies, FunctionHasType}
use Rattle.interp_calls.proofs.Opening.{Midway, waiting_frame}
use Rattle.interp_calls.proofs.Functions.{spawn_type, in_table, Typed, typed_function, equal_types}
use Rattle.interp_calls.proofs.Calls.{waits_there, CallsOwn, can_enter, enters_own}
use Rattle.interp_calls.proofs.Calls.{Spawns, spawn_wants, spawn_replied, means_below, number_on, types_are, spawn_is}
use Rattle.interp_calls.proofs.Replied.{own_asks}

-- ---- The place and the stated type

pub record IndirectAt (w : WithTables) (s : State) (c : Config) (st : Stands w s c) (type_index : ℕ) : Type 0 where
  pub stated : FuncType
  pub place : ℕ
  pub operands : List Value
  pub tail : List ValType
  pub at : AtPlain st.body [] c.frame (plain.CallIndirect type_index) s.pc
  pub typed : slice_get w.parts.types type_index ≡ Some stated
  pub operands_are : c.frame.operands ≡ values.I32 place ∷ operands
  pub operands_typed : map type_of operands ≡ reverse stated.params ++ tail
  pub middle : at.middle ≡ stated.results ++ tail
  pub runs : runs (program_of w.parts) c c.frame.code c.frame.operands ≡
      calls_place (program_of w.parts) c stated at.rest operands (slice_get (opening_table w.parts) place)
  pub values : Mean (reverse s.values.items) (values.I32 place ∷ (operands ++ (belows c.frame.labels ++ (reverse c.frame.locals ++ st.lower))))

indirect_runs : (p : Program) (c : Config) (type_index place : ℕ) (t : FuncType) (rest : Code) (operands : List Value) →
    c.frame.code ≡ Then (plain.CallIndirect type_index) rest → slice_get p.types type_index ≡ Some t → c.frame.operands ≡ values.I32 place ∷ operands →
    runs p c c.frame.code c.frame.operands ≡ calls_place p c t rest operands (slice_get p.table place)
indirect_runs p c type_index place t rest operands h e g = rw (h, e, g) refl

pub indirect_at : (w : WithTables) (s : State) (c : Config) (type_index : ℕ) (st : Stands w s c) → IsAt s (Plain (plain.CallIndirect type_index)) →
    s.progress ≢ Asked → IndirectAt w s c st type_index
indirect_at w s c type_index st h u =
    let at = at_undue w s c (plain.CallIndirect type_index) st h u in
    let fits = at.fits in
    let typed : slice_get w.parts.types type_index ≡ Some fits.2.0 = ap (λ (x : List FuncType). slice_get x type_index) (sym (types_are w s c st)) ∙ fits.2.1 in
    let top = number_on c.frame.operands (reverse fits.2.0.params ++ fits.2.2.0) fits.2.2.1 in
    record {
      stated = fits.2.0;
      place = top.number;
      operands = top.below;
      tail = fits.2.2.0;
      at = at;
      typed = typed;
      operands_are = top.is;
      operands_typed = top.typed;
      middle = fits.2.2.2;
      runs = indirect_runs (program_of w.parts) c type_index top.number fits.2.0 at.rest top.below at.code_is typed top.is;
      values = means_same _ _ _ (ap (λ (y : List Value). y ++ (belows c.frame.labels ++ (reverse c.frame.locals ++ st.lower))) top.is) st.values;
    }

-- ---- The tests

place_calls : (p : Program) (c : Config) (t found : FuncType) (rest : Code) (operands : List Value) (f index : ℕ) → slice_get p.functions f ≡ Some index →
    slice_get p.types index ≡ Some found → same_type found t ≡ true → calls_place p c t rest operands (Some (Some f)) ≡ calls p c f t rest operands
place_calls p c t found rest operands f index h e g = rw (h, e, g) refl

place_differs : (p : Program) (c : Config) (t found : FuncType) (rest : Code) (operands : List Value) (f index : ℕ) → slice_get p.functions f ≡ Some index →
    slice_get p.types index ≡ Some found → same_type found t ≡ false → calls_place p c t rest operands (Some (Some f)) ≡ Traps traps.SignatureMismatch
place_differs p c t found rest operands f index h e g = rw (h, e, g) refl

traps_now : (w : WithTables) (s n : State) (c : Config) (st : Stands w s c) (trap : Trap) → s.progress ≢ Asked →
    runs (program_of w.parts) c c.frame.code c.frame.operands ≡ Traps trap → Steps w c (next (program_of w.parts) c) (Trapped trap) n
traps_now w s n c st trap u h = rw (next_limited (program_of w.parts) c (Traps trap) (undue w s c st u) h) refl

-- a function's type, as the state's program has it
pub has_type : (w : WithTables) (p : Prog) (f : ℕ) → IsProgram w p → (t : Typed w.parts f) → FunctionHasType p f t.func_type
has_type w p f x t =
    (t.index, ap (λ (fs : List ℕ). slice_get fs f) x.functions ∙ t.function, ap (λ (m : Parts). slice_get m.types t.index) x.parts ∙ t.typed)

-- a function at a place of the table, which has the stated type
pub record Tested (w : WithTables) (s : State) (c : Config) (st : Stands w s c) (type_index place f : ℕ) : Type 0 where
  pub at : IndirectAt w s c st type_index
  pub place_is : at.place ≡ place
  pub index : ℕ
  pub function : slice_get (functions_of w.parts) f ≡ Some index
  pub typed : slice_get w.parts.types index ≡ Some at.stated
  pub runs : runs (program_of w.parts) c c.frame.code c.frame.operands ≡ calls (program_of w.parts) c f at.stated at.at.rest at.operands

same_place : (w : WithTables) (s : State) (c : Config) (st : Stands w s c) (type_index place : ℕ) (below : List ℕ) (x : IndirectAt w s c st type_index) →
    reverse s.values.items ≡ place ∷ below → x.place ≡ place
same_place w s c st type_index place below x h =
    let both : x.place ∷ map word_of (x.operands ++ (belows c.frame.labels ++ (reverse c.frame.locals ++ st.lower))) ≡ place ∷ below =
    sym x.values.are ∙ h in cc

-- what the table has at the place
element_is : (w : WithTables) (s : State) (c : Config) (st : Stands w s c) (type_index place : ℕ) (o : Option (Option ℕ)) (x : IndirectAt w s c st type_index) →
    x.place ≡ place → slice_get s.program.elements.items place ≡ o → slice_get (opening_table w.parts) x.place ≡ o
element_is w s c st type_index place o x e h = ap (slice_get (opening_table w.parts)) e
    ∙ ap (λ (t : List (Option ℕ)). slice_get t place) (sym st.program.elements) ∙ h

placed_runs : (w : WithTables) (s : State) (c : Config) (st : Stands w s c) (type_index place : ℕ)
    (o : Option (Option ℕ)) (x : IndirectAt w s c st type_index) →
    x.place ≡ place → slice_get s.program.elements.items place ≡ o →
    runs (program_of w.parts) c c.frame.code c.frame.operands ≡ calls_place (program_of w.parts) c x.stated x.at.rest x.operands o
placed_runs w s c st type_index place o x e h =
    x.runs ∙ ap (calls_place (program_of w.parts) c x.stated x.at.rest x.operands) (element_is w s c st type_index place o x e h)

pub tested : (w : WithTables) (s : State) (c : Config) (st : Stands w s c) (type_index place f : ℕ) (below : List ℕ) (found stated : FuncType) →
    IndirectAt w s c st type_index → reverse s.values.items ≡ place ∷ below → slice_get s.program.elements.items place ≡ Some (Some f) →
    FunctionHasType s.program f found → slice_get s.program.parts.now.types type_index ≡ Some stated
    → same_type found stated ≡ true → Tested w s c st type_index place f
tested w s c st type_index place f below found stated x h e k i same =
    let place_is = same_place w s c st type_index place below x h in
    let function : slice_get (functions_of w.parts) f ≡ Some k.0 = ap (λ (fs : List ℕ). slice_get fs f) (sym st.program.functions) ∙ k.1 in
    let typed : slice_get w.parts.types k.0 ≡ Some found = ap (λ (m : Parts). slice_get m.types k.0) (sym st.program.parts) ∙ k.2 in
    let there : slice_get w.parts.types type_index ≡ Some stated = ap (λ (m : Parts). slice_get m.types type_index) (sym st.program.parts) ∙ i in
    let one : stated ≡ x.stated = let y = x.typed in cc in
    let equal : found ≡ x.stated = equal_types found stated same ∙ one in
    record {
      at = x;
      place_is = place_is;
      index = k.0;
      function = function;
      typed = typed ∙ ap Some equal;
      runs = placed_runs w s c st type_index place (Some (Some f)) x place_is e
          ∙ place_calls (program_of w.parts) c x.stated found x.at.rest x.operands f k.0 function typed (ap (same_type found) (sym one) ∙ same);
    }

-- ---- The imported function

pub indirect_spawns : (w : WithTables) (s : State) (c : Config) (st : Stands w s c) (type_index place f : ℕ) → IsValidated w → f < s.program.imported →
    Tested w s c st type_index place f → Spawns w s c st (values.I32 place ∷ [])
indirect_spawns w s c st type_index place f v k x =
    let low : f < length (imported_functions w.parts) = let e = st.program.imported in omega arith in
    let spawn = spawn_type w.parts v.valid f x.index x.at.stated low x.function x.typed in
    let top = number_on x.at.operands x.at.tail (x.at.operands_typed ∙ ap (λ (ts : List ValType). reverse ts ++ x.at.tail) spawn.0) in
    record {
      arg = top.number;
      rest = x.at.at.rest;
      below = top.below;
      runs = x.runs ∙ spawn_is (program_of w.parts) c f x.at.stated x.at.at.rest x.at.operands top.below top.number low top.is;
      frame = waits_there w s c st (plain.CallIndirect type_index) x.at.at (types.I32 ∷ []) x.at.tail top.below refl
          (x.at.middle ∙ ap (λ (ts : List ValType). ts ++ x.at.tail) spawn.1) top.typed;
      values = means_same _ _ _
          (ap (λ (n : ℕ). values.I32 n ∷ (x.at.operands ++ (belows c.frame.labels ++ (reverse c.frame.locals ++ st.lower)))) x.place_is
          ∙ ap (λ (y : List Value). values.I32 place ∷ (y ++ (belows c.frame.labels ++ (reverse c.frame.locals ++ st.lower)))) top.is) x.at.values;
    }

-- ---- The turn

-- what the turn found: the place on top, and the function there
pub record Found (s : State) (type_index place f : ℕ) : Type 0 where
  pub below : List ℕ
  pub func_type : FuncType
  pub stated : FuncType
  pub top : reverse s.values.items ≡ place ∷ below
  pub element : slice_get s.program.elements.items place ≡ Some (Some f)
  pub has_type : FunctionHasType s.program f func_type
  pub stated_is : slice_get s.program.parts.now.types type_index ≡ Some stated
  pub same : same_type func_type stated ≡ true

pub element_typed : (s : State) (type_index place f : ℕ) → ComesNext s (Plain (plain.CallIndirect type_index))
    → slice_get s.program.elements.items place ≡ Some (Some f) →
    (t : FuncType) × FunctionHasType s.program f t
element_typed s type_index place f b e =
    let w = b.sound.0 in let st = b.sound.3 in
    let t = typed_function w.parts b.sound.2.valid f
    (in_table w.parts b.sound.2.valid place f (ap (λ (x : List (Option ℕ)). slice_get x place)
    (sym st.program.elements) ∙ e)) in
    (t.func_type, has_type w s.program f st.program t)

pub stated_there : (s : State) (type_index : ℕ) → ComesNext s (Plain (plain.CallIndirect type_index))
    → (t : FuncType) × (slice_get s.program.parts.now.types type_index ≡ Some t)
stated_there s type_index b =
    let w = b.sound.0 in let c = b.sound.1 in let st = b.sound.3 in
    let x = indirect_at w s c type_index st b.here (fresh_not_asked s b.fresh) in
    (x.stated, ap (λ (m : Parts). slice_get m.types type_index) st.program.parts ∙ x.typed)

pub found_by : (s : State) (type_index place f : ℕ) (below : List ℕ) (answer : Bool) → ComesNext s (Plain (plain.CallIndirect type_index)) →
    reverse s.values.items ≡ place ∷ below → slice_get s.program.elements.items place ≡ Some (Some f) →
    ((t stated : FuncType) → FunctionHasType s.program f t
    → slice_get s.program.parts.now.types type_index ≡ Some stated → answer ≡ same_type t stated)
    → answer ≡ true →
    Found s type_index place f
found_by s type_index place f below answer b top element answers holds =
    let t = element_typed s type_index place f b element in let stated = stated_there s type_index b in
    record {
      below = below;
      func_type = t.0;
      stated = stated.0;
      top = top;
      element = element;
      has_type = t.1;
      stated_is = stated.1;
      same = sym (answers t.0 stated.0 t.1 stated.1) ∙ holds;
    }

pub found_tested : (w : WithTables) (s : State) (c : Config) (st : Stands w s c) (type_index place f : ℕ) → IsAt s (Plain (plain.CallIndirect type_index)) →
    s.progress ≢ Asked → Found s type_index place f → Tested w s c st type_index place f
found_tested w s c st type_index place f h u x =
    tested w s c st type_index place f x.below x.func_type x.stated (indirect_at w s c type_index st h u) x.top x.element x.has_type x.stated_is x.same

pub indirect_asks : (s : State) (type_index : ℕ) → ComesNext s (Plain (plain.CallIndirect type_index))
    → HasWords (types.I32 ∷ []) (reverse s.values.items)
indirect_asks s type_index b =
    let w = b.sound.0 in let c = b.sound.1 in let st = b.sound.3 in
    let x = indirect_at w s c type_index st b.here (fresh_not_asked s b.fresh) in
    (_, x.values, (map type_of (x.operands ++ (belows c.frame.labels ++ (reverse c.frame.locals ++ st.lower))), refl))

pub indirect_undefined : (w : WithTables) (s : State) (c : Config) (type_index place : ℕ) (below : List ℕ)
    → Stands w s c → ComesNext s (Plain (plain.CallIndirect type_index)) →
    reverse s.values.items ≡ place ∷ below → slice_get s.program.elements.items place ≡ None →
    Steps w c (next (program_of w.parts) c) (Trapped traps.UndefinedElement) s
indirect_undefined w s c type_index place below st b h e =
    let x = indirect_at w s c type_index st b.here (fresh_not_asked s b.fresh) in
    traps_now w s s c st traps.UndefinedElement (fresh_not_asked s b.fresh)
    (placed_runs w s c st type_index place None x (same_place w s c st type_index place below x h) e)

pub indirect_empty : (w : WithTables) (s : State) (c : Config) (type_index place : ℕ) (below : List ℕ)
    → Stands w s c → ComesNext s (Plain (plain.CallIndirect type_index)) →
    reverse s.values.items ≡ place ∷ below → slice_get s.program.elements.items place ≡ Some None →
    Steps w c (next (program_of w.parts) c) (Trapped traps.UninitializedElement) s
indirect_empty w s c type_index place below st b h e =
    let x = indirect_at w s c type_index st b.here (fresh_not_asked s b.fresh) in
    traps_now w s s c st traps.UninitializedElement (fresh_not_asked s b.fresh)
    (placed_runs w s c st type_index place (Some None) x (same_place w s c st type_index place below x h) e)

pub indirect_differs : (w : WithTables) (s : State) (c : Config) (type_index place f : ℕ) (below : List ℕ) (found stated : FuncType) → Stands w s c →
    ComesNext s (Plain (plain.CallIndirect type_index)) → reverse s.values.items ≡ place ∷ below
    → slice_get s.program.elements.items place ≡ Some (Some f) →
    FunctionHasType s.program f found → slice_get s.program.parts.now.types type_index ≡ Some stated → same_type found stated ≡ false →
    Steps w c (next (program_of w.parts) c) (Trapped traps.SignatureMismatch) s
indirect_differs w s c type_index place f below found stated st b h e k i differs =
    let x = indirect_at w s c type_index st b.here (fresh_not_asked s b.fresh) in
    let function : slice_get (functions_of w.parts) f ≡ Some k.0 = ap (λ (fs : List ℕ). slice_get fs f) (sym st.program.functions) ∙ k.1 in
    let typed : slice_get w.parts.types k.0 ≡ Some found = ap (λ (m : Parts). slice_get m.types k.0) (sym st.program.parts) ∙ k.2 in
    let there : slice_get w.parts.types type_index ≡ Some stated = ap (λ (m : Parts). slice_get m.types type_index) (sym st.program.parts) ∙ i in
    let one : stated ≡ x.stated = let y = x.typed in cc in
    traps_now w s s c st traps.SignatureMismatch (fresh_not_asked s b.fresh)
    (placed_runs w s c st type_index place (Some (Some f)) x (same_place w s c st type_index place below x h) e
    ∙ place_differs (program_of w.parts) c x.stated found x.at.rest x.operands f k.0 function typed (ap (same_type found) (sym one) ∙ differs))

-- the argument below the place
pub argument_there : (s : State) (type_index place f : ℕ) (below : List ℕ) → ComesNext s (Plain (plain.CallIndirect type_index))
    → f < s.program.imported → Found s type_index place f → reverse s.values.items ≡ place ∷ below → HasWords (types.I32 ∷ []) below
argument_there s type_index place f below b k x h =
    let w = b.sound.0 in let c = b.sound.1 in let st = b.sound.3 in
    let y = indirect_spawns w s c st type_index place f b.sound.2 k (found_tested w s c st type_index place f b.here (fresh_not_asked s b.fresh) x) in
    let left = values_on (waiting_frame c.frame y.rest y.below) st.lower in
    (_, means_below _ below place (values.I32 place) (values.I32 y.arg ∷ left) y.values h, (map type_of left, refl))

-- the words below the topmost one
pub below_top : (vs rest : List ℕ) (v n : ℕ) → reverse vs ≡ v ∷ rest → n ≡ length vs → reverse (take (n - 1) vs) ≡ rest
below_top vs rest v n h e =
    let o : vs ≡ reverse rest ++ (v ∷ []) = sym (reverse-reverse vs) ∙ ap reverse h ∙ reverse-append (v ∷ []) rest in
    let k : n - 1 ≡ length (reverse rest) = let a = ap length o in let b = length-append (reverse rest) (v ∷ []) in omega arith in
    ap (λ (x : List ℕ). reverse (take (n - 1) x)) o ∙ ap (λ (m : ℕ). reverse (take m (reverse rest ++ (v ∷ [])))) k
    ∙ ap reverse (take-append_seam (reverse rest) (v ∷ [])) ∙ reverse-reverse rest

-- what the table was seen to have
pub read_at : (elements slice : List (Option ℕ)) (place : ℕ) (r o : Option (Option ℕ)) → r ≡ slice_get slice place
    → slice ≡ elements → r ≡ o → slice_get elements place ≡ o
read_at elements slice place r o h e k = ap (λ (x : List (Option ℕ)). slice_get x place) (sym e) ∙ sym h ∙ k

pub indirect_wants : (w : WithTables) (s : State) (c : Config) (type_index place f arg : ℕ) (below : List ℕ) → IsValidated w → Stands w s c →
    ComesNext s (Plain (plain.CallIndirect type_index)) → f < s.program.imported → Found s type_index place f →
    reverse s.values.items ≡ place ∷ (arg ∷ below) → Steps w c (next (program_of w.parts) c) (Wants (Ask (Spawn arg))) s
indirect_wants w s c type_index place f arg below v st b k x h =
    let y = indirect_spawns w s c st type_index place f v k (found_tested w s c st type_index place f b.here (fresh_not_asked s b.fresh) x) in
    let same : place ∷ (arg ∷ below) ≡ place ∷ (y.arg ∷ map word_of (values_on (waiting_frame c.frame y.rest y.below) st.lower)) =
    sym h ∙ y.values.are in
    spawn_wants w s c st (values.I32 place ∷ []) y arg b.fresh cc

-- ---- Functions of the module itself

own_indirect : (w : WithTables) (s old : State) (c : Config) (st : Stands w s c) (type_index place f v : ℕ) → s.program.imported ≤ f → Midway s old →
    reverse s.values.items ≡ v ∷ reverse old.values.items → (x : Tested w s c st type_index place f) →
    CallsOwn w s old c st x.at.at.rest x.at.operands f x.index x.at.stated x.at.tail
own_indirect w s old c st type_index place f v k m h x = record {
  own = let e = st.program.imported in omega arith;
  function = x.function;
  typed = x.typed;
  midway = m;
  operands_typed = x.at.operands_typed;
  values = means_below _ _ v (values.I32 x.at.place) _ x.at.values h;
}

pub indirect_ready : (s old : State) (type_index place f v : ℕ)
    → ComesNext s (Plain (plain.CallIndirect type_index)) → HasBodies s → s.program.imported ≤ f → Midway s old →
    reverse s.values.items ≡ v ∷ reverse old.values.items → Found s type_index place f → CanEnter old (f - old.program.imported)
indirect_ready s old type_index place f v b bodies k m h found =
    let w = b.sound.0 in let c = b.sound.1 in let st = b.sound.3 in
    let x = found_tested w s c st type_index place f b.here (fresh_not_asked s b.fresh) found in
    let room : length old.values.items ≤ MOST_VALUES =
    (let a = ap length h in let d = length-reverse s.values.items in let e = length-reverse old.values.items in let r = st.room in omega arith) in
    can_enter w s old c st x.at.at.rest x.at.operands f x.index x.at.stated x.at.tail b.sound.2 bodies
    (own_indirect w s old c st type_index place f v k m h x) room
    (slice_get_within _ _ _ b.here)

pub indirect_enters : (w : WithTables) (s old n : State) (c : Config) (step : StepResult) (type_index place f v : ℕ) → IsValidated w → Stands w s c →
    ComesNext s (Plain (plain.CallIndirect type_index)) → HasBodies s → s.program.imported ≤ f → Midway s old
    → reverse s.values.items ≡ v ∷ reverse old.values.items →
    Found s type_index place f → IsEntered old (f - old.program.imported) step n → Steps w c (next (program_of w.parts) c) step n
indirect_enters w s old n c step type_index place f v valid st b bodies k m h found e =
    let x = found_tested w s c st type_index place f b.here (fresh_not_asked s b.fresh) found in
    enters_own w s old n c st step x.at.at.rest x.at.operands f x.index x.at.stated x.at.tail valid bodies b.fresh
    (own_indirect w s old c st type_index place f v k m h x)
    (λ below t. waits_there w s c st (plain.CallIndirect type_index) x.at.at x.at.stated.results x.at.tail below refl x.at.middle t) e x.runs

-- ---- The question was asked

-- the place on top, with the imported function there
pub record Asking (s : State) (type_index : ℕ) : Type 0 where
  pub place : ℕ
  pub f : ℕ
  pub found : Found s type_index place f
  pub imported : f < s.program.imported

asking_here : (w : WithTables) (s : State) (c : Config) (st : Stands w s c) (type_index f : ℕ) (x : IndirectAt w s c st type_index) → IsValidated w →
    slice_get (opening_table w.parts) x.place ≡ Some (Some f)
    → IsAsking (limited (calls_place (program_of w.parts) c x.stated x.at.rest x.operands (Some (Some f)))) →
    Asking s type_index
asking_here w s c st type_index f x v e asks =
    let p = program_of w.parts in
    let t = typed_function w.parts v.valid f (in_table w.parts v.valid x.place f e) in
    let go : (same : Bool) → same_type t.func_type x.stated ≡ same → Asking s type_index =
    elim [
      | false ↦ λ h. absurd (subst IsAsking (ap limited (place_differs p c x.stated t.func_type x.at.rest x.operands f t.index t.function t.typed h)) asks)
      | true ↦ λ h. elim (cases_lt f s.program.imported) [
        | inl k ↦ record {
          place = x.place;
          f = f;
          found = record {
            below = map word_of (x.operands ++ (belows c.frame.labels ++ (reverse c.frame.locals ++ st.lower)));
            func_type = t.func_type;
            stated = x.stated;
            top = x.values.are;
            element = ap (λ (y : List (Option ℕ)). slice_get y x.place) st.program.elements ∙ e;
            has_type = has_type w s.program f st.program t;
            stated_is = ap (λ (m : Parts). slice_get m.types type_index) st.program.parts ∙ x.typed;
            same = h;
          };
          imported = k;
        }
        | inr k ↦ absurd (own_asks p c f x.stated x.at.rest x.operands (rw (sym st.program.imported) k)
            (subst IsAsking (ap limited (place_calls p c x.stated t.func_type x.at.rest x.operands f t.index t.function t.typed h)) asks))
      ]
    ] in
    go (same_type t.func_type x.stated) refl

pub asking : (s : State) (type_index : ℕ) → Wanting s (Plain (plain.CallIndirect type_index)) → Asking s type_index
asking s type_index b =
    let w = b.tables in let c = b.config in let st = b.stands in let p = program_of w.parts in
    let x = indirect_at w s c type_index st b.here (not_asked s _ b) in
    let e = next_limited p c _ (undue w s c st (not_asked s _ b)) x.runs in
    let go : (o : Option (Option ℕ)) → slice_get (opening_table w.parts) x.place ≡ o
    → IsAsking (limited (calls_place p c x.stated x.at.rest x.operands o)) → Asking s type_index =
    elim [
      | None ↦ λ h asks. absurd asks
      | Some None ↦ λ h asks. absurd asks
      | Some (Some f) ↦ λ h asks. asking_here w s c st type_index f x b.valid h asks
    ] in
    go (slice_get (opening_table w.parts) x.place) refl (subst IsAsking e b.asks)

pub indirect_pops : (s : State) (type_index : ℕ) → Wanting s (Plain (plain.CallIndirect type_index)) → 0 < length s.values.items
indirect_pops s type_index b =
    let x = asking s type_index b in let a = ap length x.found.top in let d = length-reverse s.values.items in omega arith

indirect_spawning : (w : WithTables) (s : State) (c : Config) (st : Stands w s c) (type_index : ℕ) → IsValidated w
    → (b : Wanting s (Plain (plain.CallIndirect type_index))) →
    (x : Asking s type_index) → Spawns w s c st (values.I32 x.place ∷ [])
indirect_spawning w s c st type_index v b x =
    indirect_spawns w s c st type_index x.place x.f v x.imported (found_tested w s c st type_index x.place x.f b.here (not_asked s _ b) x.found)

pub indirect_pops_again : (s : State) (type_index v : ℕ) (left : List ℕ) → Wanting s (Plain (plain.CallIndirect type_index)) →
    reverse s.values.items ≡ v ∷ reverse left → 0 < length left
indirect_pops_again s type_index v left b h =
    let x = indirect_spawning b.tables s b.config b.stands type_index b.valid b (asking s type_index b) in
    let a = means_long _ _ x.values in let d = ap length h in let e = length-reverse left in omega arith

pub indirect_heard : (w : WithTables) (s n : State) (c : Config) (type_index number v u : ℕ) (left : List ℕ) → IsValidated w → Stands w s c →
    Wanting s (Plain (plain.CallIndirect type_index)) → still n ≡ still s → n.pc ≡ s.pc + 1 → n.progress ≡ Asked → n.globals.items ≡ s.globals.items →
    reverse s.values.items ≡ v ∷ reverse left → reverse left ≡ u ∷ reverse n.values.items → Replies w (next (program_of w.parts) c) number n
indirect_heard w s n c type_index number v u left valid st b e k p g h i =
    let y = asking s type_index b in
    let x = indirect_spawning w s c st type_index valid b y in
    let without_place = means_below _ _ v (values.I32 y.place) _ x.values h in
    spawn_replied w s n c st (values.I32 y.place ∷ []) x number (not_asked s _ b) e k p g (means_below _ _ u (values.I32 x.arg) _ without_place i)
