-- What comes next in a typed configuration is defined, and typed again.
use Rattle.std.proofs.Common.{◌≡◌, ◌≢◌, ℕ, ◌+◌, ◌-◌, ◌%◌, ◌<◌, ◌≤◌, nat_eq, nat_lt, nat_le, List, [], ◌∷◌, ◌++◌, length, map, reverse}
use Rattle.std.proofs.Common.{Option, Some, None, slice_get, slice_set, Bool, true, false, if◌then◌else◌, refl, sym, ◌∙◌, ap, subst, arith}
use Rattle.std.proofs.lemmas.List.{length-reverse, map-append}
use Rattle.std.specs.List.{zip}
use Rattle.std.specs.Option.{option_map}
use Rattle.std.proofs.lemmas.Option.{slice_get_within, slice_get-map}
use Rattle.types.specs.declared.value.ValType.{ValType}
use Rattle.types.specs.declared.value.ValType.TheVariants as types
use Rattle.types.specs.declared.value.Value.{Value}
use Rattle.types.specs.declared.value.Value.TheVariants as values
use Rattle.types.specs.declared.operators.LoadOp.{LoadOp}
use Rattle.types.specs.declared.operators.AtomicOp.{AtomicOp}
use Rattle.types.specs.declared.operators.AtomicOp.TheVariants as atomic
use Rattle.types.specs.declared.operators.NumericInstr.{NumericInstr}
use Rattle.types.specs.declared.operators.MemArg.{MemArg}
use Rattle.types.specs.declared.instr.PlainInstr.{PlainInstr}
use Rattle.types.specs.declared.instr.PlainInstr.TheVariants as plain
use Rattle.types.specs.declared.event.Event.{Event}
use Rattle.types.specs.declared.outcome.Trap.{Trap}
use Rattle.types.specs.declared.outcome.Trap.TheVariants as traps
use Rattle.types.specs.declared.parts.FuncType.{FuncType}
use Rattle.types.specs.declared.parts.GlobalType.{GlobalType}
use Rattle.types.specs.declared.parts.Body.{Body}
use Rattle.types.specs.declared.parts.Parts.{Parts}
use Rattle.types.specs.Nesting.{Code, Empty, Then, BlockThen, LoopThen, IfThen, IfElseThen}
use Rattle.types.specs.Values.{type_of}
use Rattle.types.specs.Widths.{type_bytes, load_type, load_bytes, access_type, access_bytes}
use Rattle.types.specs.declared.limits.TheConstants.{MOST_VALUES, MOST_FRAMES}
use Rattle.validate_typing.specs.Context.{Context, imported_functions, functions_of, context_of, in_function}
use Rattle.validate_typing.specs.Typing.{Fits, HasType, results_of, numeric_takes, numeric_gives, atomic_takes, atomic_gives}
use Rattle.validate_typing.specs.Nested.{nested_of}
use Rattle.validate_typing.specs.Validity.{IsValid, IsValidFunction}
use Rattle.validate_typing.proofs.Nested.{nested_of_flat}
use Rattle.interp_numeric.specs.Results.{numeric_result}
use Rattle.interp_machine.specs.Access.{loaded_value, answered_value, in_one_word}
use Rattle.interp_machine.specs.Config.{Config, Progress, Fresh, Halfway, Asked, Next, Stuck, Goes, Traps, Finishes, Asks, Hears, values_of}
use Rattle.interp_machine.specs.Program.{zero_of, program_of, function_of_body, opening_table}
use Rattle.interp_machine.specs.Step.{on_some, branches, with_rest, waits, enters, opens, calls_own, calls_spawn, calls, calls_place, same_type}
use Rattle.interp_machine.specs.Step.{half, loads, stores, atomics, computes, chosen, does, runs, limited, hears, next_by, next}
use Rattle.interp_control.proofs.Numbers.{Fine, Fault, works}
use Rattle.interp_state.specs.Stands.{due}
use Rattle.interp_state.proofs.Places.{Slot, slot_of}
use Rattle.interp_state.proofs.Views.{behind}
use Rattle.interp_accesses.proofs.Cuts.{value_typed, loaded_typed}
use Rattle.interp_calls.proofs.Functions.{all_at, some_at, slice_right, spawn_type, in_table, typed_function, equal_types}
use Rattle.interp_calls.proofs.Opening.{locals_typed, zeros_typed}
use Rattle.interp.specs.Starts.{IsFunction, start_of}
use Rattle.interp.proofs.Defined.{chosen_carries}
use Rattle.interp.proofs.Starting.{zipped, globals_typed}
use Rattle.interp_laws.proofs.Typed.{AreCarried, IsTypedFrame, Opens, IsIn, AreTypedCallers, IsTyped, IsGood, top, number, front, some, test}
use Rattle.interp_laws.proofs.Typed.{nothing_due, stays, returning, branching, ending}

on_top_of : (v : Value) (below : List Value) (t : ValType) (ts : List ValType) → type_of v ≡ t → map type_of below ≡ ts →
    type_of v ∷ map type_of below ≡ t ∷ ts
on_top_of v below t ts h e = ap (λ (u : ValType). u ∷ map type_of below) h ∙ ap (λ (us : List ValType). t ∷ us) e

either_typed : (b : Bool) (first second : Value) (t : ValType) → type_of first ≡ t → type_of second ≡ t → type_of (if b then first else second) ≡ t
either_typed true first second t h e = h
either_typed false first second t h e = e

either_code : (b : Bool) (x : Context) (labels : List (List ValType)) (this that : Code) (from to : List ValType) → HasType x labels this from to →
    HasType x labels that from to → HasType x labels (if b then this else that) from to
either_code true x labels this that from to h e = h
either_code false x labels this that from to h e = e

either_config : (m : Parts) (b : Bool) (this that : Config) → IsTyped m this → IsTyped m that → IsTyped m (if b then this else that)
either_config m true this that h e = h
either_config m false this that h e = e

-- ---- Functions

-- the body of a function of the module itself is typed
pub body_typed : (m : Parts) → IsValid m → (own index : ℕ) (t : FuncType) (body : Body) → slice_get m.functions own ≡ Some index →
    slice_get m.types index ≡ Some t → slice_get m.bodies own ≡ Some body →
    HasType (in_function (context_of m) t body) (t.results ∷ []) (nested_of body.code) [] t.results
body_typed m v own index t body f e b =
    let h : IsValidFunction (context_of m) index body =
    all_at (λ (p : ℕ × Body). IsValidFunction (context_of m) p.0 p.1) (zip m.functions m.bodies) own (index, body) v.functions
    (zipped m.functions m.bodies own index body f b) in
    let same : h.0 ≡ t = (let y = h.1 in cc) in
    let code : nested_of body.code ≡ h.2.0 = ap nested_of h.2.1 ∙ nested_of_flat h.2.0 in
    subst (λ (k : Code). HasType (in_function (context_of m) t body) (t.results ∷ []) k [] t.results) (sym code)
    (subst (λ (u : FuncType). HasType (in_function (context_of m) u body) (u.results ∷ []) h.2.0 [] u.results) same h.2.2)

-- the frame of a function that is entered
pub entered : (m : Parts) → IsValid m → (own index : ℕ) (t : FuncType) (body : Body) → slice_get m.functions own ≡ Some index →
    slice_get m.types index ≡ Some t → slice_get m.bodies own ≡ Some body → (locals : List Value) → map type_of locals ≡ t.params ++ body.locals →
    IsTypedFrame (in_function (context_of m) t body) [] (record {
      locals = locals;
      code = nested_of body.code;
      operands = [];
      labels = [];
      arity = length t.results;
    })
entered m v own index t body f e b locals h = record {
  labels = t.results ∷ [];
  ends = t.results;
  code = body_typed m v own index t body f e b;
  opens = (refl, refl);
  locals = h;
  arity = refl;
}

pub is_in : (m : Parts) (t : FuncType) (body : Body) → IsIn m (in_function (context_of m) t body)
is_in m t body = record { types = refl; functions = refl; globals = refl }

-- the configuration that a call opens
abbrev opened : Config → FuncType → Body → Code → List Value → List Value → Config
opened c t body rest args below = record c {
  frame = record {
    locals = reverse args ++ map zero_of body.locals;
    code = nested_of body.code;
    operands = [];
    labels = [];
    arity = length t.results;
  };
  callers = record c.frame { code = rest; operands = below } ∷ c.callers;
}

opening : (m : Parts) (c inner : Config) → IsTyped m inner → IsGood m (opens c inner)
opening m c inner h = test m (nat_lt (length inner.callers) MOST_FRAMES) (Goes inner) (Traps traps.StackExhausted) h tt

module _ (m : Parts) (v : IsValid m) (whole : length m.functions ≡ length m.bodies) (x : Context) (inside : IsIn m x) (c : Config)
    (callers : AreTypedCallers m x.results c.callers) (globals : map type_of c.globals ≡ map (λ g. g.val_type) x.globals) (q : c.progress ≢ Asked)
    (labels : List (List ValType)) (ends : List ValType) (open_blocks : Opens x c.frame.labels labels ends) (locals : map type_of c.frame.locals ≡ x.locals)
    (arity : c.frame.arity ≡ length x.results) where
  -- ---- Going on

  goes_behind : (rest : Code) (ops ls gs : List Value) → HasType x labels rest (map type_of ops) ends → map type_of ls ≡ x.locals →
      map type_of gs ≡ map (λ g. g.val_type) x.globals → IsTyped m (behind c rest ops ls gs)
  goes_behind rest ops ls gs h l g = record {
    context = x;
    inside = inside;
    frame = record { labels = labels; ends = ends; code = h; opens = open_blocks; locals = l; arity = arity };
    callers = callers;
    globals = g;
  }

  at_types : (rest : Code) (middle : List ValType) → HasType x labels rest middle ends → (ts : List ValType) → ts ≡ middle → HasType x labels rest ts ends
  at_types rest middle r ts e = subst (λ us. HasType x labels rest us ends) (sym e) r

  on : (rest : Code) (middle : List ValType) → HasType x labels rest middle ends → (ops : List Value) → map type_of ops ≡ middle →
      IsTyped m (with_rest c rest ops)
  on rest middle r ops e = goes_behind rest ops c.frame.locals c.globals (at_types rest middle r (map type_of ops) e) locals globals

  -- a question was asked
  waiting : (rest : Code) (middle : List ValType) → HasType x labels rest middle ends → (ops : List Value) → types.I32 ∷ map type_of ops ≡ middle →
      IsTyped m (waits c rest ops)
  waiting rest middle r ops e = record {
    context = x;
    inside = inside;
    frame = record {
      labels = labels;
      ends = ends;
      code = at_types rest middle r (types.I32 ∷ map type_of ops) e;
      opens = open_blocks;
      locals = locals;
      arity = arity;
    };
    callers = callers;
    globals = globals;
  }

  -- ---- Calls

  own_call : (own index : ℕ) (t : FuncType) (body : Body) (rest : Code) (ops : List Value) (tail middle : List ValType) →
      slice_get m.functions own ≡ Some index → slice_get m.types index ≡ Some t → slice_get m.bodies own ≡ Some body →
      HasType x labels rest middle ends → map type_of ops ≡ reverse t.params ++ tail → middle ≡ t.results ++ tail →
      IsGood m (calls_own c t (function_of_body body) rest ops)
  own_call own index t body rest ops tail middle f e b r h g =
      front m (reverse t.params) tail ops (length t.params) (λ args below. opens c (opened c t body rest args below)) (sym (length-reverse t.params)) h
      (λ args below k d. opening m c (opened c t body rest args below)
      (stays m (in_function (context_of m) t body) (is_in m t body)
      (record c { callers = record c.frame { code = rest; operands = below } ∷ c.callers }) (
        x,
        inside,
        record {
          labels = labels;
          ends = ends;
          code = at_types rest middle r (t.results ++ map type_of below) (ap (λ (ts : List ValType). t.results ++ ts) d ∙ sym g);
          opens = open_blocks;
          locals = locals;
          arity = arity;
        },
        callers,
      )
      (globals ∙ ap (map (λ (y : GlobalType). y.val_type)) inside.globals) q
      (opened c t body rest args below).frame
      (entered m v own index t body f e b (reverse args ++ map zero_of body.locals) (locals_typed args t.params body.locals k))))

  calling : (f index : ℕ) (t u : FuncType) (rest : Code) (ops : List Value) (tail middle : List ValType) → slice_get (functions_of m) f ≡ Some index →
      slice_get m.types index ≡ Some u → u ≡ t → HasType x labels rest middle ends → map type_of ops ≡ reverse t.params ++ tail → middle ≡ t.results ++ tail →
      IsGood m (calls (program_of m) c f t rest ops)
  calling f index t u rest ops tail middle at is same r h g =
      let own : (b : Bool) → nat_lt f (length (imported_functions m)) ≡ b → IsGood m (if b then calls_spawn c rest ops
      else on_some (slice_get (map function_of_body m.bodies) (f - length (imported_functions m))) (λ body. calls_own c t body rest ops)) =
      elim [
        | true ↦ λ e.
            let less : f < length (imported_functions m) = search arith in
            let s = spawn_type m v f index u less at is in
            let p : t.params ≡ types.I32 ∷ [] = ap (λ (y : FuncType). y.params) (sym same) ∙ s.0 in
            let k : t.results ≡ types.I32 ∷ [] = ap (λ (y : FuncType). y.results) (sym same) ∙ s.1 in
            number m types.I32 tail ops _ (h ∙ ap (λ (z : List ValType). reverse z ++ tail) p) (λ arg below d n.
            waiting rest middle r below (ap (λ (ts : List ValType). types.I32 ∷ ts) d ∙ sym (g ∙ ap (λ (z : List ValType). z ++ tail) k)))
        | false ↦ λ e.
            let more : length (imported_functions m) ≤ f = search arith in
            let function : slice_get m.functions (f - length (imported_functions m)) ≡ Some index =
            sym (slice_right (imported_functions m) m.functions f more) ∙ at in
            let there : f - length (imported_functions m) < length m.functions = slice_get_within _ _ _ function in
            let body = some_at m.bodies (f - length (imported_functions m)) (omega arith) in
            some m _ (function_of_body body.0) _
            (slice_get-map function_of_body m.bodies (f - length (imported_functions m)) ∙ ap (option_map function_of_body) body.1)
            (own_call (f - length (imported_functions m)) index t body.0 rest ops tail middle function (is ∙ ap Some same) body.1 r h g)
      ] in
      own (nat_lt f (length (imported_functions m))) refl

  placing : (t : FuncType) (rest : Code) (ops : List Value) (tail middle : List ValType) (o : Option (Option ℕ)) →
      ((f : ℕ) → o ≡ Some (Some f) → f < length (functions_of m)) → HasType x labels rest middle ends →
      map type_of ops ≡ reverse t.params ++ tail → middle ≡ t.results ++ tail → IsGood m (calls_place (program_of m) c t rest ops o)
  placing t rest ops tail middle None k r h g = tt
  placing t rest ops tail middle (Some None) k r h g = tt
  placing t rest ops tail middle (Some (Some f)) k r h g =
      let y = typed_function m v f (k f refl) in
      let go : (b : Bool) → same_type y.func_type t ≡ b → IsGood m (if b then calls (program_of m) c f t rest ops else Traps traps.SignatureMismatch) =
      elim [
        | true ↦ λ e. calling f y.index t y.func_type rest ops tail middle y.function y.typed (equal_types y.func_type t e) r h g
        | false ↦ λ e. tt
      ] in
      some m _ y.index _ y.function (some m _ y.func_type _ y.typed (go (same_type y.func_type t) refl))

  -- ---- Numbers and accesses

  numeric_instr : (rest : Code) (ops : List Value) (below middle : List ValType) (n : NumericInstr) → HasType x labels rest middle ends →
      map type_of ops ≡ numeric_takes n ++ below → middle ≡ numeric_gives n ∷ below → IsGood m (computes c rest (numeric_result n ops))
  numeric_instr rest ops below middle n r h g = elim (works n ops [] below h) as (λ _. IsGood m (computes c rest (numeric_result n ops))) [
    | Fine u left e f i j k ↦ rw e (on rest middle r (u ∷ left) (on_top_of u left (numeric_gives n) below i j ∙ sym g))
    | Fault t e f ↦ rw e tt
  ]

  module _ (here : HasType x labels c.frame.code (map type_of c.frame.operands) ends) where
    halved : (n : ℕ) → IsTyped m (half c n)
    halved n = record {
      context = x;
      inside = inside;
      frame = record { labels = labels; ends = ends; code = here; opens = open_blocks; locals = locals; arity = arity };
      callers = callers;
      globals = globals;
    }

    loading : (op : LoadOp) (addr : ℕ) (rest : Code) (below : List Value) (ts middle : List ValType) → HasType x labels rest middle ends →
        map type_of below ≡ ts → middle ≡ load_type op ∷ ts → (p : Progress) → IsGood m (loads c op addr rest below p)
    loading op addr rest below ts middle r h g p =
        let done : (n : ℕ) → IsTyped m (with_rest c rest (loaded_value op n ∷ below)) =
        λ n. on rest middle r (loaded_value op n ∷ below) (on_top_of (loaded_value op n) below (load_type op) ts (loaded_typed op n) h ∙ sym g) in
        elim p as (λ y. IsGood m (loads c op addr rest below y)) [
          | Fresh ↦ λ n. either_config m (in_one_word addr (load_bytes op)) _ _ (done n) (halved n)
          | Halfway low ↦ λ n. done _
          | Asked ↦ λ n. either_config m (in_one_word addr (load_bytes op)) _ _ (done n) (halved n)
        ]

    storing : (bytes addr n : ℕ) (rest : Code) (below : List Value) (middle : List ValType) → HasType x labels rest middle ends →
        map type_of below ≡ middle → (p : Progress) → IsGood m (stores c bytes addr n rest below p)
    storing bytes addr n rest below middle r h p =
        let done = on rest middle r below h in
        elim p as (λ y. IsGood m (stores c bytes addr n rest below y)) [
          | Fresh ↦ λ _. either_config m (in_one_word addr bytes) _ _ done (halved 0)
          | Halfway low ↦ λ _. done
          | Asked ↦ λ _. either_config m (in_one_word addr bytes) _ _ done (halved 0)
        ]

    -- an event is wanted, or the access traps
    asked : (t : Bool) (event : Event) (go : ℕ → Config) (trap : Trap) → ((n : ℕ) → IsTyped m (go n)) → IsGood m (if t then Asks event go else Traps trap)
    asked t event go trap h = test m t (Asks event go) (Traps trap) h tt

    atomic_instr : (op : AtomicOp) (arg : MemArg) (rest : Code) (ops : List Value) (below middle : List ValType) → HasType x labels rest middle ends →
        map type_of ops ≡ atomic_takes op ++ below → middle ≡ results_of (atomic_gives op) ++ below → IsGood m (atomics (program_of m) c op arg rest ops)
    atomic_instr atomic.Notify arg rest ops below middle r h g =
        number m types.I32 (types.I32 ∷ below) ops _ h (λ count more d. number m types.I32 below more _ d (λ base left e.
        asked (nat_eq ((base + arg.offset) % 4) 0) _ _ _ (λ n. waiting rest middle r left (ap (λ (ts : List ValType). types.I32 ∷ ts) e ∙ sym g))))
    atomic_instr (atomic.Wait t) arg rest ops below middle r h g =
        number m types.I64 (t ∷ (types.I32 ∷ below)) ops _ h (λ timeout more d. number m t (types.I32 ∷ below) more _ d (λ expected further e.
        number m types.I32 below further _ e (λ base left u.
        test m (nat_eq ((base + arg.offset) % type_bytes t) 0) _ (Traps traps.UnalignedAtomic)
        (asked (program_of m).shared _ _ traps.NotShared (λ n. waiting rest middle r left (ap (λ (ts : List ValType). types.I32 ∷ ts) u ∙ sym g))) tt)))
    atomic_instr (atomic.Load w) arg rest ops below middle r h g =
        number m types.I32 below ops _ h (λ base left e. asked (nat_eq ((base + arg.offset) % access_bytes w) 0) _ _ _
        (λ n. on rest middle r (answered_value w n ∷ left) (on_top_of (answered_value w n) left (access_type w) below (value_typed (access_type w) _) e ∙
        sym g)))
    atomic_instr (atomic.Store w) arg rest ops below middle r h g =
        number m (access_type w) (types.I32 ∷ below) ops _ h (λ k more d. number m types.I32 below more _ d (λ base left e.
        asked (nat_eq ((base + arg.offset) % access_bytes w) 0) _ _ _ (λ n. on rest middle r left (e ∙ sym g))))
    atomic_instr (atomic.Rmw op w) arg rest ops below middle r h g =
        number m (access_type w) (types.I32 ∷ below) ops _ h (λ k more d. number m types.I32 below more _ d (λ base left e.
        asked (nat_eq ((base + arg.offset) % access_bytes w) 0) _ _ _
        (λ n. on rest middle r (answered_value w n ∷ left) (on_top_of (answered_value w n) left (access_type w) below (value_typed (access_type w) _) e ∙
        sym g))))
    atomic_instr (atomic.Cmpxchg w) arg rest ops below middle r h g =
        number m (access_type w) (access_type w ∷ (types.I32 ∷ below)) ops _ h (λ replacement more d.
        number m (access_type w) (types.I32 ∷ below) more _ d (λ expected further e. number m types.I32 below further _ e (λ base left u.
        asked (nat_eq ((base + arg.offset) % access_bytes w) 0) _ _ _
        (λ n. on rest middle r (answered_value w n ∷ left) (on_top_of (answered_value w n) left (access_type w) below (value_typed (access_type w) _) u ∙
        sym g)))))

    -- ---- Any instruction

    local_slot : (i : ℕ) (t : ValType) → slice_get x.locals i ≡ Some t → Slot c.frame.locals i t
    local_slot i t h = slot_of c.frame.locals i t (ap (λ ts. slice_get ts i) locals ∙ h)

    global_slot : (i : ℕ) (g : GlobalType) → slice_get x.globals i ≡ Some g → Slot c.globals i g.val_type
    global_slot i g h =
        slot_of c.globals i g.val_type
        (ap (λ ts. slice_get ts i) globals ∙ slice_get-map (λ (y : GlobalType). y.val_type) x.globals i
        ∙ ap (option_map (λ (y : GlobalType). y.val_type)) h)

    branch : (k : ℕ) (ops : List Value) (carried tail : List ValType) → map type_of ops ≡ carried ++ tail → slice_get labels k ≡ Some carried →
        IsGood m (branches c k ops c.frame.labels)
    branch k ops carried tail h e = branching m x inside c callers globals q locals arity k ops carried tail h c.frame.labels labels ends open_blocks e

    doing : (op : PlainInstr) (rest : Code) (middle : List ValType) → Fits x labels op (map type_of c.frame.operands) middle →
        HasType x labels rest middle ends → IsGood m (does (program_of m) c op rest c.frame.operands)
    doing plain.Unreachable rest middle f r = tt
    doing plain.Nop rest middle f r = on rest middle r c.frame.operands (f.1 ∙ sym f.2)
    doing (plain.Br l) rest middle f r = branch l c.frame.operands f.0 f.2.0 f.2.1 f.1
    doing (plain.BrIf l) rest middle f r =
        number m types.I32 (f.0 ++ f.2.0) c.frame.operands _ f.2.1 (λ n below d.
        test m (nat_eq n 0) _ _ (on rest middle r below (d ∙ sym f.2.2)) (branch l below f.0 f.2.0 d f.1))
    doing (plain.BrTable l ls) rest middle f r =
        number m types.I32 (f.0 ++ f.2.0) c.frame.operands _ f.2.1 (λ n below d.
        branch (chosen ls l n) below f.0 f.2.0 d (chosen_carries labels f.0 ls l n f.1))
    doing plain.Return rest middle f r = returning m x inside c callers globals q f.0 c.frame.operands arity f.1
    doing (plain.Call g) rest middle f r =
        let at : slice_get (functions_of m) g ≡ Some f.0 = ap (λ fs. slice_get fs g) (sym inside.functions) ∙ f.1 in
        let is : slice_get m.types f.0 ≡ Some f.2.0 = ap (λ ts. slice_get ts f.0) (sym inside.types) ∙ f.2.1 in
        some m _ f.0 _ at (some m _ f.2.0 _ is (calling g f.0 f.2.0 f.2.0 rest c.frame.operands f.2.2.0 middle at is refl r f.2.2.1 f.2.2.2))
    doing (plain.CallIndirect index) rest middle f r =
        let is : slice_get m.types index ≡ Some f.2.0 = ap (λ ts. slice_get ts index) (sym inside.types) ∙ f.2.1 in
        some m _ f.2.0 _ is (number m types.I32 (reverse f.2.0.params ++ f.2.2.0) c.frame.operands _ f.2.2.1 (λ n below d.
        placing f.2.0 rest below f.2.2.0 middle (slice_get (opening_table m) n) (λ g e. in_table m v n g e) r d f.2.2.2))
    doing plain.Drop rest middle f r = top m f.0 f.1.0 c.frame.operands _ f.1.1 (λ u below a d. on rest middle r below (d ∙ sym f.1.2))
    doing plain.Select rest middle f r =
        number m types.I32 (f.0 ∷ (f.0 ∷ f.1.0)) c.frame.operands _ f.1.1 (λ n more d. top m f.0 (f.0 ∷ f.1.0) more _ d (λ second further a e.
        top m f.0 f.1.0 further _ e (λ first below b g.
        on rest middle r ((if nat_eq n 0 then second else first) ∷ below)
        (on_top_of _ below f.0 f.1.0 (either_typed (nat_eq n 0) second first f.0 a b) g ∙ sym f.1.2))))
    doing (plain.LocalGet i) rest middle f r =
        let y = local_slot i f.0 f.1 in
        some m _ y.value _ y.is (on rest middle r (y.value ∷ c.frame.operands) (on_top_of y.value c.frame.operands f.0 f.2.0 y.typed f.2.1 ∙ sym f.2.2))
    doing (plain.LocalSet i) rest middle f r =
        let y = local_slot i f.0 f.1 in
        top m f.0 f.2.0 c.frame.operands _ f.2.1 (λ u below a d. some m _ y.value _ y.is
        (goes_behind rest below (slice_set c.frame.locals i u) c.globals (at_types rest middle r (map type_of below) (d ∙ sym f.2.2))
        (y.keeps u a ∙ locals) globals))
    doing (plain.LocalTee i) rest middle f r =
        let y = local_slot i f.0 f.1 in
        top m f.0 f.2.0 c.frame.operands _ f.2.1 (λ u below a d. some m _ y.value _ y.is
        (goes_behind rest c.frame.operands (slice_set c.frame.locals i u) c.globals
        (at_types rest middle r (map type_of c.frame.operands) (f.2.1 ∙ sym f.2.2)) (y.keeps u a ∙ locals) globals))
    doing (plain.GlobalGet i) rest middle f r =
        let y = global_slot i f.0 f.1 in
        some m _ y.value _ y.is
        (on rest middle r (y.value ∷ c.frame.operands) (on_top_of y.value c.frame.operands f.0.val_type f.2.0 y.typed f.2.1 ∙ sym f.2.2))
    doing (plain.GlobalSet i) rest middle f r =
        let y = global_slot i f.0 f.1 in
        top m f.0.val_type f.3.0 c.frame.operands _ f.3.1 (λ u below a d. some m _ y.value _ y.is
        (goes_behind rest below c.frame.locals (slice_set c.globals i u) (at_types rest middle r (map type_of below) (d ∙ sym f.3.2)) locals
        (y.keeps u a ∙ globals)))
    doing (plain.I32Const n) rest middle f r =
        on rest middle r (values.I32 n ∷ c.frame.operands) (ap (λ (ts : List ValType). types.I32 ∷ ts) f.1 ∙ sym f.2)
    doing (plain.I64Const n) rest middle f r =
        on rest middle r (values.I64 n ∷ c.frame.operands) (ap (λ (ts : List ValType). types.I64 ∷ ts) f.1 ∙ sym f.2)
    doing (plain.Numeric n) rest middle f r = numeric_instr rest c.frame.operands f.0 middle n r f.1 f.2
    doing (plain.Load op arg) rest middle f r =
        number m types.I32 f.2.0 c.frame.operands _ f.2.1 (λ base below d. loading op (base + arg.offset) rest below f.2.0 middle r d f.2.2 c.progress)
    doing (plain.Store a arg) rest middle f r =
        number m (access_type a) (types.I32 ∷ f.2.0) c.frame.operands _ f.2.1 (λ n more d. number m types.I32 f.2.0 more _ d (λ base below e.
        storing (access_bytes a) (base + arg.offset) n rest below middle r (e ∙ sym f.2.2) c.progress))
    doing plain.MemorySize rest middle f r = λ n. on rest middle r (values.I32 _ ∷ c.frame.operands)
        (ap (λ (ts : List ValType). types.I32 ∷ ts) f.1.1 ∙ sym f.1.2)
    doing plain.MemoryGrow rest middle f r =
        number m types.I32 f.1.0 c.frame.operands _ f.1.1 (λ more below d n.
        on rest middle r (values.I32 _ ∷ below) (ap (λ (ts : List ValType). types.I32 ∷ ts) d ∙ sym f.1.2))
    doing (plain.Atomic op arg) rest middle f r = atomic_instr op arg rest c.frame.operands f.2.0 middle r f.2.1 f.2.2
    doing plain.Fence rest middle f r = on rest middle r c.frame.operands (f.1 ∙ sym f.2)

    -- a block is entered
    entering : (carried : ℕ) (again : Option Code) (body rest : Code) (below : List Value) (t us : List ValType) → carried ≡ length t →
        AreCarried x again t labels us → HasType x (t ∷ labels) body [] us → HasType x labels rest (us ++ map type_of below) ends →
        IsGood m (enters c carried again body rest below)
    entering carried again body rest below t us n a h r =
        stays m x inside c callers globals q (record c.frame {
          code = body;
          operands = [];
          labels = record { carried = carried; again = again; after = rest; below = below } ∷ c.frame.labels;
        })
        (record { labels = t ∷ labels; ends = us; code = h; opens = (ends, n, a, r, open_blocks); locals = locals; arity = arity })

    below_results : (t : Option ValType) (rest : Code) (below : List Value) (ts : List ValType) → map type_of below ≡ ts →
        HasType x labels rest (results_of t ++ ts) ends → HasType x labels rest (results_of t ++ map type_of below) ends
    below_results t rest below ts e h = rw e h

    pub running : (code : Code) → HasType x labels code (map type_of c.frame.operands) ends → IsGood m (runs (program_of m) c code c.frame.operands)
    running Empty p = ending m x inside c callers globals q locals arity c.frame.labels labels ends open_blocks p
    running (Then op rest) p = doing op rest p.0 p.1 p.2
    running (BlockThen t body rest) p =
        entering (length (results_of t)) None body rest c.frame.operands (results_of t) (results_of t) refl refl p.0 p.1
    running (LoopThen t body rest) p = entering 0 (Some body) body rest c.frame.operands [] (results_of t) refl (refl, p.0) p.0 p.1
    running (IfThen t first rest) p =
        let none : [] ≡ results_of t = ap results_of (sym p.2) in
        number m types.I32 p.0 c.frame.operands _ p.1 (λ n below d.
        entering (length (results_of t)) None (if nat_eq n 0 then Empty else first) rest below (results_of t) (results_of t) refl refl
        (either_code (nat_eq n 0) x (results_of t ∷ labels) Empty first [] (results_of t) none p.3) (below_results t rest below p.0 d p.4))
    running (IfElseThen t first second rest) p =
        number m types.I32 p.0 c.frame.operands _ p.1 (λ n below d.
        entering (length (results_of t)) None (if nat_eq n 0 then second else first) rest below (results_of t) (results_of t) refl refl
        (either_code (nat_eq n 0) x (results_of t ∷ labels) second first [] (results_of t) p.3 p.2) (below_results t rest below p.0 d p.4))

-- ---- The step

limiting : (m : Parts) (n : Next) → IsGood m n → IsGood m (limited n)
limiting m Stuck h = h
limiting m (Goes after) h = test m (nat_le (values_of after) MOST_VALUES) (Goes after) (Traps traps.StackExhausted) h tt
limiting m (Traps trap) h = h
limiting m (Finishes result) h = h
limiting m (Asks event go) h = test m (nat_le (values_of (go 0)) MOST_VALUES) (Asks event go) (Traps traps.StackExhausted) h tt
limiting m (Hears go) h = h

-- a configuration with no open question
undue : (m : Parts) → IsValid m → length m.functions ≡ length m.bodies → (c : Config) (t : IsTyped m c) → c.progress ≢ Asked →
    IsGood m (limited (runs (program_of m) c c.frame.code c.frame.operands))
undue m v whole c t q =
    let f = t.frame in
    let code : HasType t.context f.labels c.frame.code (map type_of c.frame.operands) f.ends =
    subst (λ (more : List ValType). HasType t.context f.labels c.frame.code (more ++ map type_of c.frame.operands) f.ends) (nothing_due c.progress q) f.code in
    limiting m (runs (program_of m) c c.frame.code c.frame.operands)
    (running m v whole t.context t.inside c t.callers t.globals q f.labels f.ends f.opens f.locals f.arity code c.frame.code code)

-- an answer that is due comes onto the stack
answered : (m : Parts) (c : Config) (t : IsTyped m c) → c.progress ≡ Asked → IsGood m (hears c)
answered m c t e = λ n. record {
  context = t.context;
  inside = t.inside;
  frame = record {
    labels = t.frame.labels;
    ends = t.frame.ends;
    code = subst (λ (y : Progress). HasType t.context t.frame.labels c.frame.code (due y ++ map type_of c.frame.operands) t.frame.ends) e t.frame.code;
    opens = t.frame.opens;
    locals = t.frame.locals;
    arity = t.frame.arity;
  };
  callers = t.callers;
  globals = t.globals;
}

pub good : (m : Parts) → IsValid m → length m.functions ≡ length m.bodies → (c : Config) → IsTyped m c → IsGood m (next (program_of m) c)
good m v whole c t =
    let go : (p : Progress) → c.progress ≡ p → IsGood m (next_by (program_of m) c p) =
    elim [
      | Fresh ↦ λ e. undue m v whole c t (λ h. cc)
      | Halfway n ↦ λ e. undue m v whole c t (λ h. cc)
      | Asked ↦ λ e. answered m c t e
    ] in
    go c.progress refl

pub starts : (m : Parts) → IsValid m → (own : ℕ) (t : FuncType) (body : Body) (args : List Value) → IsFunction m own t body → map type_of args ≡ t.params →
    IsTyped m (start_of m t body args)
starts m v own t body args f h = record {
  context = in_function (context_of m) t body;
  inside = is_in m t body;
  frame = entered m v own f.index t body f.typed f.type_is f.body_is (args ++ map zero_of body.locals)
      (map-append type_of args (map zero_of body.locals) ∙ ap (λ (ts : List ValType). ts ++ map type_of (map zero_of body.locals)) h
      ∙ ap (λ (ts : List ValType). t.params ++ ts) (zeros_typed body.locals));
  callers = tt;
  globals = globals_typed m v;
}
