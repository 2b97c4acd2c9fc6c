-- Configurations whose code fits what lies on their operands, by the standard's rules of typing alone.
use Rattle.std.proofs.Common.{◌≡◌, ◌≢◌, ℕ, zero, suc, List, [], ◌∷◌, ◌++◌, length, map, Option, Some, None, slice_get}
use Rattle.std.proofs.Common.{Bool, true, false, if◌then◌else◌, refl, sym, ◌∙◌, ap, subst, append-nil}
use Rattle.std.proofs.lemmas.List.{map-append}
use Rattle.types.specs.declared.value.ValType.{ValType}
use Rattle.types.specs.declared.value.ValType.TheVariants as types
use Rattle.types.specs.declared.value.Value.{Value}
use Rattle.types.specs.declared.value.Value.TheVariants as values
use Rattle.types.specs.declared.parts.GlobalType.{GlobalType}
use Rattle.types.specs.declared.parts.Parts.{Parts}
use Rattle.types.specs.Nesting.{Code}
use Rattle.types.specs.Values.{type_of}
use Rattle.validate_typing.specs.Context.{Context, functions_of}
use Rattle.validate_typing.specs.Typing.{HasType}
use Rattle.interp_machine.specs.Config.{Label, Frame, Config, Progress, Fresh, Halfway, Asked, Next, Stuck, Goes, Traps, Finishes, Asks, Hears}
use Rattle.interp_machine.specs.Step.{on_top, on_number, on_some, on_front, lands, returns_to, returns, branches, ends}
use Rattle.interp_state.specs.Stands.{due}
use Rattle.interp_state.proofs.Branch.{split_types, front_is}

-- A branch to an open block: behind it with its results, or to a loop's first instruction.
abbrev pub AreCarried : Context → Option Code → List ValType → List (List ValType) → List ValType → Type 0
AreCarried x None t ts ends = t ≡ ends
AreCarried x (Some body) t ts ends = (t ≡ []) × HasType x (t ∷ ts) body [] ends

-- The open blocks of a frame, the innermost first, with labels of these types; the innermost block ends with these.
abbrev pub Opens : Context → List Label → List (List ValType) → List ValType → Type 0
Opens x [] ts ends = (ts ≡ x.results ∷ []) × (ends ≡ x.results)
Opens x (l ∷ ls) [] ends = ⊥
Opens x (l ∷ ls) (t ∷ ts) ends =
    (to : List ValType) × (l.carried ≡ length t) × AreCarried x l.again t ts ends × HasType x ts l.after (ends ++ map type_of l.below) to × Opens x ls ts to

-- What a frame still runs is typed, as soon as values of these types lie on its operands.
pub record IsTypedFrame (x : Context) (more : List ValType) (f : Frame) : Type 0 where
  pub labels : List (List ValType)
  pub ends : List ValType
  pub code : HasType x labels f.code (more ++ map type_of f.operands) ends
  pub opens : Opens x f.labels labels ends
  pub locals : map type_of f.locals ≡ x.locals
  pub arity : f.arity ≡ length x.results

-- What code may use is the module's.
pub record IsIn (m : Parts) (x : Context) : Type 0 where
  pub types : x.types ≡ m.types
  pub functions : x.functions ≡ functions_of m
  pub globals : x.globals ≡ map (λ g. g.global_type) m.globals

-- The calling frames, each of which waits for results.
abbrev pub AreTypedCallers : Parts → List ValType → List Frame → Type 0
AreTypedCallers m results [] = Unit {0}
AreTypedCallers m results (f ∷ callers) = (x : Context) × IsIn m x × IsTypedFrame x results f × AreTypedCallers m x.results callers

pub record IsTyped (m : Parts) (c : Config) : Type 0 where
  pub context : Context
  pub inside : IsIn m context
  pub frame : IsTypedFrame context (due c.progress) c.frame
  pub callers : AreTypedCallers m context.results c.callers
  pub globals : map type_of c.globals ≡ map (λ g. g.val_type) context.globals

-- What comes next is defined, and typed again, whatever is answered.
abbrev pub IsGood : Parts → Next → Type 0
IsGood m Stuck = ⊥
IsGood m (Goes after) = IsTyped m after
IsGood m (Traps trap) = Unit {0}
IsGood m (Finishes result) = Unit {0}
IsGood m (Asks event go) = (n : ℕ) → IsTyped m (go n)
IsGood m (Hears go) = (n : ℕ) → IsTyped m (go n)

-- ---- With operands

pub top : (m : Parts) (t : ValType) (ts : List ValType) (ops : List Value) (go : Value → List Value → Next) → map type_of ops ≡ t ∷ ts →
    ((v : Value) (below : List Value) → type_of v ≡ t → map type_of below ≡ ts → IsGood m (go v below)) → IsGood m (on_top ops go)
top m t ts [] go h k = absurd cc
top m t ts (v ∷ below) go h k = let a : type_of v ≡ t = cc in let b : map type_of below ≡ ts = cc in k v below a b

pub number : (m : Parts) (t : ValType) (ts : List ValType) (ops : List Value) (go : ℕ → List Value → Next) → map type_of ops ≡ t ∷ ts →
    ((n : ℕ) (below : List Value) → map type_of below ≡ ts → IsGood m (go n below)) → IsGood m (on_number t ops go)
number m types.I32 ts [] go h k = absurd cc
number m types.I32 ts (values.I32 n ∷ below) go h k = k n below cc
number m types.I32 ts (values.I64 n ∷ below) go h k = absurd cc
number m types.I64 ts [] go h k = absurd cc
number m types.I64 ts (values.I32 n ∷ below) go h k = absurd cc
number m types.I64 ts (values.I64 n ∷ below) go h k = k n below cc

pub front : (m : Parts) (ts tail : List ValType) (ops : List Value) (n : ℕ) (go : List Value → List Value → Next) → n ≡ length ts →
    map type_of ops ≡ ts ++ tail →
    ((kept below : List Value) → map type_of kept ≡ ts → map type_of below ≡ tail → IsGood m (go kept below)) → IsGood m (on_front n ops go)
front m ts tail ops n go e h k =
    let s = split_types ts tail ops h in rw (front_is ops ts tail n go s e) (k s.kept s.gone s.kept_typed s.gone_typed)

pub some : {A : Type 0} (m : Parts) (o : Option A) (x : A) (go : A → Next) → o ≡ Some x → IsGood m (go x) → IsGood m (on_some o go)
some m o x go e h = rw e h

pub test : (m : Parts) (b : Bool) (this that : Next) → IsGood m this → IsGood m that → IsGood m (if b then this else that)
test m true this that h k = h
test m false this that h k = k

pub nothing_due : (p : Progress) → p ≢ Asked → due p ≡ []
nothing_due Fresh q = refl
nothing_due (Halfway n) q = refl
nothing_due Asked q = absurd (q refl)

-- values on top of others
pub stacked : (above below : List Value) (ts : List ValType) → map type_of above ≡ ts → map type_of (above ++ below) ≡ ts ++ map type_of below
stacked above below ts h = map-append type_of above below ∙ ap (λ (x : List ValType). x ++ map type_of below) h

module _ (m : Parts) (x : Context) (inside : IsIn m x) (c : Config) (callers : AreTypedCallers m x.results c.callers)
    (globals : map type_of c.globals ≡ map (λ g. g.val_type) x.globals) (q : c.progress ≢ Asked) where
  -- another frame of the same function
  pub stays : (f : Frame) → IsTypedFrame x [] f → IsTyped m (record c { frame = f })
  stays f t = record {
    context = x;
    inside = inside;
    frame = subst (λ (more : List ValType). IsTypedFrame x more f) (sym (nothing_due c.progress q)) t;
    callers = callers;
    globals = globals;
  }

  -- the function is left
  returned : (kept : List Value) → map type_of kept ≡ x.results → (fs : List Frame) → AreTypedCallers m x.results fs → IsGood m (returns_to c kept fs)
  returned kept h [] a = tt
  returned kept h (f ∷ fs) a = record {
    context = a.0;
    inside = a.1;
    frame = subst (λ (more : List ValType). IsTypedFrame a.0 more (record f { operands = kept ++ f.operands })) (sym (nothing_due c.progress q)) (record {
      labels = a.2.labels;
      ends = a.2.ends;
      code = subst (λ (ts : List ValType). HasType a.0 a.2.labels f.code ts a.2.ends) (sym (stacked kept f.operands x.results h)) a.2.code;
      opens = a.2.opens;
      locals = a.2.locals;
      arity = a.2.arity;
    });
    callers = a.3;
    globals = globals ∙ ap (map (λ (g : GlobalType). g.val_type)) (inside.globals ∙ sym a.1.globals);
  }

  pub returning : (tail : List ValType) (ops : List Value) → c.frame.arity ≡ length x.results → map type_of ops ≡ x.results ++ tail → IsGood m (returns c ops)
  returning tail ops e h = front m x.results tail ops c.frame.arity _ e h (λ kept below k g. returned kept k c.callers callers)

  module _ (locals : map type_of c.frame.locals ≡ x.locals) (arity : c.frame.arity ≡ length x.results) where
    -- a branch to a label
    landing : (l : Label) (ls : List Label) (t : List ValType) (ts : List (List ValType)) (ends : List ValType) (o : Opens x (l ∷ ls) (t ∷ ts) ends)
        (kept : List Value) → map type_of kept ≡ t → (again : Option Code) → AreCarried x again t ts ends → IsGood m (lands c l ls kept again)
    landing l ls t ts ends o kept h None y = stays (record c.frame { code = l.after; operands = kept ++ l.below; labels = ls }) (record {
      labels = ts;
      ends = o.0;
      code = subst (λ (us : List ValType). HasType x ts l.after us o.0) (sym (stacked kept l.below ends (h ∙ y))) o.3;
      opens = o.4;
      locals = locals;
      arity = arity;
    })
    landing l ls t ts ends o kept h (Some body) y = stays (record c.frame { code = body; operands = kept; labels = l ∷ ls }) (record {
      labels = t ∷ ts;
      ends = ends;
      code = subst (λ (us : List ValType). HasType x (t ∷ ts) body us ends) (sym (h ∙ y.0)) y.1;
      opens = o;
      locals = locals;
      arity = arity;
    })

    pub branching : (k : ℕ) (ops : List Value) (carried tail : List ValType) → map type_of ops ≡ carried ++ tail →
        (ls : List Label) (ts : List (List ValType)) (ends : List ValType) → Opens x ls ts ends → slice_get ts k ≡ Some carried → IsGood m (branches c k ops ls)
    branching zero ops carried tail h [] ts ends o e =
        let is : carried ≡ x.results = (let y = ap (λ us. slice_get us 0) o.0 in cc) in
        returning tail ops arity (h ∙ ap (λ (us : List ValType). us ++ tail) is)
    branching (suc k) ops carried tail h [] ts ends o e = let y : slice_get ts (suc k) ≡ None = ap (λ us. slice_get us (suc k)) o.0 in absurd cc
    branching k ops carried tail h (l ∷ ls) [] ends o e = absurd o
    branching zero ops carried tail h (l ∷ ls) (t ∷ ts) ends o e =
        let is : t ≡ carried = cc in
        front m t tail ops l.carried (λ kept below. lands c l ls kept l.again) o.1 (h ∙ ap (λ (us : List ValType). us ++ tail) (sym is))
        (λ kept below y z. landing l ls t ts ends o kept y l.again o.2)
    branching (suc k) ops carried tail h (l ∷ ls) (t ∷ ts) ends o e = branching k ops carried tail h ls ts o.0 o.4 e

    -- the end of a block, or of the function
    pub ending : (ls : List Label) (ts : List (List ValType)) (us : List ValType) → Opens x ls ts us → map type_of c.frame.operands ≡ us → IsGood m (ends c ls)
    ending [] ts us o h = returning [] c.frame.operands arity (h ∙ o.1 ∙ sym (append-nil x.results))
    ending (l ∷ ls) [] us o h = absurd o
    ending (l ∷ ls) (t ∷ ts) us o h = stays (record c.frame { code = l.after; operands = c.frame.operands ++ l.below; labels = ls }) (record {
      labels = ts;
      ends = o.0;
      code = subst (λ (vs : List ValType). HasType x ts l.after vs o.0) (sym (stacked c.frame.operands l.below us h)) o.3;
      opens = o.4;
      locals = locals;
      arity = arity;
    })
