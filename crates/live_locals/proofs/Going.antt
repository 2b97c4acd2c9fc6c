-- What comes next of configurations that are alike is alike.
use Rattle.std.proofs.Common.{◌≡◌, ℕ, zero, suc, ◌+◌, ◌-◌, ◌%◌, nat_eq, nat_lt, List, [], ◌∷◌, ◌++◌, length, map, reverse}
use Rattle.std.proofs.Common.{Option, Some, None, slice_get, slice_set, Bool, true, false, if◌then◌else◌, refl, ap, subst, arith}
use Rattle.std.specs.List.{Contains}
use Rattle.types.specs.declared.value.ValType.TheVariants as types
use Rattle.types.specs.declared.value.Value.{Value}
use Rattle.types.specs.declared.value.Value.TheVariants as values
use Rattle.types.specs.declared.operators.LoadOp.{LoadOp}
use Rattle.types.specs.declared.operators.AtomicOp.{AtomicOp}
use Rattle.types.specs.declared.operators.AtomicOp.TheVariants as atomic
use Rattle.types.specs.declared.operators.MemArg.{MemArg}
use Rattle.types.specs.declared.instr.PlainInstr.{PlainInstr}
use Rattle.types.specs.declared.instr.PlainInstr.TheVariants as plain
use Rattle.types.specs.declared.event.Event.{Event}
use Rattle.types.specs.declared.outcome.Trap.{Trap}
use Rattle.types.specs.declared.outcome.Trap.TheVariants as traps
use Rattle.types.specs.declared.parts.FuncType.{FuncType}
use Rattle.types.specs.Nesting.{Code, Empty, Then, BlockThen, LoopThen, IfThen, IfElseThen}
use Rattle.types.specs.Widths.{type_bytes, load_bytes, access_type, access_bytes}
use Rattle.types.specs.declared.limits.TheConstants.{MOST_FRAMES}
use Rattle.validate_typing.specs.Typing.{results_of}
use Rattle.interp_numeric.specs.Results.{NumericResult, NumericResult.Traps, numeric_result}
use Rattle.interp_machine.specs.Access.{in_one_word}
use Rattle.interp_machine.specs.Config.{Label, Frame, Config, Progress, Fresh, Halfway, Asked, Next, Goes, Traps, Asks}
use Rattle.interp_machine.specs.Program.{Program, Function, zero_of}
use Rattle.interp_machine.specs.Step.{on_some, with_rest, waits, enters, returns_to, returns, lands, branches, ends, opens, calls_own}
use Rattle.interp_machine.specs.Step.{calls, type_at, calls_place, same_type, half, loads, stores, atomics, computes, chosen, sets_local, does, runs}
use Rattle.interp_machine.specs.Step.{hears, next_by, next}
use Rattle.live_locals.specs.Live.{Covers}
use Rattle.live_locals.specs.Lives.{Includes, IsLiveBefore, Lives, IsLiveAt, OpensLive, IsLiveFrame}
use Rattle.live_locals.specs.Alike.{Agree, AreFramesAlike, AreCallersAlike, AreAlike, AreNextAlike}
use Rattle.live_locals.proofs.Marks.{includes_itself, plainly, all_lives, agree_itself, agree_less, agree_long, agree_written}
use Rattle.live_locals.proofs.Other.{on_top_alike, on_number_alike, on_some_alike, on_same_alike, on_front_alike, either_alike, either_config_alike}
use Rattle.live_locals.proofs.Other.{callers_long, limited_alike, other, frame_alike, config_alike, other_is}

-- a local is there in both
both_there : (xs ys : List Value) (x : ℕ) (n m : Next) → length xs ≡ length ys → AreNextAlike n m →
    AreNextAlike (on_some (slice_get xs x) (λ _. n)) (on_some (slice_get ys x) (λ _. m))
both_there [] [] x n m e h = tt
both_there [] (y ∷ ys) x n m e h = absurd (omega arith)
both_there (u ∷ xs) [] x n m e h = absurd (omega arith)
both_there (u ∷ xs) (y ∷ ys) zero n m e h = h
both_there (u ∷ xs) (y ∷ ys) (suc x) n m e h = both_there xs ys x n m (omega arith) h

-- the label that a number chooses is one of those that are named
is_first : (k : ℕ) (ks : List ℕ) → Contains (k ∷ ks) k
is_first k ks = (0, omega arith, refl)

is_later : (k j : ℕ) (ks : List ℕ) → Contains ks j → Contains (k ∷ ks) j
is_later k j ks h = let l = h.1 in (suc h.0, omega arith, h.2)

chosen_named : (ks : List ℕ) (last n : ℕ) → Contains (ks ++ (last ∷ [])) (chosen ks last n)
chosen_named [] last n = is_first last []
chosen_named (k ∷ ks) last zero = is_first k (ks ++ (last ∷ []))
chosen_named (k ∷ ks) last (suc n) = is_later k (chosen ks last n) (ks ++ (last ∷ [])) (chosen_named ks last n)

-- a calling frame goes on with results
resumed : (results : List Value) (f g : Frame) → AreFramesAlike f g →
    AreFramesAlike (record f { operands = results ++ f.operands }) (record g { operands = results ++ g.operands })
resumed results f g a = record {
  row = a.row;
  live = record { outs = a.live.outs; behind = a.live.behind; code = a.live.code; opens = a.live.opens };
  same = record {
    locals = a.same.locals;
    code = a.same.code;
    operands = ap (λ (os : List Value). results ++ os) a.same.operands;
    labels = a.same.labels;
    arity = a.same.arity;
  };
}

module _ (p : Program) (c : Config) (ys : List Value) (gs : List Frame) (callers : AreCallersAlike c.callers gs) (row : List Bool)
    (agree : Agree row c.frame.locals ys) where
  abbrev d : Config
  d = other c ys gs

  -- ---- Returns and branches

  returned : (results : List Value) (fs hs : List Frame) → AreCallersAlike fs hs → AreNextAlike (returns_to c results fs) (returns_to d results hs)
  returned results [] [] a = refl
  returned results [] (h ∷ hs) a = absurd a
  returned results (f ∷ fs) [] a = absurd a
  returned results (f ∷ fs) (h ∷ hs) a = record { globals = refl; frame = resumed results f h a.0; callers = a.1; progress = refl }

  returning : (ops : List Value) → AreNextAlike (returns c ops) (returns d ops)
  returning ops = on_front_alike c.frame.arity ops (λ results below. returns_to c results c.callers) (λ results below. returns_to d results gs)
      (λ results below. returned results c.callers gs callers)

  -- the frame goes on where less is live
  less : (to : List Bool) → Includes row to → Agree to c.frame.locals ys
  less to i = agree_less row to c.frame.locals ys i agree

  landing : (l : Label) (ls : List Label) (out : List Bool) (outs : List (List Bool)) (behind : List Bool) → OpensLive (l ∷ ls) (out ∷ outs) behind →
      (kept : List Value) (again : Option Code) → IsLiveAt again out outs behind → Includes row out → AreNextAlike (lands c l ls kept again) (lands d l ls kept again)
  landing l ls out outs behind o kept None a i =
      config_alike (record c { frame = record c.frame { code = l.after; operands = kept ++ l.below; labels = ls } }) ys gs behind
      (record { outs = outs; behind = o.0; code = o.2; opens = o.3 }) (less behind (λ local h. i local (a local h))) callers
  landing l ls out outs behind o kept (Some body) a i =
      config_alike (record c { frame = record c.frame { code = body; operands = kept; labels = l ∷ ls } }) ys gs out
      (record { outs = out ∷ outs; behind = behind; code = a; opens = o }) (less out i) callers

  branching : (k : ℕ) (ops : List Value) (ls : List Label) (outs : List (List Bool)) (behind : List Bool) → OpensLive ls outs behind →
      ((out : List Bool) → slice_get outs k ≡ Some out → Includes row out) → AreNextAlike (branches c k ops ls) (branches d k ops ls)
  branching zero ops [] outs behind o h = returning ops
  branching (suc k) ops [] outs behind o h = tt
  branching zero ops (l ∷ ls) [] behind o h = absurd o
  branching (suc k) ops (l ∷ ls) [] behind o h = absurd o
  branching zero ops (l ∷ ls) (out ∷ outs) behind o h =
      on_front_alike l.carried ops (λ kept below. lands c l ls kept l.again) (λ kept below. lands d l ls kept l.again)
      (λ kept below. landing l ls out outs behind o kept l.again o.1 (h out refl))
  branching (suc k) ops (l ∷ ls) (out ∷ outs) behind o h = branching k ops ls outs o.0 o.3 h

  ending : (ls : List Label) (outs : List (List Bool)) (behind : List Bool) → OpensLive ls outs behind → Includes row behind →
      AreNextAlike (ends c ls) (ends d ls)
  ending [] outs behind o i = returning c.frame.operands
  ending (l ∷ ls) [] behind o i = absurd o
  ending (l ∷ ls) (out ∷ outs) behind o i =
      config_alike (record c { frame = record c.frame { code = l.after; operands = c.frame.operands ++ l.below; labels = ls } }) ys gs behind
      (record { outs = outs; behind = o.0; code = o.2; opens = o.3 }) (less behind i) callers

  module _ (outs : List (List Bool)) (behind : List Bool) (open_blocks : OpensLive c.frame.labels outs behind) where
    -- a block is entered
    entering : (carried : ℕ) (again : Option Code) (body rest : Code) (below : List Value) (out inner after : List Bool) → IsLiveAt again out outs after →
        Lives (out ∷ outs) inner body after → Lives outs after rest behind → Includes row inner →
        AreNextAlike (enters c carried again body rest below) (enters d carried again body rest below)
    entering carried again body rest below out inner after a h r i =
        config_alike (record c {
          frame = record c.frame {
            code = body;
            operands = [];
            labels = record { carried = carried; again = again; after = rest; below = below } ∷ c.frame.labels;
          };
        }) ys gs inner (record { outs = out ∷ outs; behind = after; code = h; opens = (behind, a, r, open_blocks) }) (less inner i) callers

    -- one arm or the other
    arm : (b : Bool) (carried : ℕ) (this that rest : Code) (below : List Value) (one two after : List Bool) → Lives (after ∷ outs) one this after →
        Lives (after ∷ outs) two that after → Lives outs after rest behind → Includes row one → Includes row two →
        AreNextAlike (enters c carried None (if b then this else that) rest below) (enters d carried None (if b then this else that) rest below)
    arm true carried this that rest below one two after h k r i j = entering carried None this rest below after one after (includes_itself after) h r i
    arm false carried this that rest below one two after h k r i j = entering carried None that rest below after two after (includes_itself after) k r j

    halved : Lives outs row c.frame.code behind → (n : ℕ) → AreAlike (half c n) (half d n)
    halved here n = config_alike (half c n) ys gs row (record { outs = outs; behind = behind; code = here; opens = open_blocks }) agree callers

    answered : Lives outs row c.frame.code behind → AreNextAlike (hears c) (hears d)
    answered here = λ n. config_alike (with_rest c c.frame.code (values.I32 n ∷ c.frame.operands)) ys gs row
        (record { outs = outs; behind = behind; code = here; opens = open_blocks }) agree callers

    module _ (here : Lives outs row c.frame.code behind) (rest : Code) (middle : List Bool) (live : Lives outs middle rest behind) where
      -- ---- Going on in the block

      there : (ops : List Value) → IsLiveFrame middle (record c.frame { code = rest; operands = ops })
      there ops = record { outs = outs; behind = behind; code = live; opens = open_blocks }

      written : (x : ℕ) (v : Value) (ops : List Value) → Covers row middle (Some x) →
          AreAlike (with_rest (sets_local c x v) rest ops) (with_rest (sets_local d x v) rest ops)
      written x v ops h = config_alike (with_rest (sets_local c x v) rest ops) (slice_set ys x v) gs middle
          (record { outs = outs; behind = behind; code = live; opens = open_blocks })
          (agree_written row middle c.frame.locals ys x v h agree) callers

      module _ (so : Agree middle c.frame.locals ys) where
        on : (ops : List Value) → AreAlike (with_rest c rest ops) (with_rest d rest ops)
        on ops = config_alike (with_rest c rest ops) ys gs middle (there ops) so callers

        waiting : (ops : List Value) → AreAlike (waits c rest ops) (waits d rest ops)
        waiting ops = config_alike (waits c rest ops) ys gs middle (there ops) so callers

        -- ---- Calls

        opening : (inner outer : Config) → AreAlike inner outer → AreNextAlike (opens c inner) (opens d outer)
        opening inner outer a =
            subst (λ n. AreNextAlike (opens c inner) (if nat_lt n MOST_FRAMES then Goes outer else Traps traps.StackExhausted))
            (callers_long inner.callers outer.callers a.callers)
            (either_alike (nat_lt (length inner.callers) MOST_FRAMES) (Goes inner) (Traps traps.StackExhausted) (Goes outer) (Traps traps.StackExhausted) a refl)

        -- what a call opens, in the one and in the other
        abbrev entered : FuncType → Function → List Value → Frame
        entered t f args = record {
          locals = reverse args ++ map zero_of f.locals;
          code = f.code;
          operands = [];
          labels = [];
          arity = length t.results;
        }

        called : (t : FuncType) (f : Function) (args below : List Value) →
            AreAlike (record c { frame = entered t f args; callers = record c.frame { code = rest; operands = below } ∷ c.callers })
            (record d { frame = entered t f args; callers = record d.frame { code = rest; operands = below } ∷ d.callers })
        called t f args below = record {
          globals = refl;
          frame = frame_alike [] (entered t f args) (reverse args ++ map zero_of f.locals)
              (record { outs = []; behind = []; code = all_lives [] f.code; opens = tt }) (agree_itself [] (reverse args ++ map zero_of f.locals));
          callers = (frame_alike middle (record c.frame { code = rest; operands = below }) ys (there below) so, callers);
          progress = refl;
        }

        own_call : (t : FuncType) (f : Function) (ops : List Value) → AreNextAlike (calls_own c t f rest ops) (calls_own d t f rest ops)
        own_call t f ops = on_front_alike (length t.params) ops _ _ (λ args below. opening _ _ (called t f args below))

        calling : (f : ℕ) (t : FuncType) (ops : List Value) → AreNextAlike (calls p c f t rest ops) (calls p d f t rest ops)
        calling f t ops = either_alike (nat_lt f p.imported) _ _ _ _
            (on_number_alike types.I32 ops _ _ (λ arg below. (refl, λ n. waiting below)))
            (on_some_alike (slice_get p.bodies (f - p.imported)) _ _ (λ own. own_call t own ops))

        typed_call : (f : ℕ) (go on : FuncType → Next) → ((t : FuncType) → AreNextAlike (go t) (on t)) → AreNextAlike (type_at p f go) (type_at p f on)
        typed_call f go on h = on_some_alike (slice_get p.functions f) _ _ (λ index. on_some_alike (slice_get p.types index) go on h)

        placing : (t : FuncType) (ops : List Value) (o : Option (Option ℕ)) → AreNextAlike (calls_place p c t rest ops o) (calls_place p d t rest ops o)
        placing t ops None = refl
        placing t ops (Some None) = refl
        placing t ops (Some (Some f)) =
            typed_call f _ _ (λ found. either_alike (same_type found t) _ (Traps traps.SignatureMismatch) _ (Traps traps.SignatureMismatch) (calling f t ops) refl)

        -- ---- Numbers and accesses

        computing : (r : NumericResult) → AreNextAlike (computes c rest r) (computes d rest r)
        computing NumericResult.Lacks = tt
        computing (NumericResult.Traps trap) = refl
        computing (NumericResult.Gives v below) = on (v ∷ below)

        loading : (op : LoadOp) (addr : ℕ) (below : List Value) (y : Progress) → AreNextAlike (loads c op addr rest below y) (loads d op addr rest below y)
        loading op addr below Fresh =
            (refl, λ n. either_config_alike (in_one_word addr (load_bytes op)) _ _ _ _ (on _) (halved here n))
        loading op addr below (Halfway low) = (refl, λ n. on _)
        loading op addr below Asked =
            (refl, λ n. either_config_alike (in_one_word addr (load_bytes op)) _ _ _ _ (on _) (halved here n))

        storing : (bytes addr n : ℕ) (below : List Value) (y : Progress) → AreNextAlike (stores c bytes addr n rest below y) (stores d bytes addr n rest below y)
        storing bytes addr n below Fresh = (refl, λ _. either_config_alike (in_one_word addr bytes) _ _ _ _ (on below) (halved here 0))
        storing bytes addr n below (Halfway low) = (refl, λ _. on below)
        storing bytes addr n below Asked = (refl, λ _. either_config_alike (in_one_word addr bytes) _ _ _ _ (on below) (halved here 0))

        -- an event is wanted, or the access traps
        asked : (b : Bool) (event : Event) (go on : ℕ → Config) (trap : Trap) → ((n : ℕ) → AreAlike (go n) (on n)) →
            AreNextAlike (if b then Asks event go else Traps trap) (if b then Asks event on else Traps trap)
        asked b event go on trap h = either_alike b (Asks event go) (Traps trap) (Asks event on) (Traps trap) (refl, h) refl

        atomic_instr : (op : AtomicOp) (arg : MemArg) (ops : List Value) → AreNextAlike (atomics p c op arg rest ops) (atomics p d op arg rest ops)
        atomic_instr atomic.Notify arg ops = on_number_alike types.I32 ops _ _ (λ count more. on_number_alike types.I32 more _ _ (λ base below.
            asked (nat_eq ((base + arg.offset) % 4) 0) _ _ _ _ (λ n. waiting below)))
        atomic_instr (atomic.Wait t) arg ops = on_number_alike types.I64 ops _ _ (λ timeout more. on_number_alike t more _ _ (λ expected further.
            on_number_alike types.I32 further _ _ (λ base below.
            either_alike (nat_eq ((base + arg.offset) % type_bytes t) 0) _ (Traps traps.UnalignedAtomic) _ (Traps traps.UnalignedAtomic)
            (asked p.shared _ _ _ traps.NotShared (λ n. waiting below)) refl)))
        atomic_instr (atomic.Load w) arg ops = on_number_alike types.I32 ops _ _ (λ base below.
            asked (nat_eq ((base + arg.offset) % access_bytes w) 0) _ _ _ _ (λ n. on _))
        atomic_instr (atomic.Store w) arg ops = on_number_alike (access_type w) ops _ _ (λ k more. on_number_alike types.I32 more _ _ (λ base below.
            asked (nat_eq ((base + arg.offset) % access_bytes w) 0) _ _ _ _ (λ n. on below)))
        atomic_instr (atomic.Rmw op w) arg ops = on_number_alike (access_type w) ops _ _ (λ k more. on_number_alike types.I32 more _ _ (λ base below.
            asked (nat_eq ((base + arg.offset) % access_bytes w) 0) _ _ _ _ (λ n. on _)))
        atomic_instr (atomic.Cmpxchg w) arg ops = on_number_alike (access_type w) ops _ _ (λ replacement more.
            on_number_alike (access_type w) more _ _ (λ expected further. on_number_alike types.I32 further _ _ (λ base below.
            asked (nat_eq ((base + arg.offset) % access_bytes w) 0) _ _ _ _ (λ n. on _))))

      -- ---- Any instruction

      -- what is live behind an instruction that writes nothing
      kept : Covers row middle None → Agree middle c.frame.locals ys
      kept h = less middle (plainly row middle h)

      branch : (k : ℕ) (ops : List Value) → ((out : List Bool) → slice_get outs k ≡ Some out → Includes row out) →
          AreNextAlike (branches c k ops c.frame.labels) (branches d k ops c.frame.labels)
      branch k ops h = branching k ops c.frame.labels outs behind open_blocks h

      doing : (op : PlainInstr) → IsLiveBefore outs op row middle → (ops : List Value) → AreNextAlike (does p c op rest ops) (does p d op rest ops)
      doing plain.Unreachable h ops = refl
      doing plain.Nop h ops = on (kept (h.next refl)) ops
      doing (plain.Br l) h ops = branch l ops (λ out at. h.labels l out (is_first l []) at)
      doing (plain.BrIf l) h ops = on_number_alike types.I32 ops _ _ (λ n below.
          either_alike (nat_eq n 0) _ _ _ _ (on (kept (h.next refl)) below) (branch l below (λ out at. h.labels l out (is_first l []) at)))
      doing (plain.BrTable l ls) h ops = on_number_alike types.I32 ops _ _ (λ n below.
          branch (chosen ls l n) below (λ out at. h.labels (chosen ls l n) out (chosen_named ls l n) at))
      doing plain.Return h ops = returning ops
      doing (plain.Call f) h ops = typed_call (kept (h.next refl)) f _ _ (λ t. calling (kept (h.next refl)) f t ops)
      doing (plain.CallIndirect index) h ops = on_some_alike (slice_get p.types index) _ _ (λ t. on_number_alike types.I32 ops _ _ (λ n below.
          placing (kept (h.next refl)) t below (slice_get p.table n)))
      doing plain.Drop h ops = on_top_alike ops _ _ (λ v below. on (kept (h.next refl)) below)
      doing plain.Select h ops = on_number_alike types.I32 ops _ _ (λ n more. on_top_alike more _ _ (λ second further. on_top_alike further _ _ (λ first below.
          on (kept (h.next refl)) _)))
      doing (plain.LocalGet x) h ops = on_same_alike (slice_get c.frame.locals x) (slice_get ys x) _ _ (agree.same x (h.reads x refl))
          (λ v. on (kept (h.next refl)) (v ∷ ops))
      doing (plain.LocalSet x) h ops = on_top_alike ops _ _ (λ v below.
          both_there c.frame.locals ys x _ _ (agree_long row c.frame.locals ys agree) (written x v below (h.next refl)))
      doing (plain.LocalTee x) h ops = on_top_alike ops _ _ (λ v below.
          both_there c.frame.locals ys x _ _ (agree_long row c.frame.locals ys agree) (written x v ops (h.next refl)))
      doing (plain.GlobalGet x) h ops = on_some_alike (slice_get c.globals x) _ _ (λ v. on (kept (h.next refl)) (v ∷ ops))
      doing (plain.GlobalSet x) h ops = on_top_alike ops _ _ (λ v below. on_some_alike (slice_get c.globals x) _ _ (λ _.
          config_alike (with_rest (record c { globals = slice_set c.globals x v }) rest below) ys gs middle
          (record { outs = outs; behind = behind; code = live; opens = open_blocks }) (kept (h.next refl)) callers))
      doing (plain.I32Const n) h ops = on (kept (h.next refl)) (values.I32 n ∷ ops)
      doing (plain.I64Const n) h ops = on (kept (h.next refl)) (values.I64 n ∷ ops)
      doing (plain.Numeric n) h ops = computing (kept (h.next refl)) (numeric_result n ops)
      doing (plain.Load op arg) h ops = on_number_alike types.I32 ops _ _ (λ base below.
          loading (kept (h.next refl)) op (base + arg.offset) below c.progress)
      doing (plain.Store w arg) h ops = on_number_alike (access_type w) ops _ _ (λ n more. on_number_alike types.I32 more _ _ (λ base below.
          storing (kept (h.next refl)) (access_bytes w) (base + arg.offset) n below c.progress))
      doing plain.MemorySize h ops = (refl, λ n. on (kept (h.next refl)) _)
      doing plain.MemoryGrow h ops = on_number_alike types.I32 ops _ _ (λ more below. (refl, λ n. on (kept (h.next refl)) _))
      doing (plain.Atomic op arg) h ops = atomic_instr (kept (h.next refl)) op arg ops
      doing plain.Fence h ops = on (kept (h.next refl)) ops

    running : Lives outs row c.frame.code behind → (code : Code) → Lives outs row code behind →
        AreNextAlike (runs p c code c.frame.operands) (runs p d code c.frame.operands)
    running here Empty h = ending c.frame.labels outs behind open_blocks h
    running here (Then op rest) h = doing here rest h.0 h.2 op h.1 c.frame.operands
    running here (BlockThen t body rest) h =
        entering (length (results_of t)) None body rest c.frame.operands h.1 h.0 h.1 (includes_itself h.1) h.3 h.4 h.2
    running here (LoopThen t body rest) h = entering 0 (Some body) body rest c.frame.operands h.0 h.0 h.1 h.3 h.3 h.4 h.2
    running here (IfThen t first rest) h = on_number_alike types.I32 c.frame.operands _ _ (λ n below.
        arm (nat_eq n 0) (length (results_of t)) Empty first rest below h.1 h.0 h.1 (includes_itself h.1) h.4 h.5 h.3 h.2)
    running here (IfElseThen t first second rest) h = on_number_alike types.I32 c.frame.operands _ _ (λ n below.
        arm (nat_eq n 0) (length (results_of t)) second first rest below h.1 h.0 h.2 h.6 h.5 h.7 h.4 h.3)

    pub going : Lives outs row c.frame.code behind → (y : Progress) → AreNextAlike (next_by p c y) (next_by p d y)
    going here Asked = answered here
    going here Fresh = limited_alike _ _ (running here c.frame.code here)
    going here (Halfway n) = limited_alike _ _ (running here c.frame.code here)

pub alike : (p : Program) (c d : Config) → AreAlike c d → AreNextAlike (next p c) (next p d)
alike p c d a =
    let f = a.frame in
    subst (λ e. AreNextAlike (next p c) (next p e)) (other_is c d a)
    (going p c d.frame.locals d.callers a.callers f.row f.same.locals f.live.outs f.live.behind f.live.opens f.live.code c.progress)
