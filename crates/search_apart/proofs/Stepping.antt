-- What a step of a program makes: its accesses end where they say; and a thread awaits an answer only behind a question.
use Rattle.std.proofs.Common.{◌≡◌, ◌≢◌, ℕ, suc, zero, ◌+◌, ◌-◌, ◌%◌, ◌≤◌, Bool, true, false, List, [], ◌∷◌, ◌++◌}
use Rattle.std.proofs.Common.{◌⊎◌, inl, inr, length, Option, Some, None, refl, ap, subst, arith, take, drop}
use Rattle.std.specs.Prelude.{nat_eq, nat_lt, nat_le, reverse, map, if◌then◌else◌, slice_get}
use Rattle.std.proofs.Math.Nat.{min-le_left}
use Rattle.std.proofs.lemmas.Bool.{cond_both}
use Rattle.types.specs.declared.value.ValType.{ValType}
use Rattle.types.specs.declared.value.ValType.TheVariants as types
use Rattle.types.specs.declared.value.Value.{Value}
use Rattle.types.specs.declared.value.Value.TheVariants as values
use Rattle.types.specs.declared.operators.LoadOp.{LoadOp}
use Rattle.types.specs.declared.operators.AtomicOp.{AtomicOp}
use Rattle.types.specs.declared.operators.AtomicOp.TheVariants as atomic
use Rattle.types.specs.declared.operators.MemArg.{MemArg}
use Rattle.types.specs.declared.instr.PlainInstr.{PlainInstr}
use Rattle.types.specs.declared.instr.PlainInstr.TheVariants as plain
use Rattle.types.specs.declared.parts.FuncType.{FuncType}
use Rattle.types.specs.declared.event.Event.{Event}
use Rattle.types.specs.declared.event.Event.TheVariants as events
use Rattle.types.specs.declared.event.Question.TheVariants.{Wait, Notify}
use Rattle.types.specs.declared.outcome.Trap.TheVariants as traps
use Rattle.types.specs.Nesting.{Code, Empty, Then, BlockThen, LoopThen, IfThen, IfElseThen}
use Rattle.types.specs.Widths.{type_bytes, access_type, access_bytes, load_bytes}
use Rattle.types.specs.declared.limits.TheConstants.{MOST_VALUES, MOST_FRAMES}
use Rattle.interp_numeric.specs.Integers.{signed}
use Rattle.interp_numeric.specs.Results.{NumericResult, NumericResult.Traps, numeric_result}
use Rattle.interp_machine.specs.Program.{Program, Function, zero_of}
use Rattle.interp_machine.specs.Config.{Label, Frame, Progress, Fresh, Halfway, Asked, Config, values_of, Next, Stuck, Goes, Traps, Finishes, Asks, Hears}
use Rattle.interp_machine.specs.Access.{cut, answered_value, first_width, in_one_word, loaded_value}
use Rattle.interp_machine.specs.Step.{if_room, on_top, on_number, on_some, on_front, waits, returns_to, returns, half}
use Rattle.interp_machine.specs.Step.{lands, branches, ends, calls_own, calls_spawn, calls, type_at, same_type, opens}
use Rattle.interp_machine.specs.Step.{with_rest, calls_place, on_address, loads, stores, if_aligned, on_aligned}
use Rattle.interp_machine.specs.Step.{atomics, computes, does, runs, limited, next_by, next}

-- The bytes of an access end where it says that the whole does, or before.
abbrev pub EndsWithin : Event → Type 0
EndsWithin (events.Load addr width reach) = addr + width ≤ reach
EndsWithin (events.Store addr width reach value) = addr + width ≤ reach
EndsWithin _ = Unit {0}

-- No answer is due.
abbrev pub IsFreed : Config → Type 0
IsFreed c = c.progress ≢ Asked

-- None is, whatever the reply to what isn't a question.
abbrev pub IsFreedBy : Event → (ℕ → Config) → Type 0
IsFreedBy (events.Ask question) go = Unit {0}
IsFreedBy _ go = (n : ℕ) → IsFreed (go n)

abbrev pub IsFine : Next → Type 0
IsFine Stuck = Unit {0}
IsFine (Goes after) = IsFreed after
IsFine (Traps trap) = Unit {0}
IsFine (Finishes result) = Unit {0}
IsFine (Asks event go) = EndsWithin event × IsFreedBy event go
IsFine (Hears go) = ⊥

record IsWell (go : Next) : Type 0 where
  fine : IsFine go

pub fresh : Fresh ≢ Asked
fresh e = absurd (cc e)

halfway : (n : ℕ) → Halfway n ≢ Asked
halfway n e = absurd (cc e)

-- operands

top_fine : (operands : List Value) (go : Value → List Value → Next)
    → ((v : Value) (below : List Value) → IsWell (go v below)) → IsWell (on_top operands go)
top_fine [] go h = record { fine = tt }
top_fine (v ∷ below) go h = h v below

number_fine : (t : ValType) (operands : List Value) (go : ℕ → List Value → Next)
    → ((n : ℕ) (below : List Value) → IsWell (go n below)) → IsWell (on_number t operands go)
number_fine types.I32 [] go h = record { fine = tt }
number_fine types.I64 [] go h = record { fine = tt }
number_fine types.I32 (values.I32 n ∷ below) go h = h n below
number_fine types.I64 (values.I64 n ∷ below) go h = h n below
number_fine types.I32 (values.I64 n ∷ below) go h = record { fine = tt }
number_fine types.I64 (values.I32 n ∷ below) go h = record { fine = tt }

some_fine : {A : Type 0} (o : Option A) (go : A → Next) → ((x : A) → IsWell (go x)) → IsWell (on_some o go)
some_fine None go h = record { fine = tt }
some_fine (Some x) go h = h x

if_fine : (b : Bool) (x y : Next) → IsWell x → IsWell y → IsWell (if b then x else y)
if_fine b x y h k = cond_both b x y (λ (go : Next). IsWell go) (λ e. h) (λ e. k)

front_fine : (n : ℕ) (operands : List Value) (go : List Value → List Value → Next)
    → ((above below : List Value) → IsWell (go above below)) → IsWell (on_front n operands go)
front_fine n operands go h = if_fine (nat_le n (length operands))
    (go (take n operands) (drop n operands)) Stuck (h (take n operands) (drop n operands)) record { fine = tt }

address_fine : (operands : List Value) (arg : MemArg) (go : ℕ → List Value → Next)
    → ((n : ℕ) (below : List Value) → IsWell (go n below)) → IsWell (on_address operands arg go)
address_fine operands arg go h = number_fine types.I32 operands _ (λ base below. h (base + arg.offset) below)

if_aligned_fine : (addr bytes : ℕ) (go : Next) → IsWell go → IsWell (if_aligned addr bytes go)
if_aligned_fine addr bytes go h = if_fine (nat_eq (addr % bytes) 0) go (Traps traps.UnalignedAtomic) h record { fine = tt }

aligned_fine : (operands : List Value) (arg : MemArg) (bytes : ℕ) (go : ℕ → List Value → Next)
    → ((n : ℕ) (below : List Value) → IsWell (go n below)) → IsWell (on_aligned operands arg bytes go)
aligned_fine operands arg bytes go h =
    address_fine operands arg (λ addr below. if_aligned addr bytes (go addr below))
    (λ addr below. if_aligned_fine addr bytes (go addr below) (h addr below))

first_ends : (addr bytes : ℕ) → addr + first_width addr bytes ≤ addr + bytes
first_ends addr bytes = let h = min-le_left bytes (8 - addr % 8) in omega (arith, h)

second_ends : (addr bytes : ℕ) → addr + first_width addr bytes + (bytes - first_width addr bytes) ≤ addr + bytes
second_ends addr bytes = let h = min-le_left bytes (8 - addr % 8) in omega (arith, h)

either_freed : (b : Bool) (x y : Config) → IsFreed x → IsFreed y → IsFreed (if b then x else y)
either_freed true x y h k = h
either_freed false x y h k = k

module _ (p : Program) (c : Config) (free : IsFreed c) where
  -- blocks and branches

  returns_to_fine : (results : List Value) (callers : List Frame) → IsWell (returns_to c results callers)
  returns_to_fine results [] = record { fine = tt }
  returns_to_fine results (f ∷ callers) = record { fine = free }

  returns_fine : (operands : List Value) → IsWell (returns c operands)
  returns_fine operands = front_fine c.frame.arity operands _ (λ results below. returns_to_fine results c.callers)

  lands_fine : (l : Label) (ls : List Label) (carried : List Value) (again : Option Code) → IsWell (lands c l ls carried again)
  lands_fine l ls carried None = record { fine = free }
  lands_fine l ls carried (Some body) = record { fine = free }

  branches_fine : (k : ℕ) (operands : List Value) (ls : List Label) → IsWell (branches c k operands ls)
  branches_fine zero operands [] = returns_fine operands
  branches_fine (suc k) operands [] = record { fine = tt }
  branches_fine zero operands (l ∷ ls) = front_fine l.carried operands _ (λ carried below. lands_fine l ls carried l.again)
  branches_fine (suc k) operands (l ∷ ls) = branches_fine k operands ls

  ends_fine : (ls : List Label) → IsWell (ends c ls)
  ends_fine [] = returns_fine c.frame.operands
  ends_fine (l ∷ ls) = record { fine = free }

  -- calls

  opens_fine : (inner : Config) → IsFreed inner → IsWell (opens c inner)
  opens_fine inner h = if_fine (nat_lt (length inner.callers) MOST_FRAMES) (Goes inner)
      (Traps traps.StackExhausted) record { fine = h } record { fine = tt }

  own_fine : (t : FuncType) (f : Function) (rest : Code) (operands : List Value) → IsWell (calls_own c t f rest operands)
  own_fine t f rest operands =
      front_fine (length t.params) operands _ (λ (args below : List Value).
      opens_fine (record c {
        frame = record { locals = reverse args ++ map zero_of f.locals; code = f.code; operands = []; labels = []; arity = length t.results };
        callers = record c.frame { code = rest; operands = below } ∷ c.callers;
      }) free)

  spawn_fine : (rest : Code) (operands : List Value) → IsWell (calls_spawn c rest operands)
  spawn_fine rest operands = number_fine types.I32 operands _ (λ arg below. record { fine = (tt, tt) })

  calls_fine : (f : ℕ) (t : FuncType) (rest : Code) (operands : List Value) → IsWell (calls p c f t rest operands)
  calls_fine f t rest operands =
      if_fine (nat_lt f p.imported) (calls_spawn c rest operands)
      (on_some (slice_get p.bodies (f - p.imported)) (λ own. calls_own c t own rest operands))
      (spawn_fine rest operands)
      (some_fine (slice_get p.bodies (f - p.imported)) _ (λ own. own_fine t own rest operands))

  type_fine : (f : ℕ) (go : FuncType → Next) → ((t : FuncType) → IsWell (go t)) → IsWell (type_at p f go)
  type_fine f go h = some_fine (slice_get p.functions f) _ (λ index. some_fine (slice_get p.types index) go h)

  place_fine : (t : FuncType) (rest : Code) (operands : List Value) (o : Option (Option ℕ)) → IsWell (calls_place p c t rest operands o)
  place_fine t rest operands None = record { fine = tt }
  place_fine t rest operands (Some None) = record { fine = tt }
  place_fine t rest operands (Some (Some f)) =
      type_fine f _ (λ found. if_fine (same_type found t) _ _ (calls_fine f t rest operands)
      (record { fine = tt }))

  -- memory

  first_loads : (op : LoadOp) (addr : ℕ) (rest : Code) (below : List Value) (n : ℕ)
      → IsFreed (if in_one_word addr (load_bytes op) then with_rest c rest (loaded_value op n ∷ below) else half c n)
  first_loads op addr rest below n = either_freed (in_one_word addr (load_bytes op)) (with_rest c rest (loaded_value op n ∷ below)) (half c n) fresh (halfway n)

  loads_fine : (op : LoadOp) (addr : ℕ) (rest : Code) (below : List Value) (progress : Progress) → IsWell (loads c op addr rest below progress)
  loads_fine op addr rest below (Halfway low) = record { fine = (second_ends addr (load_bytes op), λ n. fresh) }
  loads_fine op addr rest below Fresh = record { fine = (first_ends addr (load_bytes op), first_loads op addr rest below) }
  loads_fine op addr rest below Asked = record { fine = (first_ends addr (load_bytes op), first_loads op addr rest below) }

  first_stores : (bytes addr : ℕ) (rest : Code) (below : List Value) → IsFreed (if in_one_word addr bytes then with_rest c rest below else half c 0)
  first_stores bytes addr rest below = either_freed (in_one_word addr bytes) (with_rest c rest below) (half c 0) fresh (halfway 0)

  stores_fine : (bytes addr n : ℕ) (rest : Code) (below : List Value) (progress : Progress) → IsWell (stores c bytes addr n rest below progress)
  stores_fine bytes addr n rest below (Halfway low) = record { fine = (second_ends addr bytes, λ n. fresh) }
  stores_fine bytes addr n rest below Fresh = record { fine = (first_ends addr bytes, λ n. first_stores bytes addr rest below) }
  stores_fine bytes addr n rest below Asked = record { fine = (first_ends addr bytes, λ n. first_stores bytes addr rest below) }

  wait_fine : (rest : Code) (below : List Value) (addr : ℕ) (t : ValType) (expected timeout : ℕ)
      → IsWell (if p.shared then Asks (events.Ask (Wait addr (type_bytes t) expected (signed 64 timeout)))
      (λ _. waits c rest below) else Traps traps.NotShared)
  wait_fine rest below addr t expected timeout =
      if_fine p.shared (Asks (events.Ask (Wait addr (type_bytes t) expected (signed 64 timeout))) (λ _. waits c rest below)) (Traps traps.NotShared)
      record { fine = (tt, tt) } record { fine = tt }

  atomics_fine : (op : AtomicOp) (arg : MemArg) (rest : Code) (operands : List Value) → IsWell (atomics p c op arg rest operands)
  atomics_fine atomic.Notify arg rest operands =
      number_fine types.I32 operands _ (λ (count : ℕ) (more : List Value).
      aligned_fine more arg 4 (λ addr below. Asks (events.Ask (Notify addr count)) (λ _. waits c rest below))
      (λ addr below. record { fine = (tt, tt) }))
  atomics_fine (atomic.Wait t) arg rest operands =
      number_fine types.I64 operands _ (λ (timeout : ℕ) (more : List Value). number_fine t more _ (λ (expected : ℕ) (further : List Value).
      aligned_fine further arg (type_bytes t) _ (λ addr below. wait_fine rest below addr t expected timeout)))
  atomics_fine (atomic.Load w) arg rest operands =
      aligned_fine operands arg (access_bytes w)
      (λ addr below. Asks (events.Load addr (access_bytes w) (addr + access_bytes w))
      (λ n. with_rest c rest (answered_value w n ∷ below))) (λ addr below. record { fine = (omega arith, λ n. fresh) })
  atomics_fine (atomic.Store w) arg rest operands =
      number_fine (access_type w) operands _ (λ (n : ℕ) (more : List Value). aligned_fine more arg (access_bytes w)
      (λ addr below. Asks (events.Store addr (access_bytes w) (addr + access_bytes w) (cut (access_bytes w) n))
      (λ _. with_rest c rest below)) (λ addr below. record { fine = (omega arith, λ n. fresh) }))
  atomics_fine (atomic.Rmw op w) arg rest operands =
      number_fine (access_type w) operands _ (λ (n : ℕ) (more : List Value). aligned_fine more arg (access_bytes w)
      (λ addr below. Asks (events.Rmw op addr (access_bytes w) (cut (access_bytes w) n)) (λ old. with_rest c rest (answered_value w old ∷ below)))
      (λ addr below. record { fine = (tt, λ n. fresh) }))
  atomics_fine (atomic.Cmpxchg w) arg rest operands =
      number_fine (access_type w) operands _ (λ (replacement : ℕ)
      (more : List Value). number_fine (access_type w) more _ (λ (expected : ℕ) (further : List Value).
      aligned_fine further arg (access_bytes w)
      (λ addr below. Asks (events.Cmpxchg addr (access_bytes w) expected (cut (access_bytes w) replacement))
      (λ old. with_rest c rest (answered_value w old ∷ below)))
      (λ addr below. record { fine = (tt, λ n. fresh) })))

  -- instructions

  computes_fine : (rest : Code) (r : NumericResult) → IsWell (computes c rest r)
  computes_fine rest NumericResult.Lacks = record { fine = tt }
  computes_fine rest (NumericResult.Traps trap) = record { fine = tt }
  computes_fine rest (NumericResult.Gives v below) = record { fine = fresh }

  does_fine : (op : PlainInstr) (rest : Code) (operands : List Value) → IsWell (does p c op rest operands)
  does_fine plain.Unreachable rest operands = record { fine = tt }
  does_fine plain.Nop rest operands = record { fine = fresh }
  does_fine (plain.Br l) rest operands = branches_fine l operands c.frame.labels
  does_fine (plain.BrIf l) rest operands =
      number_fine types.I32 operands _ (λ n below. if_fine (nat_eq n 0) _ _ record { fine = fresh } (branches_fine l below c.frame.labels))
  does_fine (plain.BrTable l ls) rest operands = number_fine types.I32 operands _ (λ n below. branches_fine _ below c.frame.labels)
  does_fine plain.Return rest operands = returns_fine operands
  does_fine (plain.Call f) rest operands = type_fine f _ (λ t. calls_fine f t rest operands)
  does_fine (plain.CallIndirect index) rest operands =
      some_fine (slice_get p.types index) _ (λ t. number_fine types.I32 operands _ (λ n below. place_fine t rest below (slice_get p.table n)))
  does_fine plain.Drop rest operands = top_fine operands _ (λ v below. record { fine = fresh })
  does_fine plain.Select rest operands =
      number_fine types.I32 operands _ (λ n more. top_fine more _ (λ second further. top_fine further _ (λ first below. record { fine = fresh })))
  does_fine (plain.LocalGet x) rest operands = some_fine (slice_get c.frame.locals x) _ (λ v. record { fine = fresh })
  does_fine (plain.LocalSet x) rest operands = top_fine operands _ (λ v below. some_fine (slice_get c.frame.locals x) _ (λ w. record { fine = fresh }))
  does_fine (plain.LocalTee x) rest operands = top_fine operands _ (λ v below. some_fine (slice_get c.frame.locals x) _ (λ w. record { fine = fresh }))
  does_fine (plain.GlobalGet x) rest operands = some_fine (slice_get c.globals x) _ (λ v. record { fine = fresh })
  does_fine (plain.GlobalSet x) rest operands = top_fine operands _ (λ v below. some_fine (slice_get c.globals x) _ (λ w. record { fine = fresh }))
  does_fine (plain.I32Const n) rest operands = record { fine = fresh }
  does_fine (plain.I64Const n) rest operands = record { fine = fresh }
  does_fine (plain.Numeric n) rest operands = computes_fine rest (numeric_result n operands)
  does_fine (plain.Load op arg) rest operands = address_fine operands arg _ (λ addr below. loads_fine op addr rest below c.progress)
  does_fine (plain.Store w arg) rest operands =
      number_fine (access_type w) operands _ (λ n more. address_fine more arg _ (λ addr below. stores_fine (access_bytes w) addr n rest below c.progress))
  does_fine plain.MemorySize rest operands = record { fine = (tt, λ n. fresh) }
  does_fine plain.MemoryGrow rest operands = number_fine types.I32 operands _ (λ more below. record { fine = (tt, λ n. fresh) })
  does_fine (plain.Atomic op arg) rest operands = atomics_fine op arg rest operands
  does_fine plain.Fence rest operands = record { fine = fresh }

  runs_fine : (code : Code) (operands : List Value) → IsWell (runs p c code operands)
  runs_fine Empty operands = ends_fine c.frame.labels
  runs_fine (Then op rest) operands = does_fine op rest operands
  runs_fine (BlockThen t body rest) operands = record { fine = free }
  runs_fine (LoopThen t body rest) operands = record { fine = free }
  runs_fine (IfThen t first rest) operands = number_fine types.I32 operands _ (λ n below. record { fine = free })
  runs_fine (IfElseThen t first second rest) operands = number_fine types.I32 operands _ (λ n below. record { fine = free })

  -- the step

  if_room_fine : (after : Config) (go : Next) → IsWell go → IsWell (if_room after go)
  if_room_fine after go h = if_fine (nat_le (values_of after) MOST_VALUES) go (Traps traps.StackExhausted) h record { fine = tt }

  limited_fine : (go : Next) → IsWell go → IsWell (limited go)
  limited_fine Stuck h = h
  limited_fine (Goes c) h = if_room_fine c (Goes c) h
  limited_fine (Traps trap) h = h
  limited_fine (Finishes result) h = h
  limited_fine (Asks event go) h = if_room_fine (go 0) (Asks event go) h
  limited_fine (Hears go) h = h

  next_fine : (progress : Progress) → progress ≢ Asked → IsWell (next_by p c progress)
  next_fine Asked h = absurd (h refl)
  next_fine Fresh h = limited_fine _ (runs_fine c.frame.code c.frame.operands)
  next_fine (Halfway n) h = limited_fine _ (runs_fine c.frame.code c.frame.operands)

  pub step_fine : IsFine (next p c)
  step_fine = IsWell.fine (next_fine c.progress free)

-- whether an answer is due
pub asked_or_not : (x : Progress) → (x ≡ Asked) ⊎ (x ≢ Asked)
asked_or_not Fresh = inr fresh
asked_or_not (Halfway n) = inr (halfway n)
asked_or_not Asked = inl refl

-- what the answer makes
pub hears_next : (p : Program) (c : Config) → c.progress ≡ Asked → next p c ≡ Hears (λ n. with_rest c c.frame.code (values.I32 n ∷ c.frame.operands))
hears_next p c is = ap (λ x. next_by p c x) is

-- an event that comes next ends within
pub asks_within : (p : Program) (c : Config) (e : Event) (go : ℕ → Config) → next p c ≡ Asks e go → EndsWithin e
asks_within p c e go is = elim (asked_or_not c.progress) [
  | inl asked ↦ absurd (let other = hears_next p c asked in cc (other, is))
  | inr free ↦ (subst IsFine is (step_fine p c free)).0
]
