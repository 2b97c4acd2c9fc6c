-- What a step of a program asks: a thread neither leaves nor takes an answer by an instruction; after a question it waits for the
-- answer, whatever the reply.
use Rattle.std.proofs.Common.{◌≡◌, ℕ, suc, zero, ◌+◌, ◌-◌, ◌%◌, ◌<◌, ◌⊎◌, inl, inr, Bool, true, List, [], ◌∷◌, ◌++◌}
use Rattle.std.proofs.Common.{length, Option, Some, None, refl, ap, subst, arith, take, drop}
use Rattle.std.specs.Prelude.{nat_eq, nat_lt, nat_le, reverse, map, if◌then◌else◌, slice_get}
use Rattle.std.proofs.lemmas.Bool.{cond_both, ltb-true}
use Rattle.types.specs.declared.value.ValType.{ValType}
use Rattle.types.specs.declared.value.ValType.TheVariants as types
use Rattle.types.specs.declared.value.Value.{Value}
use Rattle.types.specs.declared.value.Value.TheVariants as values
use Rattle.types.specs.declared.operators.LoadOp.{LoadOp}
use Rattle.types.specs.declared.operators.AtomicOp.{AtomicOp}
use Rattle.types.specs.declared.operators.AtomicOp.TheVariants as atomic
use Rattle.types.specs.declared.operators.MemArg.{MemArg}
use Rattle.types.specs.declared.instr.PlainInstr.{PlainInstr}
use Rattle.types.specs.declared.instr.PlainInstr.TheVariants as plain
use Rattle.types.specs.declared.parts.FuncType.{FuncType}
use Rattle.types.specs.declared.event.Event.{Event}
use Rattle.types.specs.declared.event.Event.TheVariants as events
use Rattle.types.specs.declared.event.Question.{Question}
use Rattle.types.specs.declared.event.Question.TheVariants.{Wait, Notify, Spawn, Leave}
use Rattle.types.specs.declared.event.Reply.{Reply}
use Rattle.types.specs.declared.event.Reply.TheVariants as replies
use Rattle.types.specs.declared.event.Answer.{Answer}
use Rattle.types.specs.declared.outcome.Outcome.{Outcome}
use Rattle.types.specs.declared.outcome.Trap.TheVariants as traps
use Rattle.types.specs.Nesting.{Code, Empty, Then, BlockThen, LoopThen, IfThen, IfElseThen}
use Rattle.types.specs.Widths.{type_bytes, access_type, access_bytes}
use Rattle.types.specs.declared.limits.TheConstants.{MOST_VALUES, MOST_FRAMES}
use Rattle.interp_numeric.specs.Integers.{signed}
use Rattle.interp_numeric.specs.Results.{NumericResult, NumericResult.Traps, numeric_result}
use Rattle.schedule.specs.System.{Want.Calls}
use Rattle.schedule.specs.Machine.{Wish, MachineLaws, Thread, wanted, thread_wants}
use Rattle.interp_machine.specs.Program.{Program, Function, zero_of}
use Rattle.interp_machine.specs.Config.{Label, Frame, Progress, Fresh, Halfway, Asked, Config, values_of, Next, Stuck, Goes, Traps, Finishes, Asks, Hears}
use Rattle.interp_machine.specs.Access.{cut, answered_value}
use Rattle.interp_machine.specs.Step.{if_room, on_top, on_number, on_some, on_front, waits, returns_to, returns}
use Rattle.interp_machine.specs.Step.{lands, branches, ends, calls_own, calls_spawn, calls, type_at, same_type, opens}
use Rattle.interp_machine.specs.Step.{with_rest, calls_place, on_address, loads, stores, if_aligned, on_aligned}
use Rattle.interp_machine.specs.Step.{atomics, computes, does, runs, limited, next_by, next}
use Rattle.interp_machine.specs.State.{State, At, Over, replied, replied_by}
use Rattle.schedule_threads.specs.Shared.{is_question}
use Rattle.schedule_threads.specs.Threads.{wish_of, wishes, machine_of, IsOfThread}

-- What a question makes doesn't depend on its reply: the thread waits.
abbrev pub WaitsBy : (ℕ → Config) → Type 0
WaitsBy go = (n : ℕ) → (go n ≡ go 0) × ((go n).progress ≡ Asked)

-- A question leaves its thread waiting, and no instruction asks to leave, or to be told an answer. Only a program with an imported
-- function spawns.
abbrev pub LeavesWaiting : Program → Next → Type 0
LeavesWaiting p (Asks (events.Ask Leave) go) = ⊥
LeavesWaiting p (Asks (events.Ask (Spawn arg)) go) = (0 < p.imported) × WaitsBy go
LeavesWaiting p (Asks (events.Ask question) go) = WaitsBy go
LeavesWaiting p (Asks (events.Told answer) go) = ⊥
LeavesWaiting p _ = Unit {0}

record IsWell (p : Program) (go : Next) : Type 0 where
  waits : LeavesWaiting p go

module _ (p : Program) where
  -- operands

  top_waits : (operands : List Value) (go : Value → List Value → Next)
      → ((v : Value) (below : List Value) → IsWell p (go v below)) → IsWell p (on_top operands go)
  top_waits [] go h = record { waits = tt }
  top_waits (v ∷ below) go h = h v below

  number_waits : (t : ValType) (operands : List Value) (go : ℕ → List Value → Next)
      → ((n : ℕ) (below : List Value) → IsWell p (go n below)) → IsWell p (on_number t operands go)
  number_waits types.I32 [] go h = record { waits = tt }
  number_waits types.I64 [] go h = record { waits = tt }
  number_waits types.I32 (values.I32 n ∷ below) go h = h n below
  number_waits types.I64 (values.I64 n ∷ below) go h = h n below
  number_waits types.I32 (values.I64 n ∷ below) go h = record { waits = tt }
  number_waits types.I64 (values.I32 n ∷ below) go h = record { waits = tt }

  some_waits : {A : Type 0} (o : Option A) (go : A → Next) → ((x : A) → IsWell p (go x)) → IsWell p (on_some o go)
  some_waits None go h = record { waits = tt }
  some_waits (Some x) go h = h x

  if_waits : (b : Bool) (x y : Next) → IsWell p x → IsWell p y → IsWell p (if b then x else y)
  if_waits b x y h k = cond_both b x y (λ (go : Next). IsWell p go) (λ e. h) (λ e. k)

  front_waits : (n : ℕ) (operands : List Value) (go : List Value → List Value → Next)
      → ((above below : List Value) → IsWell p (go above below)) → IsWell p (on_front n operands go)
  front_waits n operands go h = if_waits (nat_le n (length operands))
      (go (take n operands) (drop n operands)) Stuck (h (take n operands) (drop n operands)) record { waits = tt }

  -- blocks and branches

  returns_to_waits : (c : Config) (results : List Value) (callers : List Frame) → IsWell p (returns_to c results callers)
  returns_to_waits c results [] = record { waits = tt }
  returns_to_waits c results (f ∷ callers) = record { waits = tt }

  returns_waits : (c : Config) (operands : List Value) → IsWell p (returns c operands)
  returns_waits c operands = front_waits c.frame.arity operands _ (λ results below. returns_to_waits c results c.callers)

  lands_waits : (c : Config) (l : Label) (ls : List Label) (carried : List Value) (again : Option Code) → IsWell p (lands c l ls carried again)
  lands_waits c l ls carried None = record { waits = tt }
  lands_waits c l ls carried (Some body) = record { waits = tt }

  branches_waits : (c : Config) (k : ℕ) (operands : List Value) (ls : List Label) → IsWell p (branches c k operands ls)
  branches_waits c zero operands [] = returns_waits c operands
  branches_waits c (suc k) operands [] = record { waits = tt }
  branches_waits c zero operands (l ∷ ls) = front_waits l.carried operands _ (λ carried below. lands_waits c l ls carried l.again)
  branches_waits c (suc k) operands (l ∷ ls) = branches_waits c k operands ls

  ends_waits : (c : Config) (ls : List Label) → IsWell p (ends c ls)
  ends_waits c [] = returns_waits c c.frame.operands
  ends_waits c (l ∷ ls) = record { waits = tt }

  -- calls

  opens_waits : (c inner : Config) → IsWell p (opens c inner)
  opens_waits c inner = if_waits (nat_lt (length inner.callers) MOST_FRAMES) (Goes inner)
      (Traps traps.StackExhausted) record { waits = tt } record { waits = tt }

  own_waits : (c : Config) (t : FuncType) (f : Function) (rest : Code) (operands : List Value) → IsWell p (calls_own c t f rest operands)
  own_waits c t f rest operands =
      front_waits (length t.params) operands _ (λ (args below : List Value).
      opens_waits c (record c {
        frame = record { locals = reverse args ++ map zero_of f.locals; code = f.code; operands = []; labels = []; arity = length t.results };
        callers = record c.frame { code = rest; operands = below } ∷ c.callers;
      }))

  spawn_waits : 0 < p.imported → (c : Config) (rest : Code) (operands : List Value) → IsWell p (calls_spawn c rest operands)
  spawn_waits some c rest operands = number_waits types.I32 operands _ (λ arg below. record { waits = (some, λ n. (refl, refl)) })

  imports_some : (f : ℕ) → nat_lt f p.imported ≡ true → 0 < p.imported
  imports_some f is = let below : f < p.imported = ltb-true f p.imported is in omega (arith, below)

  calls_waits : (c : Config) (f : ℕ) (t : FuncType) (rest : Code) (operands : List Value) → IsWell p (calls p c f t rest operands)
  calls_waits c f t rest operands =
      cond_both (nat_lt f p.imported) (calls_spawn c rest operands)
      (on_some (slice_get p.bodies (f - p.imported)) (λ own. calls_own c t own rest operands))
      (λ (go : Next). IsWell p go)
      (λ e. spawn_waits (imports_some f e) c rest operands)
      (λ e. some_waits (slice_get p.bodies (f - p.imported)) _ (λ own. own_waits c t own rest operands))

  type_waits : (f : ℕ) (go : FuncType → Next) → ((t : FuncType) → IsWell p (go t)) → IsWell p (type_at p f go)
  type_waits f go h = some_waits (slice_get p.functions f) _ (λ index. some_waits (slice_get p.types index) go h)

  place_waits : (c : Config) (t : FuncType) (rest : Code) (operands : List Value) (o : Option (Option ℕ)) → IsWell p (calls_place p c t rest operands o)
  place_waits c t rest operands None = record { waits = tt }
  place_waits c t rest operands (Some None) = record { waits = tt }
  place_waits c t rest operands (Some (Some f)) =
      type_waits f _ (λ found. if_waits (same_type found t) _ _ (calls_waits c f t rest operands)
      (record { waits = tt }))

  -- memory

  address_waits : (operands : List Value) (arg : MemArg) (go : ℕ → List Value → Next)
      → ((n : ℕ) (below : List Value) → IsWell p (go n below)) → IsWell p (on_address operands arg go)
  address_waits operands arg go h = number_waits types.I32 operands _ (λ base below. h (base + arg.offset) below)

  if_aligned_waits : (addr bytes : ℕ) (go : Next) → IsWell p go → IsWell p (if_aligned addr bytes go)
  if_aligned_waits addr bytes go h = if_waits (nat_eq (addr % bytes) 0) go (Traps traps.UnalignedAtomic) h record { waits = tt }

  aligned_waits : (operands : List Value) (arg : MemArg) (bytes : ℕ) (go : ℕ → List Value → Next)
      → ((n : ℕ) (below : List Value) → IsWell p (go n below)) → IsWell p (on_aligned operands arg bytes go)
  aligned_waits operands arg bytes go h =
      address_waits operands arg (λ addr below. if_aligned addr bytes (go addr below))
      (λ addr below. if_aligned_waits addr bytes (go addr below) (h addr below))

  loads_waits : (c : Config) (op : LoadOp) (addr : ℕ) (rest : Code) (below : List Value) (progress : Progress) → IsWell p (loads c op addr rest below progress)
  loads_waits c op addr rest below (Halfway low) = record { waits = tt }
  loads_waits c op addr rest below Fresh = record { waits = tt }
  loads_waits c op addr rest below Asked = record { waits = tt }

  stores_waits : (c : Config) (bytes addr n : ℕ) (rest : Code) (below : List Value) (progress : Progress) → IsWell p (stores c bytes addr n rest below progress)
  stores_waits c bytes addr n rest below (Halfway low) = record { waits = tt }
  stores_waits c bytes addr n rest below Fresh = record { waits = tt }
  stores_waits c bytes addr n rest below Asked = record { waits = tt }

  wait_waits : (c : Config) (rest : Code) (below : List Value) (addr : ℕ) (t : ValType) (expected timeout : ℕ)
      → IsWell p (if p.shared then Asks (events.Ask (Wait addr (type_bytes t) expected (signed 64 timeout)))
      (λ _. waits c rest below) else Traps traps.NotShared)
  wait_waits c rest below addr t expected timeout =
      if_waits p.shared (Asks (events.Ask (Wait addr (type_bytes t) expected (signed 64 timeout))) (λ _. waits c rest below)) (Traps traps.NotShared)
      record { waits = λ n. (refl, refl) } record { waits = tt }

  atomics_waits : (c : Config) (op : AtomicOp) (arg : MemArg) (rest : Code) (operands : List Value) → IsWell p (atomics p c op arg rest operands)
  atomics_waits c atomic.Notify arg rest operands =
      number_waits types.I32 operands _ (λ (count : ℕ) (more : List Value).
      aligned_waits more arg 4 (λ addr below. Asks (events.Ask (Notify addr count)) (λ _. waits c rest below))
      (λ addr below. record { waits = λ n. (refl, refl) }))
  atomics_waits c (atomic.Wait t) arg rest operands =
      number_waits types.I64 operands _ (λ (timeout : ℕ) (more : List Value). number_waits t more _ (λ (expected : ℕ) (further : List Value).
      aligned_waits further arg (type_bytes t) _ (λ addr below. wait_waits c rest below addr t expected timeout)))
  atomics_waits c (atomic.Load w) arg rest operands =
      aligned_waits operands arg (access_bytes w)
      (λ addr below. Asks (events.Load addr (access_bytes w) (addr + access_bytes w))
      (λ n. with_rest c rest (answered_value w n ∷ below))) (λ addr below. record { waits = tt })
  atomics_waits c (atomic.Store w) arg rest operands =
      number_waits (access_type w) operands _ (λ (n : ℕ) (more : List Value). aligned_waits more arg (access_bytes w)
      (λ addr below. Asks (events.Store addr (access_bytes w) (addr + access_bytes w) (cut (access_bytes w) n))
      (λ _. with_rest c rest below)) (λ addr below. record { waits = tt }))
  atomics_waits c (atomic.Rmw op w) arg rest operands =
      number_waits (access_type w) operands _ (λ (n : ℕ) (more : List Value). aligned_waits more arg (access_bytes w)
      (λ addr below. Asks (events.Rmw op addr (access_bytes w) (cut (access_bytes w) n)) (λ old. with_rest c rest (answered_value w old ∷ below)))
      (λ addr below. record { waits = tt }))
  atomics_waits c (atomic.Cmpxchg w) arg rest operands =
      number_waits (access_type w) operands _ (λ (replacement : ℕ)
      (more : List Value). number_waits (access_type w) more _ (λ (expected : ℕ) (further : List Value).
      aligned_waits further arg (access_bytes w)
      (λ addr below. Asks (events.Cmpxchg addr (access_bytes w) expected (cut (access_bytes w) replacement))
      (λ old. with_rest c rest (answered_value w old ∷ below)))
      (λ addr below. record { waits = tt })))

  -- instructions

  computes_waits : (c : Config) (rest : Code) (r : NumericResult) → IsWell p (computes c rest r)
  computes_waits c rest NumericResult.Lacks = record { waits = tt }
  computes_waits c rest (NumericResult.Traps trap) = record { waits = tt }
  computes_waits c rest (NumericResult.Gives v below) = record { waits = tt }

  does_waits : (c : Config) (op : PlainInstr) (rest : Code) (operands : List Value) → IsWell p (does p c op rest operands)
  does_waits c plain.Unreachable rest operands = record { waits = tt }
  does_waits c plain.Nop rest operands = record { waits = tt }
  does_waits c (plain.Br l) rest operands = branches_waits c l operands c.frame.labels
  does_waits c (plain.BrIf l) rest operands =
      number_waits types.I32 operands _ (λ n below. if_waits (nat_eq n 0) _ _ record {
        waits =
            tt;
      } (branches_waits c l below c.frame.labels))
  does_waits c (plain.BrTable l ls) rest operands = number_waits types.I32 operands _ (λ n below. branches_waits c _ below c.frame.labels)
  does_waits c plain.Return rest operands = returns_waits c operands
  does_waits c (plain.Call f) rest operands = type_waits f _ (λ t. calls_waits c f t rest operands)
  does_waits c (plain.CallIndirect index) rest operands =
      some_waits (slice_get p.types index) _ (λ t. number_waits types.I32 operands _ (λ n below. place_waits c t rest below (slice_get p.table n)))
  does_waits c plain.Drop rest operands = top_waits operands _ (λ v below. record { waits = tt })
  does_waits c plain.Select rest operands =
      number_waits types.I32 operands _ (λ n more. top_waits more _ (λ second further. top_waits further _ (λ first below. record { waits = tt })))
  does_waits c (plain.LocalGet x) rest operands = some_waits (slice_get c.frame.locals x) _ (λ v. record { waits = tt })
  does_waits c (plain.LocalSet x) rest operands = top_waits operands _ (λ v below. some_waits (slice_get c.frame.locals x) _ (λ w. record { waits = tt }))
  does_waits c (plain.LocalTee x) rest operands = top_waits operands _ (λ v below. some_waits (slice_get c.frame.locals x) _ (λ w. record { waits = tt }))
  does_waits c (plain.GlobalGet x) rest operands = some_waits (slice_get c.globals x) _ (λ v. record { waits = tt })
  does_waits c (plain.GlobalSet x) rest operands = top_waits operands _ (λ v below. some_waits (slice_get c.globals x) _ (λ w. record { waits = tt }))
  does_waits c (plain.I32Const n) rest operands = record { waits = tt }
  does_waits c (plain.I64Const n) rest operands = record { waits = tt }
  does_waits c (plain.Numeric n) rest operands = computes_waits c rest (numeric_result n operands)
  does_waits c (plain.Load op arg) rest operands = address_waits operands arg _ (λ addr below. loads_waits c op addr rest below c.progress)
  does_waits c (plain.Store w arg) rest operands =
      number_waits (access_type w) operands _ (λ n more. address_waits more arg _ (λ addr below. stores_waits c (access_bytes w) addr n rest below c.progress))
  does_waits c plain.MemorySize rest operands = record { waits = tt }
  does_waits c plain.MemoryGrow rest operands = number_waits types.I32 operands _ (λ more below. record { waits = tt })
  does_waits c (plain.Atomic op arg) rest operands = atomics_waits c op arg rest operands
  does_waits c plain.Fence rest operands = record { waits = tt }

  runs_waits : (c : Config) (code : Code) (operands : List Value) → IsWell p (runs p c code operands)
  runs_waits c Empty operands = ends_waits c c.frame.labels
  runs_waits c (Then op rest) operands = does_waits c op rest operands
  runs_waits c (BlockThen t body rest) operands = record { waits = tt }
  runs_waits c (LoopThen t body rest) operands = record { waits = tt }
  runs_waits c (IfThen t first rest) operands = number_waits types.I32 operands _ (λ n below. record { waits = tt })
  runs_waits c (IfElseThen t first second rest) operands = number_waits types.I32 operands _ (λ n below. record { waits = tt })

  -- the step

  if_room_waits : (after : Config) (go : Next) → IsWell p go → IsWell p (if_room after go)
  if_room_waits after go h = if_waits (nat_le (values_of after) MOST_VALUES) go (Traps traps.StackExhausted) h record { waits = tt }

  limited_waits : (go : Next) → IsWell p go → IsWell p (limited go)
  limited_waits Stuck h = h
  limited_waits (Goes c) h = if_room_waits c (Goes c) h
  limited_waits (Traps trap) h = h
  limited_waits (Finishes result) h = h
  limited_waits (Asks event go) h = if_room_waits (go 0) (Asks event go) h
  limited_waits (Hears go) h = h

  next_waits : (c : Config) (progress : Progress) → IsWell p (next_by p c progress)
  next_waits c Asked = record { waits = tt }
  next_waits c Fresh = limited_waits _ (runs_waits c c.frame.code c.frame.operands)
  next_waits c (Halfway n) = limited_waits _ (runs_waits c c.frame.code c.frame.operands)

pub leaves_waiting : (p : Program) (c : Config) → LeavesWaiting p (next p c)
leaves_waiting p c = IsWell.waits (next_waits p c c.progress)

-- so a configuration whose question is open waits

waits_then : (p : Program) (c : Config) → c.progress ≡ Asked → wish_of (next p c) ≡ Wish.Waits
waits_then p c is = ap (λ (progress : Progress). wish_of (next_by p c progress)) is

pub waits_by : (p : Program) (question : Question) (go : ℕ → Config) → LeavesWaiting p (Asks (events.Ask question) go) → WaitsBy go
waits_by p (Wait addr width expected timeout) go well = well
waits_by p (Notify addr count) go well = well
waits_by p (Spawn arg) go well = well.1
waits_by p Leave go well = absurd well

asked_opened : (p : Program) (c : Config) (event : Event) (go : ℕ → Config) (reply : Reply) → LeavesWaiting p (Asks event go) → is_question event reply ≡ true
    → wishes p (replied_by c (Asks event go) reply) ≡ Wish.Waits
asked_opened p c (events.Ask question) go (replies.Value n) well opens = waits_then p (go n) (waits_by p question go well n).1
asked_opened p c (events.Ask question) go replies.Done well opens = waits_then p (go 0) (waits_by p question go well 0).1
asked_opened p c event go reply well opens = absurd (cc opens)

opened_by : (p : Program) (c : Config) (go : Next) → LeavesWaiting p go → (event : Event) (reply : Reply)
    → wish_of go ≡ Wish.Asks event → is_question event reply ≡ true
    → wishes p (replied_by c go reply) ≡ Wish.Waits
opened_by p c Stuck well event reply asks opens = absurd (cc asks)
opened_by p c (Goes after) well event reply asks opens = absurd (cc asks)
opened_by p c (Traps trap) well event reply asks opens = absurd (cc asks)
opened_by p c (Finishes result) well event reply asks opens = absurd (cc asks)
opened_by p c (Hears go) well event reply asks opens = absurd (cc asks)
opened_by p c (Asks this go) well event reply asks opens =
    let same : event ≡ this = cc asks in
    asked_opened p c this go reply well (subst (λ (e : Event). is_question e reply ≡ true) same opens)

opened : (p : Program) (s : State) (event : Event) (reply : Reply) → wishes p s ≡ Wish.Asks event
    → is_question event reply ≡ true → wishes p (replied p s reply) ≡ Wish.Waits
opened p (At c) event reply asks opens = opened_by p c (next p c) (leaves_waiting p c) event reply asks opens
opened p (Over outcome) event reply asks opens = absurd (cc asks)

pub machine_laws : (p : Program) → MachineLaws (machine_of p)
machine_laws p = record { opened = opened p; exempt = refl }

-- no state wishes to be told an answer as an event, or to leave before it has ended

pub asked_of_thread : (p : Program) (event : Event) (go : ℕ → Config) → LeavesWaiting p (Asks event go) → IsOfThread event
asked_of_thread p (events.Ask (Wait addr width expected timeout)) go well = tt
asked_of_thread p (events.Ask (Notify addr count)) go well = tt
asked_of_thread p (events.Ask (Spawn arg)) go well = tt
asked_of_thread p (events.Ask Leave) go well = well
asked_of_thread p (events.Told answer) go well = well
asked_of_thread p _ go well = tt

-- what a wish for an event says of the step that comes next
asked_by : (p : Program) (go : Next) → LeavesWaiting p go → (event : Event) → wish_of go ≡ Wish.Asks event
    → (after : ℕ → Config) × LeavesWaiting p (Asks event after)
asked_by p Stuck well event asks = absurd (cc asks)
asked_by p (Goes after) well event asks = absurd (cc asks)
asked_by p (Traps trap) well event asks = absurd (cc asks)
asked_by p (Finishes result) well event asks = absurd (cc asks)
asked_by p (Hears go) well event asks = absurd (cc asks)
asked_by p (Asks this go) well event asks = let same : this ≡ event = cc asks in (go, subst (λ (e : Event). LeavesWaiting p (Asks e go)) same well)

asked_next : (p : Program) (c : Config) (event : Event) → wish_of (next p c) ≡ Wish.Asks event → (after : ℕ → Config) × LeavesWaiting p (Asks event after)
asked_next p c event asks = asked_by p (next p c) (leaves_waiting p c) event asks

pub wishes_of_threads : (p : Program) (s : State) (event : Event) → wishes p s ≡ Wish.Asks event → IsOfThread event
wishes_of_threads p (At c) event asks = let well = asked_next p c event asks in asked_of_thread p event well.0 well.1
wishes_of_threads p (Over outcome) event asks = absurd (cc asks)

-- who wants an event has a state that wishes it, or has ended and leaves
wants_by : (p : Program) (left : ℕ) (wish : Wish Event Outcome) (event : Event)
    → wanted (machine_of p) left wish ≡ Calls event → (wish ≡ Wish.Asks event) ⊎ (events.Ask Leave ≡ event)
wants_by p zero Wish.Goes event is = absurd (cc is)
wants_by p (suc n) Wish.Goes event is = absurd (cc is)
wants_by p zero Wish.Waits event is = absurd (cc is)
wants_by p (suc n) Wish.Waits event is = absurd (cc is)
wants_by p zero (Wish.Ends outcome) event is = inr (cc is)
wants_by p (suc n) (Wish.Ends outcome) event is = inr (cc is)
wants_by p zero (Wish.Asks this) event is = absurd (cc is)
wants_by p (suc n) (Wish.Asks this) event is = let same : this ≡ event = cc is in inl (ap Wish.Asks same)

wants_of : (p : Program) (t : Thread State Outcome) (event : Event) → thread_wants (machine_of p) t ≡ Calls event
    → ((s : State) × (wishes p s ≡ Wish.Asks event)) ⊎ (events.Ask Leave ≡ event)
wants_of p Thread.Absent event is = absurd (cc is)
wants_of p (Thread.Runs c left) event is = elim (wants_by p left (wishes p c) event is) [ inl asks ↦ inl (c, asks) | inr leave ↦ inr leave ]
wants_of p (Thread.Over outcome left) event is = inr (cc is)
wants_of p (Thread.Leaves outcome left) event is = absurd (cc is)
wants_of p (Thread.Left outcome left) event is = absurd (cc is)

pub wants_no_answer : (p : Program) (t : Thread State Outcome) (answer : Answer) → thread_wants (machine_of p) t ≡ Calls (events.Told answer) → ⊥
wants_no_answer p t answer is = elim (wants_of p t (events.Told answer) is) [
  | inl asks ↦
      wishes_of_threads p asks.0 (events.Told answer) asks.1
  | inr leave ↦ absurd (cc leave)
]

-- a program without imported functions spawns nobody

wishes_spawn : (p : Program) (s : State) (arg : ℕ) → wishes p s ≡ Wish.Asks (events.Ask (Spawn arg)) → 0 < p.imported
wishes_spawn p (At c) arg asks = let well = asked_next p c (events.Ask (Spawn arg)) asks in well.1.0
wishes_spawn p (Over outcome) arg asks = absurd (cc asks)

pub wants_spawn : (p : Program) (t : Thread State Outcome) (arg : ℕ) → thread_wants (machine_of p) t ≡ Calls (events.Ask (Spawn arg)) → 0 < p.imported
wants_spawn p t arg is = elim (wants_of p t (events.Ask (Spawn arg)) is) [ inl asks ↦ wishes_spawn p asks.0 arg asks.1 | inr leave ↦ absurd (cc leave) ]
