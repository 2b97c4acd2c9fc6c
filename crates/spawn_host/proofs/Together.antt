-- From one history of real threads to one run.
use Rattle.std.proofs.Common.{◌≡◌, ◌≢◌, ℕ, zero, suc, ◌+◌, ◌-◌, ◌<◌, ◌≤◌, All, Bool, cond, List, [], ◌∷◌, length}
use Rattle.std.proofs.Common.{Option, Some, None, refl, sym, ◌∙◌, ap, subst, arith, inl, inr, get_or, slice_get}
use Rattle.std.specs.List.{AllByRecursion}
use Rattle.std.specs.Prelude.{Result, Ok, Err, IfOk}
use Rattle.std.proofs.lemmas.Bool.{cases_lt, ne_eqb}
use Rattle.std.proofs.lemmas.List.Elements.{recursion_from_All}
use Rattle.types.specs.declared.value.Value.{Value}
use Rattle.types.specs.declared.value.Value.TheVariants as values
use Rattle.types.specs.declared.event.Entry.{Entry}
use Rattle.types.specs.declared.outcome.Stop.TheVariants as stops
use Rattle.types.specs.declared.outcome.Outcome.TheVariants as outcomes
use Rattle.types.specs.declared.outcome.ThreadReport.{ThreadReport}
use Rattle.types.specs.declared.parts.FuncType.{FuncType}
use Rattle.types.specs.declared.parts.Body.{Body}
use Rattle.types.specs.declared.parts.Parts.{Parts}
use Rattle.types.specs.declared.limits.TheConstants.{DESK_NAME}
use Rattle.shared_memory.specs.Memory.{Memory}
use Rattle.shared_memory.specs.WaitQueue.{WaitQueue}
use Rattle.shared_memory.specs.History.{entries_of, queue_after, IsEntry}
use Rattle.waiters.specs.Queue.{arg_of}
use Rattle.schedule.specs.Machine.{Thread.Runs}
use Rattle.interp_machine.specs.Program.{Program, program_of}
use Rattle.interp_machine.specs.State.{State, At}
use Rattle.schedule_threads.specs.Seeing.{RunsToEnd}
use Rattle.interp_trait.specs.Turns.{Meaning}
use Rattle.interp.specs.Starts.{start_of}
use Rattle.spawn_host_workers.specs.declared.report.RunEnd.{RunEnd}
use Rattle.spawn_host_workers.specs.OverMemory.{OverMemory}
use Rattle.spawn_host_workers.specs.Composed.{IsReport, IsComposed}
use Rattle.schedule_runs.specs.Runs.{Start, if_spawned, begins_in, HasRun, AreOfThreads, RanTogether}
use Rattle.schedule_runs.proofs.Running.{threads_make_one_run}
use Rattle.spawn_host.specs.Entries.{StartsThreads, CallsThreadStart}
use Rattle.spawn_host.specs.Requests.{Requested}
use Rattle.spawn_host.specs.Threads.{IsCall, IsFirst, BeginsRequest, BeginBeside, AreSpawnable}
use Rattle.spawn_host.specs.Runs.{opening_memory, start_with, Tells, IsRun, IsRunOfRequest}

-- Nobody enters under a name past 64.
silent_past : (H : List Entry) (n : ℕ) → DESK_NAME < n → AllByRecursion IsEntry H → entries_of n H ≡ []
silent_past [] n past all = refl
silent_past (e ∷ H) n past all =
    let other : e.thread ≢ n = λ is. (let named = all.0.named in omega (arith, named, is, past)) in
    ap (λ (b : Bool). cond b (e ∷ entries_of n H) (entries_of n H)) (ne_eqb e.thread n other) ∙ silent_past H n past all.1

-- lists, by place

got_is : {A : Type 0} (xs : List A) (n : ℕ) (x d : A) → slice_get xs n ≡ Some x → get_or xs n d ≡ x
got_is [] n x d h = absurd (cc h)
got_is (y ∷ xs) zero x d h = cc h
got_is (y ∷ xs) (suc n) x d h = got_is xs n x d h

got_below : {A : Type 0} (xs : List A) (n : ℕ) (x : A) → slice_get xs n ≡ Some x → n < length xs
got_below [] n x h = absurd (cc h)
got_below (y ∷ xs) zero x h = omega arith
got_below (y ∷ xs) (suc n) x h = let below = got_below xs n x h in omega (arith, below)

there_at : (xs : List ℕ) (k : ℕ) → k < length xs → slice_get xs k ≡ Some (get_or xs k 0)
there_at [] k lt = absurd (omega (arith, lt))
there_at (x ∷ xs) zero lt = refl
there_at (x ∷ xs) (suc k) lt = there_at xs k (omega (arith, lt))

got_past : {A : Type 0} (xs : List A) (k : ℕ) (d : A) → length xs ≤ k → get_or xs k d ≡ d
got_past [] k d past = refl
got_past (x ∷ xs) zero d past = absurd (omega (arith, past))
got_past (x ∷ xs) (suc k) d past = got_past xs k d (omega (arith, past))

-- What holds of each place of a list holds of each place at all, with the first behind the end.
every_place : {A : Type 0} (P : A → Type 0) (xs : List A) (d : A) → 0 < length xs → All P xs → (k : ℕ) → P (get_or xs k (get_or xs 0 d))
every_place P xs d some all k =
    elim (cases_lt k (length xs)) [
      | inl lt ↦ all k (get_or xs 0 d) lt
      | inr past ↦ subst P (sym (got_past xs k (get_or xs 0 d) past)) (all 0 d some)
    ]

-- A thread that ran as it was reported, from a list in which it begins.
record Started (b : Start) (loses : Bool) (limit : Option ℕ) (H : List Entry) (n : ℕ) (report : ThreadReport) (c : State) : Type 0 where
  begun : List Entry
  begins : begins_in b begun n ≡ Some c
  report_is : IsReport loses b.opening limit n b.program (Runs c b.fuel) b.fuel report begun H

-- It has run, with what its report leaves of the budget.
has_run : (b : Start) (loses : Bool) (limit : Option ℕ) (H : List Entry) (n : ℕ) (report : ThreadReport) (c : State) → Started b loses limit H n report c
    → HasRun b loses limit H n c report.outcome (b.fuel - report.spent)
has_run b loses limit H n report c s =
    let r = s.report_is in
    let left : r.run.left ≡ b.fuel - report.spent = (let budget = r.run.budget in omega (arith, budget)) in record {
      before = s.begun;
      last = r.last;
      unseen = r.more;
      begun = s.begins;
      fresh = r.fresh;
      run = subst (λ (l : ℕ). RunsToEnd b.program loses b.opening limit n (Runs c b.fuel) report.outcome l s.begun r.last) left r.run.run;
      history = r.list;
      apart = r.silent;
    }

-- A report of another program and budget that are the same.
same_report : (loses : Bool) (opening : Memory) (limit : Option ℕ) (n : ℕ) (p q : Program) (c : State) (f g : ℕ)
    (report : ThreadReport) (begun H : List Entry) → p ≡ q → f ≡ g
    → IsReport loses opening limit n p (Runs c f) f report begun H → IsReport loses opening limit n q (Runs c g) g report begun H
same_report loses opening limit n p q c f g report begun H is_program is_fuel r =
    subst (λ (k : ℕ). IsReport loses opening limit n q (Runs c k) k report begun H) is_fuel
    (subst (λ (x : Program). IsReport loses opening limit n x (Runs c f) f report begun H) is_program r)

-- a report where there is none
none_reported : ThreadReport
none_reported = record { outcome = outcomes.Stop stops.OutOfFuel; spent = 0 }

-- a memory that opens so
abbrev opened : {S : Type 0} → OverMemory S → Memory → OverMemory S
opened mem opening = record { loses = mem.loses; opening = opening; limit = mem.limit; name = mem.name; seen = mem.seen }

module _
    {S T : Type 0} (mem : OverMemory S) (meaning : T → Meaning) (first : T) (spawned : List T)
    (threads : List ThreadReport) (seats : List S) (m : Parts) (entry : List ℕ) (args : List Value) (budget : ℕ)
    (f : IsFirst meaning m entry args budget first) (t : FuncType) (body : Body) (others : List Value) (e : T)
    (calls : (k : ℕ) → IsCall meaning m t body others budget (get_or spawned k e))
    (r : IsComposed (opened mem (opening_memory m)) meaning first spawned threads seats) where
  abbrev begins_spawned : ℕ → ℕ → State
  begins_spawned n arg = At (start_of m t body (values.I32 n ∷ values.I32 arg ∷ []))

  abbrev start : Start
  start = start_with m f.takes.func_type f.takes.body args begins_spawned budget

  abbrev report_at : ℕ → ThreadReport
  report_at n = get_or threads n none_reported

  first_started : Started start mem.loses mem.limit r.history 0 (report_at 0) start.main
  first_started = record {
    begun = [];
    begins = refl;
    report_is = same_report mem.loses (opening_memory m) mem.limit 0 (meaning first).program (program_of m) start.main
        (meaning first).fuel budget (report_at 0) [] r.history f.call.program_is f.call.fuel_is
        (subst (λ (k : ℕ). IsReport mem.loses (opening_memory m) mem.limit 0 (meaning first).program (Runs start.main k)
        (meaning first).fuel (report_at 0) [] r.history) (sym f.call.fuel_is)
        (r.leads none_reported (Runs start.main budget) f.call.stands_so tt));
  }

  spawned_started : (k arg : ℕ) → arg_of (queue_after r.history) (suc k) ≡ Some arg
      → Started start mem.loses mem.limit r.history (suc k) (report_at (suc k)) (begins_spawned (suc k) arg)
  spawned_started k arg is =
      let w = get_or spawned k e in
      let s = r.works k arg none_reported e is in record {
        begun = s.begun;
        begins = ap (if_spawned (begins_spawned (suc k))) s.spawned;
        report_is = same_report mem.loses (opening_memory m) mem.limit (suc k) (meaning w).program (program_of m)
            (begins_spawned (suc k) arg) (meaning w).fuel budget (report_at (suc k)) s.begun r.history
            (calls k).program_is (calls k).fuel_is (s.ran t.params (start_of m t body) (calls k).begins_so);
      }

  started_by : (k : ℕ) (c : State) (o : Option ℕ) → arg_of (queue_after r.history) (suc k) ≡ o → if_spawned (begins_spawned (suc k)) o ≡ Some c
      → Started start mem.loses mem.limit r.history (suc k) (report_at (suc k)) c
  started_by k c None is h = absurd (cc h)
  started_by k c (Some arg) is h =
      let same : begins_spawned (suc k) arg ≡ c = cc h in
      subst (λ (x : State). Started start mem.loses mem.limit r.history (suc k) (report_at (suc k)) x) same (spawned_started k arg is)

  started : (n : ℕ) (c : State) → begins_in start r.history n ≡ Some c → Started start mem.loses mem.limit r.history n (report_at n) c
  started zero c h = let same : start.main ≡ c = cc h in subst (λ (x : State). Started start mem.loses mem.limit r.history 0 (report_at 0) x) same first_started
  started (suc k) c h = started_by k c (arg_of (queue_after r.history) (suc k)) refl h

  none_spawned : (k : ℕ) (o : Option ℕ) → arg_of (queue_after r.history) (suc k) ≡ o
      → if_spawned (begins_spawned (suc k)) o ≡ None → arg_of (queue_after r.history) (suc k) ≡ None
  none_spawned k None is h = is
  none_spawned k (Some arg) is h = absurd (cc h)

  silent : AreOfThreads start r.history
  silent zero h = absurd (cc h)
  silent (suc k) h =
      elim (cases_lt DESK_NAME (suc k)) [
        | inl past ↦ silent_past r.history (suc k) past (recursion_from_All IsEntry r.history r.legal.entries)
        | inr within ↦ r.silent (suc k) within (λ is. absurd (omega (arith, is))) (none_spawned k (arg_of (queue_after r.history) (suc k)) refl h)
      ]

  together : RanTogether start mem.loses mem.limit r.history (λ n. ThreadReport.outcome (report_at n)) (λ n. budget - ThreadReport.spent (report_at n))
  together = record {
    memory = r.legal.legal;
    queue = r.queue;
    threads = λ n c h. has_run start mem.loses mem.limit r.history n (report_at n) c (started n c h);
    entries = silent;
  }

  within_budget : (n : ℕ) (c : State) → Started start mem.loses mem.limit r.history n (report_at n) c
      → ThreadReport.spent (report_at n) + (budget - ThreadReport.spent (report_at n)) ≡ budget
  within_budget n c s = let run = s.report_is.run.budget in omega (arith, run)

  told_budget : (n : ℕ) → n < length threads → ThreadReport.spent (report_at n) + (budget - ThreadReport.spent (report_at n)) ≡ budget
  told_budget zero lt = within_budget 0 start.main first_started
  told_budget (suc k) lt =
      let args = WaitQueue.args (queue_after r.history) in
      let below : k < length args = (let count = r.count in omega (arith, lt, count)) in
      within_budget (suc k) (begins_spawned (suc k) (get_or args k 0)) (spawned_started k (get_or args k 0) (there_at args k below))

  told : (n : ℕ) (report : ThreadReport) → slice_get threads n ≡ Some report
      → Tells report budget (ThreadReport.outcome (report_at n)) (budget - ThreadReport.spent (report_at n))
  told n report h =
      let is : report_at n ≡ report = got_is threads n report none_reported h in record {
        outcome_is = ap (λ (x : ThreadReport). x.outcome) (sym is);
        budget = ap (λ (x : ThreadReport). x.spent + (budget - ThreadReport.spent (report_at n))) (sym is) ∙ told_budget n (got_below threads n report h);
      }

  -- what a spawned thread calls where the module can start none
  abbrev pub IsIdle : Type 0
  IsIdle = (StartsThreads m → ⊥) → (n arg : ℕ) → begins_spawned n arg ≡ At (start_of m f.takes.func_type f.takes.body (values.I32 n ∷ values.I32 arg ∷ []))

  pub run_of : (StartsThreads m → CallsThreadStart m begins_spawned) → IsIdle → IsRun m entry args budget mem threads seats
  run_of thread_starts idle = record {
    history = r.history;
    is_history = record {
      beginning = record {
        own = f.takes.own;
        func_type = f.takes.func_type;
        body = f.takes.body;
        exports = f.takes.exports;
        fit = f.takes.fit;
        spawned = begins_spawned;
        calls = thread_starts;
        idle = idle;
      };
      count = r.count;
      outcomes = λ n. ThreadReport.outcome (report_at n);
      lefts = λ n. budget - ThreadReport.spent (report_at n);
      reports = told;
      together = together;
      one = threads_make_one_run start mem.loses mem.limit r.history (λ n. ThreadReport.outcome (report_at n))
          (λ n. budget - ThreadReport.spent (report_at n)) together;
    };
    len = r.len;
    names = r.names;
    seen_by = r.seen_by;
  }

-- The run of a module that can start threads.
threaded_run : {S T : Type 0} (mem : OverMemory S) (meaning : T → Meaning) (first : T) (spawned : List T)
    (threads : List ThreadReport) (seats : List S) (m : Parts) (entry : List ℕ) (args others : List Value) (budget : ℕ)
    → mem.opening ≡ opening_memory m → StartsThreads m
    → IsFirst meaning m entry args budget first → AreSpawnable meaning m others budget spawned
    → IsComposed mem meaning first spawned threads seats → IsRun m entry args budget mem threads seats
threaded_run mem meaning first spawned threads seats m entry args others budget is starts f w r =
    let some : 0 < length spawned = (let count = w.count in omega (arith, count)) in
    run_of mem meaning first spawned threads seats m entry args budget f w.func_type w.body others (get_or spawned 0 first)
    (every_place (IsCall meaning m w.func_type w.body others budget) spawned first some w.calls)
    (subst (λ (o : Memory). IsComposed (opened mem o) meaning first spawned threads seats) is r)
    (λ s. record { own = w.own; func_type = w.func_type; body = w.body; is_start = w.is_start; begins = λ n arg. refl }) (λ none. absurd (none starts))

-- The run of a module that can start none: nobody is spawned.
lone_run : {S T : Type 0} (mem : OverMemory S) (meaning : T → Meaning) (first : T)
    (threads : List ThreadReport) (seats : List S) (m : Parts) (entry : List ℕ) (args : List Value) (budget : ℕ)
    → mem.opening ≡ opening_memory m → (StartsThreads m → ⊥)
    → IsFirst meaning m entry args budget first
    → IsComposed mem meaning first [] threads seats → IsRun m entry args budget mem threads seats
lone_run mem meaning first threads seats m entry args budget is none f r =
    run_of mem meaning first [] threads seats m entry args budget f f.takes.func_type f.takes.body args first
    (λ k. f.call)
    (subst (λ (o : Memory). IsComposed (opened mem o) meaning first [] threads seats) is r)
    (λ starts. absurd (none starts)) (λ n n' arg. refl)

-- what the calls give

threaded_result : {S T F : Type 0} (mem : OverMemory S) (meaning : T → Meaning) (first : T) (spawned : List T)
    (m : Parts) (entry : List ℕ) (args others : List Value) (budget : ℕ) → mem.opening ≡ opening_memory m → StartsThreads m
    → IsFirst meaning m entry args budget first → AreSpawnable meaning m others budget spawned → (result : Result (RunEnd S) F)
    → IfOk result (λ (end : RunEnd S). IsComposed mem meaning first spawned end.threads.items end.seats.items)
    → IfOk result (λ (end : RunEnd S). IsRun m entry args budget mem end.threads.items end.seats.items)
threaded_result mem meaning first spawned m entry args others budget is starts f w (Ok end) r =
    threaded_run mem meaning first spawned end.threads.items end.seats.items m entry args others budget is starts f w r
threaded_result mem meaning first spawned m entry args others budget is starts f w (Err fault) r = tt

lone_result : {S T F : Type 0} (mem : OverMemory S) (meaning : T → Meaning) (first : T)
    (m : Parts) (entry : List ℕ) (args : List Value) (budget : ℕ) → mem.opening ≡ opening_memory m → (StartsThreads m → ⊥)
    → IsFirst meaning m entry args budget first → (result : Result (RunEnd S) F)
    → IfOk result (λ (end : RunEnd S). IsComposed mem meaning first [] end.threads.items end.seats.items)
    → IfOk result (λ (end : RunEnd S). IsRun m entry args budget mem end.threads.items end.seats.items)
lone_result mem meaning first m entry args budget is none f (Ok end) r =
    lone_run mem meaning first end.threads.items end.seats.items m entry args budget is none f r
lone_result mem meaning first m entry args budget is none f (Err fault) r = tt

pub any_result : {S T F : Type 0} (mem : OverMemory S) (meaning : T → Meaning) (first : T) (others : List T) (r : Requested)
    → mem.opening ≡ opening_memory r.parts → BeginsRequest meaning r first → BeginBeside meaning r others
    → (result : Result (RunEnd S) F)
    → IfOk result (λ (end : RunEnd S). IsComposed mem meaning first others end.threads.items end.seats.items)
    → IfOk result (λ (end : RunEnd S). IsRunOfRequest r mem end.threads.items end.seats.items)
any_result mem meaning first others r is f (inl some) result composed =
    threaded_result mem meaning first others r.parts r.name r.args some.1.0 r.fuel is some.0 f some.1.1 result composed
any_result {S = S} mem meaning first others r is f (inr none) result composed =
    lone_result mem meaning first r.parts r.name r.args r.fuel is none.0 f result
    (subst (λ l. IfOk result (λ (end : RunEnd S). IsComposed mem meaning first l end.threads.items end.seats.items)) none.1 composed)
