-- From what each part of a run gives to one history.
use Rattle.std.proofs.Common.{◌≡◌, ◌≢◌, ℕ, zero, suc, ◌<◌, ◌≤◌, All, Bool, List, [], ◌∷◌, ◌++◌, length, Option, Some}
use Rattle.std.proofs.Common.{None, refl, sym, ◌∙◌, ap, subst, arith, ◌⊎◌, inl, inr, append-nil, get_or}
use Rattle.std.proofs.Common.{slice_get, take, drop, true}
use Rattle.std.proofs.lemmas.Bool.{cases_lt}
use Rattle.std.proofs.lemmas.List.{append_cancel_left}
use mathlib.Core.List.{IsPrefix}
use Rattle.types.specs.declared.value.Value.TheVariants as values
use Rattle.types.specs.declared.event.Entry.{Entry}
use Rattle.types.specs.declared.outcome.ThreadReport.{ThreadReport}
use Rattle.types.specs.declared.limits.TheConstants.{MOST_THREADS, MOST_SPAWNED, DESK_NAME, SEATS}
use Rattle.shared_memory.specs.Memory.{Memory}
use Rattle.shared_memory.specs.WaitQueue.{WaitQueue, IsFree}
use Rattle.shared_memory.specs.History.{entries_of, queue_after}
use Rattle.shared_memory.specs.Legal.{IsQueueLegal}
use Rattle.shared_memory.proofs.Histories.{entries_of-append}
use Rattle.shared_memory.proofs.Soundness.{IsSound-after, few_spawned}
use Rattle.shared_memory.proofs.Standing.{first_free}
use Rattle.waiters.specs.Queue.{arg_of}
use Rattle.waiters_desk.proofs.Prefixes.{prefix_trans}
use Rattle.waiters_desk.specs.Calls.{EntersAtDesk}
use Rattle.schedule.specs.Machine.{Thread.Runs}
use Rattle.interp_machine.specs.State.{At}
use Rattle.interp_machine.specs.Program.{Program}
use Rattle.interp_trait.specs.Turns.{Running, Meaning, IsHere}
use Rattle.interp_trait.specs.declared.gate.Gate.{Ghosts}
use Rattle.spawn_host_workers.specs.Ends.{RunsOut}
use Rattle.spawn_host_workers.specs.declared.worker.WorkerEnd.{WorkerEnd}
use Rattle.spawn_host_workers.specs.OverMemory.{OverMemory}
use Rattle.spawn_host_workers.specs.Level.{Level}
use Rattle.spawn_host_workers.specs.Pairs.{AllThree}
use Rattle.spawn_host_workers.specs.Works.{Works, EndsWork}
use Rattle.spawn_host_workers.specs.Crew.{WorksFirst, IsCrew}
use Rattle.spawn_host_workers.specs.Composed.{with_report, reported, seats_of, IsReport, IsSpawnReport, IsComposed}
use Rattle.spawn_host_workers.proofs.Arguments.{arg_stays, none_comes}
use Rattle.spawn_host_workers.proofs.Home.{get_or-left, get_or-last, IsHome, come_home}

-- lists, by place

-- the first of a list is taken off
pub taken_off : {A : Type 0} (xs rest : List A) (x : A) → 0 < length xs → x ≡ get_or xs 0 x → rest ≡ take 0 xs ++ drop 1 xs → xs ≡ x ∷ rest
taken_off [] rest x some first others = absurd (omega (arith, some))
taken_off (y ∷ xs) rest x some first others = (λ i. sym first i ∷ sym others i)

three_lengths : {A B C : Type 0} (R : A → B → C → Type 0) (xs : List A) (ys : List B) (zs : List C) → AllThree R xs ys zs → length zs ≡ length ys
three_lengths R [] [] [] h = refl
three_lengths R [] [] (z ∷ zs) h = absurd h
three_lengths R [] (y ∷ ys) zs h = absurd h
three_lengths R (x ∷ xs) [] zs h = absurd h
three_lengths R (x ∷ xs) (y ∷ ys) [] h = absurd h
three_lengths R (x ∷ xs) (y ∷ ys) (z ∷ zs) h = ap suc (three_lengths R xs ys zs h.1)

three_at : {A B C : Type 0} (R : A → B → C → Type 0) (xs : List A) (ys : List B) (zs : List C) (k : ℕ) (d : A) (e : B)
    (f : C) → AllThree R xs ys zs → k < length ys
    → R (get_or xs k d) (get_or ys k e) (get_or zs k f)
three_at R [] [] [] k d e f h lt = absurd (omega (arith, lt))
three_at R [] [] (z ∷ zs) k d e f h lt = absurd h
three_at R [] (y ∷ ys) zs k d e f h lt = absurd h
three_at R (x ∷ xs) [] zs k d e f h lt = absurd h
three_at R (x ∷ xs) (y ∷ ys) [] k d e f h lt = absurd h
three_at R (x ∷ xs) (y ∷ ys) (z ∷ zs) zero d e f h lt = h.0
three_at R (x ∷ xs) (y ∷ ys) (z ∷ zs) (suc k) d e f h lt = three_at R xs ys zs k d e f h.1 (omega (arith, lt))

seats_length : {S G : Type 0} (ends : List (WorkerEnd S G)) → length (seats_of ends) ≡ length ends
seats_length [] = refl
seats_length (e ∷ ends) = ap suc (seats_length ends)

seats_at : {S G : Type 0} (ends : List (WorkerEnd S G)) (k : ℕ) (d : S) (e : WorkerEnd S G) → k < length ends
    → get_or (seats_of ends) k d ≡ WorkerEnd.seat (get_or ends k e)
seats_at [] k d e lt = absurd (omega (arith, lt))
seats_at (x ∷ ends) zero d e lt = refl
seats_at (x ∷ ends) (suc k) d e lt = seats_at ends k d e (omega (arith, lt))

got_within : (xs : List ℕ) (k arg : ℕ) → slice_get xs k ≡ Some arg → k < length xs
got_within [] k arg h = absurd (cc h)
got_within (x ∷ xs) zero arg h = omega arith
got_within (x ∷ xs) (suc k) arg h = let below = got_within xs k arg h in omega (arith, below)

none_past : (xs : List ℕ) (k : ℕ) → slice_get xs k ≡ None → length xs ≤ k
none_past [] k h = omega arith
none_past (x ∷ xs) zero h = absurd (cc h)
none_past (x ∷ xs) (suc k) h = let past = none_past xs k h in omega (arith, past)

-- the reports of those before a place, where just these have one
abbrev Placed : ℕ → ℕ → Option ThreadReport → Type 0
Placed c k None = c ≤ k
Placed c k (Some report) = k < c

placed_down : (c k : ℕ) (o : Option ThreadReport) → Placed (suc c) (suc k) o → Placed c k o
placed_down c k None h = omega (arith, h)
placed_down c k (Some report) h = omega (arith, h)

placed_zero : (k : ℕ) (o : Option ThreadReport) → Placed 0 (suc k) o → Placed 0 k o
placed_zero k None h = omega arith
placed_zero k (Some report) h = absurd (omega (arith, h))

record Counts {S G : Type 0} (ends : List (WorkerEnd S G)) (c : ℕ) : Type 0 where
  count : length (reported ends) ≡ c
  each : (k : ℕ) (d : ThreadReport) (e : WorkerEnd S G) → k < c → WorkerEnd.report (get_or ends k e) ≡ Some (get_or (reported ends) k d)

counts_one : {S G : Type 0} (x : WorkerEnd S G) (ends : List (WorkerEnd S G)) (c : ℕ) (o : Option ThreadReport)
    → x.report ≡ o → Placed (suc c) 0 o → Counts ends c → Counts (x ∷ ends) (suc c)
counts_one x ends c None is placed h = absurd (omega (arith, placed))
counts_one x ends c (Some report) is placed h =
    let list : reported (x ∷ ends) ≡ report ∷ reported ends = ap (λ o. with_report o (reported ends)) is in record {
      count = ap length list ∙ ap suc h.count;
      each = λ k d e lt. at k d e lt list;
    }
  where
    at : (k : ℕ) (d : ThreadReport) (e : _) → k < suc c → reported (x ∷ ends) ≡ report ∷ reported ends
        → WorkerEnd.report (get_or (x ∷ ends) k e) ≡ Some (get_or (reported (x ∷ ends)) k d)
    at zero d e lt list = is ∙ ap (λ l. Some (get_or l 0 d)) (sym list)
    at (suc k) d e lt list = h.each k d e (omega (arith, lt)) ∙ ap (λ l. Some (get_or l (suc k) d)) (sym list)

counts_none : {S G : Type 0} (x : WorkerEnd S G) (ends : List (WorkerEnd S G)) (o : Option ThreadReport) → x.report ≡ o
    → Placed 0 0 o → Counts ends 0 → Counts (x ∷ ends) 0
counts_none x ends None is placed h = record {
  count = ap (λ o. length (with_report o (reported ends))) is ∙ h.count;
  each = λ k d e lt. absurd (omega (arith, lt));
}
counts_none x ends (Some report) is placed h = absurd (omega (arith, placed))

counts : {S G : Type 0} (ends : List (WorkerEnd S G)) (c : ℕ) (e : WorkerEnd S G)
    → ((k : ℕ) → k < length ends → Placed c k (WorkerEnd.report (get_or ends k e))) → c ≤ length ends → Counts ends c
counts [] zero e h le = record { count = refl; each = λ k d f lt. absurd (omega (arith, lt)) }
counts [] (suc c) e h le = absurd (omega (arith, le))
counts (x ∷ ends) zero e h le =
    counts_none x ends x.report refl (h 0 (omega arith))
    (counts ends 0 e (λ k lt. placed_zero k (WorkerEnd.report (get_or ends k e)) (h (suc k) (omega (arith, lt))))
    (omega arith))
counts (x ∷ ends) (suc c) e h le =
    counts_one x ends c x.report refl (h 0 (omega arith))
    (counts ends c e (λ k lt. placed_down c k (WorkerEnd.report (get_or ends k e)) (h (suc k) (omega (arith, lt))))
    (omega (arith, le)))

-- a run up to a list that the history goes on from
module _ (loses : Bool) (opening : Memory) (limit : Option ℕ) (n : ℕ) (history : List Entry) where
  pub silent_more : (last : List Entry) (p : IsPrefix last history) → entries_of n history ≡ entries_of n last → entries_of n p.0 ≡ []
  silent_more last p owned =
      append_cancel_left (entries_of n last) (entries_of n p.0) []
      (sym (entries_of-append n last p.0) ∙ (ap (entries_of n) p.1 ∙ (owned ∙ sym (append-nil (entries_of n last)))))

  pub report_by : (p : Program) (t : Running) (fuel : ℕ) (report : ThreadReport) (begun last : List Entry)
      → entries_of n begun ≡ [] → IsPrefix last history → entries_of n history ≡ entries_of n last
      → RunsOut p loses opening limit n t report.outcome report.spent fuel begun last → IsReport loses opening limit n p t fuel report begun history
  report_by p t fuel report begun last fresh prefix owned run = record {
    last = last;
    more = prefix.0;
    fresh = fresh;
    run = run;
    list = sym prefix.1;
    silent = silent_more last prefix owned;
  }

  -- what the history says of a worker
  abbrev CaseOf : Meaning → Option ThreadReport → Type 0
  CaseOf m None = (arg_of (queue_after history) n ≡ None) × (entries_of n history ≡ [])
  CaseOf m (Some report) =
      (arg : ℕ) × (arg_of (queue_after history) n ≡ Some arg) × IsSpawnReport loses opening limit n arg m report history

  none_entered : (own before after : List Entry) → EntersAtDesk opening n own before after → before ≡ [] → own ≡ [] → entries_of n after ≡ []
  none_entered own before after e new none =
      ap (entries_of n) e.list ∙ (entries_of-append n before e.added ∙ ((λ i. entries_of n (new i) ++ e.of_caller i) ∙ none))

  case_of : (m : Meaning) (report : Option ThreadReport) (before after : List Entry) → before ≡ []
      → IsPrefix after history → entries_of n history ≡ entries_of n after → IsQueueLegal history
      → Works loses opening limit n m report before after → CaseOf m report
  case_of m None before after new prefix owned legal works =
      (none_comes after history n prefix legal works.over works.unspawned, owned ∙ none_entered [] before after works.enters new refl)
  case_of m (Some report) before after new prefix owned legal works = (
    works.arg,
    arg_stays works.begun history n works.arg (prefix_trans works.begun after history works.grows prefix) works.begins_with.spawned,
    record {
      begun = works.begun;
      spawned = works.begins_with.spawned;
      ran = λ types start begins_so.
          report_by m.program (Runs (At (start (values.I32 n ∷ values.I32 works.arg ∷ []))) m.fuel) m.fuel report works.begun after
          (none_entered [] before works.begun works.begins_with.enters new refl) prefix owned (works.ran types start begins_so);
    },
  )

  placed_of : (m : Meaning) (k : ℕ) (report : Option ThreadReport) → n ≡ suc k → CaseOf m report
      → Placed (length (WaitQueue.args (queue_after history))) k report
  placed_of m k None is h = none_past (WaitQueue.args (queue_after history)) k (subst (λ j. arg_of (queue_after history) j ≡ None) is h.0)
  placed_of m k (Some report) is h = got_within (WaitQueue.args (queue_after history)) k h.0 (subst (λ j. arg_of (queue_after history) j ≡ Some h.0) is h.1)

-- who has seen nothing yet
nothing_legal : IsQueueLegal []
unfolding IsQueueLegal
nothing_legal = tt

pub first_may_ask : {S : Type 0} (name : S → ℕ) (seen : S → List Entry) (seat : S) → name seat ≡ 0 → seen seat ≡ []
    → IsFree (queue_after (seen seat)) (name seat)
first_may_ask name seen seat named new = rw (named, new) (first_free [] refl nothing_legal)

-- the seats of thread 0, of the workers and of the desk
pub record Unpacked {S : Type 0} (seats0 : List S) (seat : S) (work : List S) (desk : S) : Type 0 where
  pub parts : seats0 ≡ (seat ∷ work) ++ desk ∷ []
  pub len : length work ≡ MOST_SPAWNED

pub unpacked : {S : Type 0} (seats0 popped work : List S) (seat desk : S) → seats0 ≡ popped ++ desk ∷ []
    → length popped ≡ MOST_THREADS → seat ≡ get_or popped 0 seat
    → work ≡ take 0 popped ++ drop 1 popped
    → Unpacked seats0 seat work desk
unpacked seats0 popped work seat desk popped_off len first others =
    let off : popped ≡ seat ∷ work = taken_off popped work seat (omega (arith, len)) first others in
    let count : length popped ≡ suc (length work) = ap length off in
    record { parts = popped_off ∙ ap (λ w. w ++ desk ∷ []) off; len = omega (arith, len, count) }

-- a seat of the desk that has seen nothing
pub record IsDeskSeat {S : Type 0} (name : S → ℕ) (right : S → Bool) (seen : S → List Entry) (desk : S) : Type 0 where
  pub named : name desk ≡ DESK_NAME
  pub may_ask : right desk ≡ true
  pub fresh : seen desk ≡ []

module _ {S : Type 0} (name : S → ℕ) (seen : S → List Entry) (seats0 : List S) (seat : S) (work : List S) (desk : S) (u : Unpacked seats0 seat work desk)
    (names : (k : ℕ) (d : S) → k < SEATS → name (get_or seats0 k d) ≡ k) (fresh : (k : ℕ) (d : S) → k < SEATS → seen (get_or seats0 k d) ≡ []) where
  pub first_name : name seat ≡ 0
  first_name = ap (λ l. name (get_or l 0 desk)) (sym u.parts) ∙ names 0 desk (omega arith)

  pub first_new : seen seat ≡ []
  first_new = ap (λ l. seen (get_or l 0 desk)) (sym u.parts) ∙ fresh 0 desk (omega arith)

  work_is : (k : ℕ) (d : S) → k < length work → get_or seats0 (suc k) d ≡ get_or work k d
  work_is k d lt = ap (λ l. get_or l (suc k) d) u.parts ∙ get_or-left work desk k d lt

  pub work_name : (k : ℕ) (d : S) → k < length work → name (get_or work k d) ≡ suc k
  work_name k d lt = ap name (sym (work_is k d lt)) ∙ names (suc k) d (omega (arith, lt, u.len))

  pub work_new : (k : ℕ) (d : S) → k < length work → seen (get_or work k d) ≡ []
  work_new k d lt = ap seen (sym (work_is k d lt)) ∙ fresh (suc k) d (omega (arith, lt, u.len))

  pub lead_may_ask : IsFree (queue_after (seen seat)) (name seat)
  lead_may_ask = first_may_ask name seen seat first_name first_new

  pub workers_new : All (λ s. entries_of (name s) (seen s) ≡ []) work
  workers_new k d lt = ap (entries_of (name (get_or work k d))) (work_new k d lt)

  pub desk_is : (d : S) → get_or seats0 DESK_NAME d ≡ desk
  desk_is d =
      ap (λ l. get_or l DESK_NAME d) u.parts
      ∙ subst (λ (k : ℕ). get_or ((seat ∷ work) ++ desk ∷ []) k d ≡ desk) (ap suc u.len)
      (get_or-last (seat ∷ work) desk d)

  pub desk_new : (right : S → Bool) → ((d : S) → right (get_or seats0 DESK_NAME d) ≡ true) → IsDeskSeat name right seen desk
  desk_new right may_ask = record {
    named = ap name (sym (desk_is desk)) ∙ names DESK_NAME desk (omega arith);
    may_ask = ap right (sym (desk_is desk)) ∙ may_ask desk;
    fresh = ap seen (sym (desk_is desk)) ∙ fresh DESK_NAME desk (omega arith);
  }

-- what the first thread's report says
abbrev LeadsTo : {T : Type 0} → Bool → Memory → Option ℕ → (T → Meaning) → T → List ThreadReport → List Entry → Type 0
LeadsTo {T = T} loses opening limit meaning first threads history =
    (d : ThreadReport) (t : Running) → (meaning first).stands t → IsHere t
    → IsReport loses opening limit 0 (meaning first).program t (meaning first).fuel (get_or threads 0 d) [] history

first_case : {T : Type 0} (loses : Bool) (opening : Memory) (limit : Option ℕ) (meaning : T → Meaning) (first : T) (report : Option ThreadReport)
    (others : List ThreadReport) (before last history : List Entry) → before ≡ [] → IsPrefix last history → entries_of 0 history ≡ entries_of 0 last
    → WorksFirst loses opening limit 0 (meaning first) report before last
    → LeadsTo loses opening limit meaning first (with_report report others) history × (length (with_report report others) ≡ suc (length others))
    × ((k : ℕ) (d : ThreadReport) → get_or (with_report report others) (suc k) d ≡ get_or others k d)
first_case loses opening limit meaning first None others before last history new prefix owned works = absurd works
first_case loses opening limit meaning first (Some report) others before last history new prefix owned works = (
  (λ d t stands_so here.
      report_by loses opening limit 0 history (meaning first).program t (meaning first).fuel report [] last refl prefix owned
      (subst (λ b. RunsOut (meaning first).program loses opening limit 0 t report.outcome report.spent
      (meaning first).fuel b last) new (works.ran t stands_so here))),
  refl,
  (λ k d. refl),
)

module _
    {S T G : Type 0} (mem : OverMemory S) (gate : Ghosts G) (old : G) (right : S → Bool) (meaning : T → Meaning) (first : T) (spawned : List T)
    (seats0 : List S) (seat desk : S) (work : List S) (hub : S) (ends : List (WorkerEnd S G)) (threads : List ThreadReport) (all : List S)
    (parts : seats0 ≡ (seat ∷ work) ++ desk ∷ []) (len : length work ≡ MOST_SPAWNED)
    (names : (k : ℕ) (d : S) → k < SEATS → mem.name (get_or seats0 k d) ≡ k) (fresh : (k : ℕ) (d : S) → k < SEATS → mem.seen (get_or seats0 k d) ≡ [])
    (crew : IsCrew mem gate old meaning first seat spawned work ends)
    (threads_are : threads ≡ reported ends) (hub' : S) (home home' : List S) (home_is : home ≡ seats_of ends)
    (all_are : all ≡ home' ++ hub' ∷ []) (level : Level mem.opening mem.name right mem.seen hub hub' home home')
    (legal : IsQueueLegal (mem.seen hub)) (hub_name : mem.name hub ≡ DESK_NAME) (hub_silent : entries_of DESK_NAME (mem.seen hub) ≡ []) where
  abbrev history : List Entry
  history = mem.seen hub'

  len_others : length crew.others ≡ MOST_SPAWNED
  len_others = three_lengths (EndsWork mem gate old meaning) spawned work crew.others crew.worked ∙ len

  home_parts : home ≡ WorkerEnd.seat crew.head ∷ seats_of crew.others
  home_parts = home_is ∙ ap (λ (l : List (WorkerEnd S G)). seats_of l) crew.parts

  len_home : length home ≡ MOST_THREADS
  len_home = ap length home_parts ∙ ap suc (seats_length crew.others ∙ len_others)

  places : Unpacked seats0 seat work desk
  places = record { parts = parts; len = len }

  seat_name : mem.name seat ≡ 0
  seat_name = first_name mem.name mem.seen seats0 seat work desk places names fresh

  seat_fresh : mem.seen seat ≡ []
  seat_fresh = first_new mem.name mem.seen seats0 seat work desk places names fresh

  name_of_work : (k : ℕ) → k < MOST_SPAWNED → mem.name (get_or work k desk) ≡ suc k
  name_of_work k lt = work_name mem.name mem.seen seats0 seat work desk places names fresh k desk (omega (arith, len, lt))

  work_fresh : (k : ℕ) → k < MOST_SPAWNED → mem.seen (get_or work k desk) ≡ []
  work_fresh k lt = work_new mem.name mem.seen seats0 seat work desk places names fresh k desk (omega (arith, len, lt))

  worker : (k : ℕ) (e : T) → k < MOST_SPAWNED
      → EndsWork mem gate old meaning (get_or spawned k e) (get_or work k desk)
      (get_or crew.others k crew.head)
  worker k e lt = three_at (EndsWork mem gate old meaning) spawned work crew.others k e desk crew.head crew.worked (omega (arith, len, lt))

  end_seat : (k : ℕ) → k < MOST_SPAWNED → get_or home (suc k) desk ≡ WorkerEnd.seat (get_or crew.others k crew.head)
  end_seat k lt = ap (λ l. get_or l (suc k) desk) home_parts ∙ seats_at crew.others k desk crew.head (omega (arith, len_others, lt))

  home_name : (k : ℕ) → k < MOST_THREADS → mem.name (get_or home k desk) ≡ k
  home_name zero lt = ap (λ l. mem.name (get_or l 0 desk)) home_parts ∙ (crew.ended.name_is ∙ seat_name)
  home_name (suc k) lt =
      let below : k < MOST_SPAWNED = omega (arith, lt) in
      ap mem.name (end_seat k below) ∙ ((worker k first below).name_is ∙ name_of_work k below)

  came : IsHome mem.opening mem.name mem.seen desk home all history
  came = come_home mem.opening mem.name right mem.seen desk hub hub' home home' all len_home home_name all_are level legal hub_name hub_silent

  owned : (k : ℕ) → k < MOST_THREADS → entries_of k history ≡ entries_of k (mem.seen (get_or home k desk))
  owned = came.owned

  holds : (k : ℕ) → k < MOST_THREADS → IsPrefix (mem.seen (get_or home k desk)) history
  holds = came.holds

  queue : IsQueueLegal history
  queue = came.queue

  worker_case : (k : ℕ) (e : T) → k < MOST_SPAWNED
      → CaseOf mem.loses mem.opening mem.limit (suc k) history (meaning (get_or spawned k e)) (WorkerEnd.report (get_or crew.others k crew.head))
  worker_case k e lt =
      let w = worker k e lt in
      let up : suc k < MOST_THREADS = omega (arith, lt) in
      let works = rw (name_of_work k lt) at w.works in
      case_of mem.loses mem.opening mem.limit (suc k) history (meaning (get_or spawned k e)) (WorkerEnd.report (get_or crew.others k crew.head))
      (mem.seen (get_or work k desk)) (mem.seen (WorkerEnd.seat (get_or crew.others k crew.head))) (work_fresh k lt)
      (subst (λ s. IsPrefix (mem.seen s) history) (end_seat k lt) (holds (suc k) up))
      (owned (suc k) up ∙ ap (λ s. entries_of (suc k) (mem.seen s)) (end_seat k lt)) queue works

  abbrev spawns : ℕ
  spawns = length (WaitQueue.args (queue_after history))

  few : spawns ≤ MOST_SPAWNED
  few = few_spawned (queue_after history) (IsSound-after history queue)

  counted : Counts crew.others spawns
  counted =
      counts crew.others spawns crew.head
      (λ k lt. let below : k < MOST_SPAWNED = omega (arith, len_others, lt) in
      placed_of mem.loses mem.opening mem.limit (suc k) history (meaning (get_or spawned k first)) k
      (WorkerEnd.report (get_or crew.others k crew.head)) refl (worker_case k first below))
      (omega (arith, few, len_others))

  threads_list : threads ≡ with_report (WorkerEnd.report crew.head) (reported crew.others)
  threads_list = threads_are ∙ ap (λ (l : List (WorkerEnd S G)). reported l) crew.parts

  head_case : LeadsTo mem.loses mem.opening mem.limit meaning first (with_report (WorkerEnd.report crew.head) (reported crew.others)) history
      × (length (with_report (WorkerEnd.report crew.head) (reported crew.others)) ≡ suc (length (reported crew.others)))
      × ((k : ℕ) (d : ThreadReport) → get_or (with_report (WorkerEnd.report crew.head) (reported crew.others)) (suc k) d ≡ get_or (reported crew.others) k d)
  head_case =
      let zeroth : 0 < MOST_THREADS = omega arith in
      let head_is : get_or home 0 desk ≡ WorkerEnd.seat crew.head = ap (λ l. get_or l 0 desk) home_parts in
      let works = rw seat_name at crew.ended.works in
      first_case mem.loses mem.opening mem.limit meaning first (WorkerEnd.report crew.head) (reported crew.others) (mem.seen seat)
      (mem.seen (WorkerEnd.seat crew.head)) history seat_fresh
      (subst (λ s. IsPrefix (mem.seen s) history) head_is (holds 0 zeroth)) (owned 0 zeroth ∙ ap (λ s. entries_of 0 (mem.seen s)) head_is) works

  silent_by : (k : ℕ) (o : Option ThreadReport) (e : T) → arg_of (queue_after history) (suc k) ≡ None
      → CaseOf mem.loses mem.opening mem.limit (suc k) history (meaning (get_or spawned k e)) o → entries_of (suc k) history ≡ []
  silent_by k None e none h = h.1
  silent_by k (Some report) e none h = absurd (cc (none, h.1))

  silent : (n : ℕ) → n ≤ DESK_NAME → n ≢ 0 → arg_of (queue_after history) n ≡ None → entries_of n history ≡ []
  silent zero le some none = absurd (some refl)
  silent (suc k) le some none = elim (below_or k le) [
    | inl lt ↦ silent_by k (WorkerEnd.report (get_or crew.others k crew.head)) first none (worker_case k first lt)
    | inr is ↦ subst (λ j. entries_of (suc j) history ≡ []) (sym is) came.desk
  ]
    where
      below_or : (k : ℕ) → suc k ≤ MOST_THREADS → (k < MOST_SPAWNED) ⊎ (k ≡ MOST_SPAWNED)
      below_or k le = elim (cases_lt k MOST_SPAWNED) [ inl lt ↦ inl (omega (arith, lt)) | inr past ↦ inr (omega (arith, le, past)) ]

  works_by : (k arg : ℕ) (e : T) (o : Option ThreadReport) (report : ThreadReport) → o ≡ Some report → arg_of (queue_after history) (suc k) ≡ Some arg
      → CaseOf mem.loses mem.opening mem.limit (suc k) history (meaning (get_or spawned k e)) o
      → IsSpawnReport mem.loses mem.opening mem.limit (suc k) arg (meaning (get_or spawned k e)) report history
  works_by k arg e None report is has h = absurd (cc is)
  works_by k arg e (Some r) report is has h =
      let same : h.0 ≡ arg = cc (h.1, has) in
      let same_report : r ≡ report = cc is in
      subst (λ x. IsSpawnReport mem.loses mem.opening mem.limit (suc k) arg (meaning (get_or spawned k e)) x history) same_report
      (subst (λ a. IsSpawnReport mem.loses mem.opening mem.limit (suc k) a (meaning (get_or spawned k e)) r history) same h.2)

  works : (k arg : ℕ) (d : ThreadReport) (e : T) → arg_of (queue_after history) (suc k) ≡ Some arg
      → IsSpawnReport mem.loses mem.opening mem.limit (suc k) arg (meaning (get_or spawned k e)) (get_or threads (suc k) d) history
  works k arg d e has =
      let placed : k < spawns = got_within (WaitQueue.args (queue_after history)) k arg has in
      let below : k < MOST_SPAWNED = omega (arith, placed, few) in
      let at : get_or threads (suc k) d ≡ get_or (reported crew.others) k d = ap (λ l. get_or l (suc k) d) threads_list ∙ head_case.2 k d in
      subst (λ x. IsSpawnReport mem.loses mem.opening mem.limit (suc k) arg (meaning (get_or spawned k e)) x history) (sym at)
      (works_by k arg e (WorkerEnd.report (get_or crew.others k crew.head)) (get_or (reported crew.others) k d)
      (counted.each k d crew.head placed) has (worker_case k e below))

  pub composed : IsComposed mem meaning first spawned threads all
  composed = record {
    history = history;
    len = came.len;
    names = came.names;
    seen_by = came.seen_by;
    legal = came.legal;
    queue = queue;
    silent = silent;
    count = ap length threads_list ∙ (head_case.1 ∙ (let e = counted.count in omega (arith, e)));
    leads = λ d t stands_so here. subst (λ l. IsReport mem.loses mem.opening mem.limit 0 (meaning first).program t
        (meaning first).fuel (get_or l 0 d) [] history) (sym threads_list)
        (head_case.0 d t stands_so here);
    works = works;
  }

pub crew_length : {S T G : Type 0} (mem : OverMemory S) (gate : Ghosts G) (old : G) (meaning : T → Meaning) (first : T) (seat : S) (spawned : List T)
    (work : List S) (ends : List (WorkerEnd S G)) → IsCrew mem gate old meaning first seat spawned work ends → length ends ≡ suc (length work)
crew_length mem gate old meaning first seat spawned work ends crew =
    ap length crew.parts ∙ ap suc (three_lengths (EndsWork mem gate old meaning) spawned work crew.others crew.worked)
