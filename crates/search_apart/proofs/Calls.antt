-- What a thread's event makes of the wait queue, and what that leaves of another thread's.
use Rattle.std.proofs.Common.{◌≡◌, ◌≢◌, ℕ, ℤ, ◌+◌, ◌<◌, ◌⊎◌, inl, inr, ◌==◌, Bool, true, false, true≢false, not, List, [], ◌∷◌, ◌++◌}
use Rattle.std.proofs.Common.{length, take, Option, Some, None, refl, sym, ap, ◌∙◌, subst, cond, arith, replicate}
use Rattle.std.proofs.Common.{get_or, set, get_or-set_other, length-set, length-append}
use Rattle.std.specs.Prelude.{◌&&◌, ◌||◌, nat_lt, nat_le, if◌then◌else◌}
use Rattle.std.specs.List.{filter, list_all}
use Rattle.std.proofs.lemmas.Bool.{cases_Bool, or_left, or_from, and_cases, and_parts, both_ways, eqb-false, eq-eqb, ne_eqb}
use Rattle.std.proofs.lemmas.Bool.{cond_both, ltb-true, false_from_ne_true, cases_eq}
use Rattle.std.proofs.lemmas.List.{length-replicate}
use Rattle.std.proofs.lemmas.List.Elements.{filter-append}
use Rattle.std.proofs.lemmas.List.Folds.{list_any-append}
use Rattle.types.specs.declared.event.Event.{Event}
use Rattle.types.specs.declared.event.Event.TheVariants as events
use Rattle.types.specs.declared.event.Question.TheVariants.{Wait, Notify, Spawn, Leave}
use Rattle.types.specs.declared.event.Answer.{Answer}
use Rattle.types.specs.declared.event.Answer.TheVariants.{Number}
use Rattle.types.specs.declared.event.Reply.TheVariants as replies
use Rattle.shared_memory.specs.declared.sleeper.Sleeper.{Sleeper}
use Rattle.shared_memory.specs.Memory.{Memory, loaded, if_within, reply_of}
use Rattle.shared_memory.specs.WaitQueue.{WaitQueue, is_alive, is_among, is_asleep, answer_due, next_id, has_slot}
use Rattle.shared_memory.specs.WaitQueue.{tells, due_after, wakes, sleeps, starts, leaves, woken_at}
use Rattle.shared_memory.specs.WaitQueue.{ends_at_once, ended, end_answer, is_stuck, settled, after_question, IsFree}
use Rattle.shared_memory.specs.History.{queue_step}
use Rattle.shared_memory.specs.Sound.{SleepOnce, IsSound}
use Rattle.shared_memory.proofs.Sleepers.{list_any-filter, list_any-take, list_any-filtered, others_than}
use Rattle.shared_memory.proofs.Sleepers.{others_than-other, length-due_after, due_after-other, due_after-woken}
use Rattle.shared_memory.proofs.Soundness.{IsSound-tells, IsSound-wakes, IsSound-sleeps, IsSound-starts, IsSound-leaves, alive_but, has_place}
use Rattle.shared_memory.proofs.Woken.{ended_sleeps, woken_sleeps}
use Rattle.shared_memory.proofs.Settling.{awake_unstuck}
use Rattle.schedule_threads.specs.Shared.{without_dues}
use Rattle.schedule_runs.proofs.Dues.{none_due}
use Rattle.schedule_runs.proofs.Places.{IsSound-without}
use Rattle.search_apart.specs.Turning.{sleepers_at, AreAlikeQueues}
use Rattle.search_apart.proofs.Sleepers.{AreAlikeSleepers, any-alike, filter-swap, ended-alike, answer-alike}
use Rattle.search_apart.proofs.Sleepers.{others-at, others-agree, one-address, left-there, slept-there}

-- The queue rests; its thread is answered at once; it falls asleep at an address with a timeout; it notifies there; it
-- starts a thread, which is told its argument; or it leaves.
pub data Call : Type 0 where
  Rests : Call
  Tells : Answer → Call
  Sleeps : ℕ → ℤ → Call
  Wakes : ℕ → ℕ → Call
  Begins : ℕ → Call
  Quits : Call

abbrev pub applied : ℕ → WaitQueue → Call → WaitQueue
applied n q Rests = q
applied n q (Tells a) = tells n a q
applied n q (Sleeps addr timeout) = sleeps (record { thread = n; addr = addr; timeout = timeout }) q
applied n q (Wakes addr count) =
    tells n (Number (length (woken_at addr count q.sleepers))) (wakes (woken_at addr count q.sleepers) (Number 0) q)
applied n q (Begins arg) = tells n (Number (next_id q)) (starts arg q)
applied n q Quits = tells n (Number 0) (leaves n q)

abbrev pub is_at : Call → ℕ → Bool
is_at Rests x = false
is_at (Tells a) x = false
is_at (Sleeps addr timeout) x = addr == x
is_at (Wakes addr count) x = addr == x
is_at (Begins arg) x = false
is_at Quits x = false

abbrev pub begins : Call → Bool
begins Rests = false
begins (Tells a) = false
begins (Sleeps addr timeout) = false
begins (Wakes addr count) = false
begins (Begins arg) = true
begins Quits = false

-- They are at two addresses, if each is at one, and only one starts a thread.
pub record AreClearCalls (c d : Call) : Type 0 where
  pub at : (x : ℕ) → is_at c x ≡ true → is_at d x ≡ false
  pub back : (x : ℕ) → is_at d x ≡ true → is_at c x ≡ false
  pub begin : begins c ≡ true → begins d ≡ false
  pub begin_back : begins d ≡ true → begins c ≡ false

pub clear-back : (c d : Call) → AreClearCalls c d → AreClearCalls d c
clear-back c d h = record { at = h.back; back = h.at; begin = h.begin_back; begin_back = h.begin }

-- ---- Part by part

abbrev alive_by : ℕ → ℕ → Call → List ℕ → List ℕ
alive_by n next Rests xs = xs
alive_by n next (Tells a) xs = xs
alive_by n next (Sleeps addr timeout) xs = xs
alive_by n next (Wakes addr count) xs = xs
alive_by n next (Begins arg) xs = xs ++ next ∷ []
alive_by n next Quits xs = filter (λ m. not (m == n)) xs

abbrev pub woken_by : Call → List Sleeper → List Sleeper
woken_by Rests xs = []
woken_by (Tells a) xs = []
woken_by (Sleeps addr timeout) xs = []
woken_by (Wakes addr count) xs = woken_at addr count xs
woken_by (Begins arg) xs = []
woken_by Quits xs = []

abbrev pub sleepers_by : ℕ → Call → List Sleeper → List Sleeper
sleepers_by n Rests xs = xs
sleepers_by n (Tells a) xs = xs
sleepers_by n (Sleeps addr timeout) xs = xs ++ record { thread = n; addr = addr; timeout = timeout } ∷ []
sleepers_by n (Wakes addr count) xs = others_than (woken_at addr count xs) xs
sleepers_by n (Begins arg) xs = xs
sleepers_by n Quits xs = xs

abbrev args_by : Call → List ℕ → List ℕ
args_by Rests xs = xs
args_by (Tells a) xs = xs
args_by (Sleeps addr timeout) xs = xs
args_by (Wakes addr count) xs = xs
args_by (Begins arg) xs = xs ++ arg ∷ []
args_by Quits xs = xs

applied-alive : (n : ℕ) (q : WaitQueue) (c : Call) → (applied n q c).alive ≡ alive_by n (next_id q) c q.alive
applied-alive n q Rests = refl
applied-alive n q (Tells a) = refl
applied-alive n q (Sleeps addr timeout) = refl
applied-alive n q (Wakes addr count) = refl
applied-alive n q (Begins arg) = refl
applied-alive n q Quits = refl

pub applied-sleepers : (n : ℕ) (q : WaitQueue) (c : Call) → (applied n q c).sleepers ≡ sleepers_by n c q.sleepers
applied-sleepers n q Rests = refl
applied-sleepers n q (Tells a) = refl
applied-sleepers n q (Sleeps addr timeout) = refl
applied-sleepers n q (Wakes addr count) = refl
applied-sleepers n q (Begins arg) = refl
applied-sleepers n q Quits = refl

applied-args : (n : ℕ) (q : WaitQueue) (c : Call) → (applied n q c).args ≡ args_by c q.args
applied-args n q Rests = refl
applied-args n q (Tells a) = refl
applied-args n q (Sleeps addr timeout) = refl
applied-args n q (Wakes addr count) = refl
applied-args n q (Begins arg) = refl
applied-args n q Quits = refl

pub applied-long : (n : ℕ) (q : WaitQueue) (c : Call) → length (applied n q c).due ≡ length q.due
applied-long n q Rests = refl
applied-long n q (Tells a) = length-set q.due n (Some a)
applied-long n q (Sleeps addr timeout) = refl
applied-long n q (Wakes addr count) =
    length-set (due_after (woken_at addr count q.sleepers) (Number 0) q.due) n (Some (Number (length (woken_at addr count q.sleepers))))
    ∙ length-due_after (woken_at addr count q.sleepers) (Number 0) q.due
applied-long n q (Begins arg) = length-set q.due n (Some (Number (next_id q)))
applied-long n q Quits = length-set q.due n (Some (Number 0))

args-stay : (c : Call) (xs : List ℕ) → begins c ≡ false → args_by c xs ≡ xs
args-stay Rests xs h = refl
args-stay (Tells a) xs h = refl
args-stay (Sleeps addr timeout) xs h = refl
args-stay (Wakes addr count) xs h = refl
args-stay (Begins arg) xs h = absurd (true≢false h)
args-stay Quits xs h = refl

pub next-stays : (n : ℕ) (q : WaitQueue) (c : Call) → begins c ≡ false → next_id (applied n q c) ≡ next_id q
next-stays n q c h = ap (λ xs. length xs + 1) (applied-args n q c ∙ args-stay c q.args h)

-- ---- Sleepers

-- a call leaves the sleepers of another address
leaves-at : (n : ℕ) (c : Call) (x : ℕ) (xs : List Sleeper) → SleepOnce xs → is_at c x ≡ false → sleepers_at x (sleepers_by n c xs) ≡ sleepers_at x xs
leaves-at n Rests x xs once h = refl
leaves-at n (Tells a) x xs once h = refl
leaves-at n (Sleeps addr timeout) x xs once h = slept-there (record { thread = n; addr = addr; timeout = timeout }) x xs (eqb-false addr x h)
leaves-at n (Wakes addr count) x xs once h = left-there addr count x xs once (eqb-false addr x h)
leaves-at n (Begins arg) x xs once h = refl
leaves-at n Quits x xs once h = refl

-- and makes the same of the same
makes-at : (n : ℕ) (c : Call) (x : ℕ) (xs ys : List Sleeper) → ((a : ℕ) → is_at c a ≡ true → sleepers_at a xs ≡ sleepers_at a ys)
    → sleepers_at x xs ≡ sleepers_at x ys → sleepers_at x (sleepers_by n c xs) ≡ sleepers_at x (sleepers_by n c ys)
makes-at n Rests x xs ys own h = h
makes-at n (Tells a) x xs ys own h = h
makes-at n (Sleeps addr timeout) x xs ys own h =
    let s : Sleeper = record { thread = n; addr = addr; timeout = timeout } in
    filter-append (λ (t : Sleeper). t.addr == x) xs (s ∷ [])
    ∙ (ap (λ w. w ++ sleepers_at x (s ∷ [])) h ∙ sym (filter-append (λ (t : Sleeper). t.addr == x) ys (s ∷ [])))
makes-at n (Wakes addr count) x xs ys own h =
    others-at x (woken_at addr count xs) xs
    ∙ (ap (λ w. others_than (take count w) (sleepers_at x xs)) (own addr (eq-eqb addr addr refl))
    ∙ (ap (others_than (woken_at addr count ys)) h ∙ sym (others-at x (woken_at addr count ys) ys)))
makes-at n (Begins arg) x xs ys own h = h
makes-at n Quits x xs ys own h = h

pub alike-by : (n : ℕ) (c : Call) (xs ys : List Sleeper) → AreAlikeSleepers xs ys → AreAlikeSleepers (sleepers_by n c xs) (sleepers_by n c ys)
alike-by n c xs ys alike x = makes-at n c x xs ys (λ a at. alike a) (alike x)

swap-sleepers : (n u : ℕ) (c d : Call) (xs : List Sleeper) → AreClearCalls c d → SleepOnce xs → SleepOnce (sleepers_by u c xs) → SleepOnce (sleepers_by n d xs)
    → AreAlikeSleepers (sleepers_by n d (sleepers_by u c xs)) (sleepers_by u c (sleepers_by n d xs))
swap-sleepers n u c d xs clear once once_c once_d x = elim (cases_Bool (is_at c x)) [
  | inr apart ↦ makes-at n d x (sleepers_by u c xs) xs (λ a at. leaves-at u c a xs once (clear.back a at)) (leaves-at u c x xs once apart)
      ∙ sym (leaves-at u c x (sleepers_by n d xs) once_d apart)
  | inl at ↦ leaves-at n d x (sleepers_by u c xs) once_c (clear.at x at)
      ∙ sym (makes-at u c x (sleepers_by n d xs) xs (λ a here. leaves-at n d a xs once (clear.at a here)) (leaves-at n d x xs once (clear.at x at)))
]

-- whoever isn't woken and doesn't call sleeps as before
pub among-stays : (k u x : ℕ) (c : Call) (xs : List Sleeper) → u ≢ k → is_among k (woken_by c xs) ≡ false
    → is_among k (sleepers_at x (sleepers_by u c xs)) ≡ is_among k (sleepers_at x xs)
among-stays k u x Rests xs apart h = refl
among-stays k u x (Tells a) xs apart h = refl
among-stays k u x (Sleeps addr timeout) xs apart h =
    let s : Sleeper = record { thread = u; addr = addr; timeout = timeout } in
    ap (is_among k) (filter-append (λ (t : Sleeper). t.addr == x) xs (s ∷ []))
    ∙ (list_any-append (λ (t : Sleeper). t.thread == k) (sleepers_at x xs) (sleepers_at x (s ∷ []))
    ∙ (ap (λ w. is_among k (sleepers_at x xs) || w)
    (cond_both (addr == x) (s ∷ []) [] (λ w. is_among k w ≡ false) (λ e. or_from (u == k) false (ne_eqb u k apart) refl) (λ e. refl))
    ∙ or-none (is_among k (sleepers_at x xs))))
  where
    or-none : (b : Bool) → (b || false) ≡ b
    or-none true = refl
    or-none false = refl
among-stays k u x (Wakes addr count) xs apart h =
    ap (is_among k) (others-at x (woken_at addr count xs) xs) ∙ others_than-other k (woken_at addr count xs) (sleepers_at x xs) h
among-stays k u x (Begins arg) xs apart h = refl
among-stays k u x Quits xs apart h = refl

-- who is woken sleeps at the call's address
woken-there : (k : ℕ) (c : Call) (xs : List Sleeper) → is_among k (woken_by c xs) ≡ true → (x : ℕ) × (is_at c x ≡ true) × (is_among k (sleepers_at x xs) ≡ true)
woken-there k Rests xs h = absurd (true≢false (sym h))
woken-there k (Tells a) xs h = absurd (true≢false (sym h))
woken-there k (Sleeps addr timeout) xs h = absurd (true≢false (sym h))
woken-there k (Wakes addr count) xs h =
    (addr, eq-eqb addr addr refl, list_any-take (λ (s : Sleeper). s.thread == k) count (sleepers_at addr xs) h)
woken-there k (Begins arg) xs h = absurd (true≢false (sym h))
woken-there k Quits xs h = absurd (true≢false (sym h))

pub woken-asleep : (k : ℕ) (c : Call) (xs : List Sleeper) → is_among k xs ≡ false → is_among k (woken_by c xs) ≡ false
woken-asleep k c xs h = false_from_ne_true (is_among k (woken_by c xs)) (λ is.
    (let w = woken-there k c xs is in
    both_ways (is_among k xs) h (list_any-filtered (λ (s : Sleeper). s.addr == w.0) (λ (s : Sleeper). s.thread == k) xs w.2)))

-- two clear calls wake nobody both
woken-once : (k : ℕ) (c d : Call) (xs : List Sleeper) → AreClearCalls c d → SleepOnce xs → is_among k (woken_by d xs) ≡ true
    → is_among k (woken_by c xs) ≡ false
woken-once k c d xs clear once h = false_from_ne_true (is_among k (woken_by c xs)) (λ is.
    (let v = woken-there k d xs h in
    let w = woken-there k c xs is in
    let same : v.0 ≡ w.0 = one-address k v.0 w.0 xs once v.2 w.2 in
    both_ways (is_at d w.0) (clear.at w.0 w.1) (subst (λ y. is_at d y ≡ true) same v.1)))

-- ---- Who is alive

alive-next : (n a b : ℕ) (c : Call) (xs : List ℕ) → (begins c ≡ true → a ≡ b) → alive_by n a c xs ≡ alive_by n b c xs
alive-next n a b Rests xs h = refl
alive-next n a b (Tells x) xs h = refl
alive-next n a b (Sleeps addr timeout) xs h = refl
alive-next n a b (Wakes addr count) xs h = refl
alive-next n a b (Begins arg) xs h = ap (λ y. xs ++ y ∷ []) (h refl)
alive-next n a b Quits xs h = refl

alive-left : (u next : ℕ) (xs : List ℕ) → u ≢ next → filter (λ m. not (m == u)) (xs ++ next ∷ []) ≡ filter (λ m. not (m == u)) xs ++ next ∷ []
alive-left u next xs apart =
    filter-append (λ m. not (m == u)) xs (next ∷ [])
    ∙ ap (λ t. filter (λ m. not (m == u)) xs ++ cond (not t) (next ∷ []) []) (ne_eqb next u (λ e. apart (sym e)))

swap-alive : (n u next next_c next_d : ℕ) (c d : Call) (xs : List ℕ) → AreClearCalls c d → n ≢ next → u ≢ next
    → (begins d ≡ true → next_c ≡ next) → (begins c ≡ true → next_d ≡ next)
    → alive_by n next_c d (alive_by u next c xs) ≡ alive_by u next_d c (alive_by n next d xs)
swap-alive n u next next_c next_d Rests d xs clear an au hc hd = alive-next n next_c next d xs hc
swap-alive n u next next_c next_d (Tells a) d xs clear an au hc hd = alive-next n next_c next d xs hc
swap-alive n u next next_c next_d (Sleeps addr timeout) d xs clear an au hc hd = alive-next n next_c next d xs hc
swap-alive n u next next_c next_d (Wakes addr count) d xs clear an au hc hd = alive-next n next_c next d xs hc
swap-alive n u next next_c next_d (Begins arg) Rests xs clear an au hc hd = ap (λ y. xs ++ y ∷ []) (sym (hd refl))
swap-alive n u next next_c next_d (Begins arg) (Tells a) xs clear an au hc hd = ap (λ y. xs ++ y ∷ []) (sym (hd refl))
swap-alive n u next next_c next_d (Begins arg) (Sleeps addr timeout) xs clear an au hc hd = ap (λ y. xs ++ y ∷ []) (sym (hd refl))
swap-alive n u next next_c next_d (Begins arg) (Wakes addr count) xs clear an au hc hd = ap (λ y. xs ++ y ∷ []) (sym (hd refl))
swap-alive n u next next_c next_d (Begins arg) (Begins other) xs clear an au hc hd = absurd (true≢false (clear.begin refl))
swap-alive n u next next_c next_d (Begins arg) Quits xs clear an au hc hd =
    alive-left n next xs an ∙ ap (λ y. filter (λ m. not (m == n)) xs ++ y ∷ []) (sym (hd refl))
swap-alive n u next next_c next_d Quits Rests xs clear an au hc hd = refl
swap-alive n u next next_c next_d Quits (Tells a) xs clear an au hc hd = refl
swap-alive n u next next_c next_d Quits (Sleeps addr timeout) xs clear an au hc hd = refl
swap-alive n u next next_c next_d Quits (Wakes addr count) xs clear an au hc hd = refl
swap-alive n u next next_c next_d Quits (Begins arg) xs clear an au hc hd =
    ap (λ y. filter (λ m. not (m == u)) xs ++ y ∷ []) (hc refl) ∙ sym (alive-left u next xs au)
swap-alive n u next next_c next_d Quits Quits xs clear an au hc hd = filter-swap (λ m. not (m == n)) (λ m. not (m == u)) xs

swap-args : (c d : Call) (xs : List ℕ) → AreClearCalls c d → args_by d (args_by c xs) ≡ args_by c (args_by d xs)
swap-args c d xs clear = elim (cases_Bool (begins c)) [
  | inl is ↦ args-stay d (args_by c xs) (clear.begin is) ∙ ap (args_by c) (sym (args-stay d xs (clear.begin is)))
  | inr isnt ↦ ap (args_by d) (args-stay c xs isnt) ∙ sym (args-stay c (args_by d xs) isnt)
]

-- ---- Answers due

-- the same of the same
applied-due : (n : ℕ) (p q : WaitQueue) (c : Call) → p.due ≡ q.due → ((a : ℕ) → is_at c a ≡ true → sleepers_at a p.sleepers ≡ sleepers_at a q.sleepers)
    → (begins c ≡ true → next_id p ≡ next_id q) → (applied n p c).due ≡ (applied n q c).due
applied-due n p q Rests h at next = h
applied-due n p q (Tells a) h at next = ap (λ w. set w n (Some a)) h
applied-due n p q (Sleeps addr timeout) h at next = h
applied-due n p q (Wakes addr count) h at next =
    ap (λ w. set (due_after (take count w) (Number 0) p.due) n (Some (Number (length (take count w))))) (at addr (eq-eqb addr addr refl))
    ∙ ap (λ w. set (due_after (woken_at addr count q.sleepers) (Number 0) w) n (Some (Number (length (woken_at addr count q.sleepers))))) h
applied-due n p q (Begins arg) h at next = ap (λ w. set w n (Some (Number (next_id p)))) h ∙ ap (λ (k : ℕ). set q.due n (Some (Number k))) (next refl)
applied-due n p q Quits h at next = ap (λ w. set w n (Some (Number 0))) h

-- nothing of another thread that isn't woken
pub other-due : (k n : ℕ) (q : WaitQueue) (c : Call) → k ≢ n → is_among k (woken_by c q.sleepers) ≡ false → answer_due (applied n q c) k ≡ answer_due q k
other-due k n q Rests apart h = refl
other-due k n q (Tells a) apart h = get_or-set_other q.due n k (Some a) None apart
other-due k n q (Sleeps addr timeout) apart h = refl
other-due k n q (Wakes addr count) apart h =
    get_or-set_other (due_after (woken_at addr count q.sleepers) (Number 0) q.due) n k (Some (Number (length (woken_at addr count q.sleepers)))) None apart
    ∙ due_after-other k (woken_at addr count q.sleepers) (Number 0) q.due h
other-due k n q (Begins arg) apart h = get_or-set_other q.due n k (Some (Number (next_id q))) None apart
other-due k n q Quits apart h = get_or-set_other q.due n k (Some (Number 0)) None apart

-- ---- What holds of the queue

-- a call that starts a thread has a number for it
abbrev pub HasRoomFor : WaitQueue → Call → Type 0
HasRoomFor q c = begins c ≡ true → has_slot q (next_id q) ≡ true

pub applied-sound : (n : ℕ) (q : WaitQueue) (c : Call) → IsFree q n → HasRoomFor q c → IsSound q → IsSound (applied n q c)
applied-sound n q Rests free room sound = sound
applied-sound n q (Tells a) free room sound = IsSound-tells q n a free.awake (sound.named n free.alive) sound
applied-sound n q (Sleeps addr timeout) free room sound = IsSound-sleeps q (record { thread = n; addr = addr; timeout = timeout }) free sound
applied-sound n q (Wakes addr count) free room sound =
    let woken = woken_at addr count q.sleepers in
    IsSound-tells (wakes woken (Number 0) q) n (Number (length woken))
    (list_any-filter (λ (s : Sleeper). not (is_among s.thread woken)) (λ (s : Sleeper). s.thread == n) q.sleepers free.awake)
    (sound.named n free.alive)
    (IsSound-wakes q woken (Number 0) (λ m among. woken_sleeps m addr count q.sleepers among) sound)
applied-sound n q (Begins arg) free room sound =
    let known : n < next_id q = sound.named n free.alive in
    let longer = length-append q.args (arg ∷ []) in
    IsSound-tells (starts arg q) n (Number (next_id q)) free.awake (omega (arith, known, longer))
    (IsSound-starts q arg (ltb-true (next_id q) (length q.due) (room refl)) sound)
applied-sound n q Quits free room sound =
    IsSound-tells (leaves n q) n (Number 0) free.awake (sound.named n free.alive) (IsSound-leaves q n free.awake sound)

alive-stays : (m n : ℕ) (q : WaitQueue) (c : Call) → n ≢ m → is_alive q m ≡ true → is_alive (applied n q c) m ≡ true
alive-stays m n q Rests apart h = h
alive-stays m n q (Tells a) apart h = h
alive-stays m n q (Sleeps addr timeout) apart h = h
alive-stays m n q (Wakes addr count) apart h = h
alive-stays m n q (Begins arg) apart h =
    list_any-append (λ k. k == m) q.alive (next_id q ∷ []) ∙ or_left (is_alive q m) ((next_id q == m) || false) h
alive-stays m n q Quits apart h = alive_but n m q.alive apart h

awake-stays : (m n : ℕ) (q : WaitQueue) (c : Call) → n ≢ m → is_asleep q m ≡ false → is_asleep (applied n q c) m ≡ false
awake-stays m n q Rests apart h = h
awake-stays m n q (Tells a) apart h = h
awake-stays m n q (Sleeps addr timeout) apart h =
    list_any-append (λ (s : Sleeper). s.thread == m) q.sleepers (record { thread = n; addr = addr; timeout = timeout } ∷ [])
    ∙ or_from (is_asleep q m) ((n == m) || false) h (or_from (n == m) false (ne_eqb n m apart) refl)
awake-stays m n q (Wakes addr count) apart h =
    list_any-filter (λ (s : Sleeper). not (is_among s.thread (woken_at addr count q.sleepers))) (λ (s : Sleeper). s.thread == m) q.sleepers h
awake-stays m n q (Begins arg) apart h = h
awake-stays m n q Quits apart h = h

pub free-stays : (m n : ℕ) (q : WaitQueue) (c : Call) → n ≢ m → IsFree q m → IsFree (without_dues (applied n q c)) m
free-stays m n q c apart free = record {
  alive = alive-stays m n q c apart free.alive;
  awake = awake-stays m n q c apart free.awake;
  told = none_due (applied n q c) m;
}

-- where another one can go on, nothing is to settle
pub unsettled : (m n : ℕ) (q : WaitQueue) (c : Call) → n ≢ m → IsFree q m → settled (applied n q c) ≡ applied n q c
unsettled m n q c apart free =
    ap (λ t. if t then wakes (ended (applied n q c).sleepers) (end_answer (applied n q c).sleepers) (applied n q c) else applied n q c)
    (awake_unstuck (applied n q c) m (alive-stays m n q c apart free.alive) (awake-stays m n q c apart free.awake))

-- ---- Queues that are alike

-- But for the answers due.
pub record AreAlikeBut (p q : WaitQueue) : Type 0 where
  pub alive : p.alive ≡ q.alive
  pub sleepers : AreAlikeSleepers p.sleepers q.sleepers
  pub args : p.args ≡ q.args
  pub long : length p.due ≡ length q.due

pub alike-queues : (p q : WaitQueue) → AreAlikeBut p q → AreAlikeQueues (without_dues p) (without_dues q)
alike-queues p q h = record { alive = h.alive; sleepers = h.sleepers; due = ap (λ k. replicate k None) h.long; args = h.args }

pub but-of : (p q : WaitQueue) → AreAlikeQueues p q → AreAlikeBut p q
but-of p q h = record { alive = h.alive; sleepers = h.sleepers; args = h.args; long = ap length h.due }

but-back : (p q : WaitQueue) → AreAlikeBut p q → AreAlikeBut q p
but-back p q h = record { alive = sym h.alive; sleepers = λ x. sym (h.sleepers x); args = sym h.args; long = sym h.long }

-- calls keep them alike
pub alike-applied : (n : ℕ) (p q : WaitQueue) (c : Call) → AreAlikeBut p q → AreAlikeBut (applied n p c) (applied n q c)
alike-applied n p q c h = record {
  alive = applied-alive n p c ∙ (ap (λ xs. alive_by n (next_id p) c xs) h.alive
      ∙ (ap (λ xs. alive_by n (length xs + 1) c q.alive) h.args ∙ sym (applied-alive n q c)));
  sleepers = λ x. ap (sleepers_at x) (applied-sleepers n p c)
      ∙ (alike-by n c p.sleepers q.sleepers h.sleepers x ∙ sym (ap (sleepers_at x) (applied-sleepers n q c)));
  args = applied-args n p c ∙ (ap (args_by c) h.args ∙ sym (applied-args n q c));
  long = applied-long n p c ∙ (h.long ∙ sym (applied-long n q c));
}

asleep-alike : (p q : WaitQueue) → AreAlikeBut p q → (k : ℕ) → is_asleep p k ≡ is_asleep q k
asleep-alike p q h k = any-alike (λ (s : Sleeper). s.thread == k) p.sleepers q.sleepers h.sleepers

stuck-alike : (p q : WaitQueue) → AreAlikeBut p q → is_stuck p ≡ is_stuck q
stuck-alike p q h =
    ap (λ (f : ℕ → Bool). nat_lt 0 (length p.alive) && list_all f p.alive) (λ i k. asleep-alike p q h k i)
    ∙ ap (λ xs. nat_lt 0 (length xs) && list_all (λ k. is_asleep q k) xs) h.alive

woken-alike : (p q : WaitQueue) → AreAlikeBut p q
    → AreAlikeBut (wakes (ended p.sleepers) (end_answer p.sleepers) p) (wakes (ended q.sleepers) (end_answer q.sleepers) q)
woken-alike p q h = record {
  alive = h.alive;
  sleepers = λ x. others-at x (ended p.sleepers) p.sleepers
      ∙ (others-agree (ended p.sleepers) (ended q.sleepers) (sleepers_at x p.sleepers) (λ k. ended-alike k p.sleepers q.sleepers h.sleepers)
      ∙ (ap (others_than (ended q.sleepers)) (h.sleepers x) ∙ sym (others-at x (ended q.sleepers) q.sleepers)));
  args = h.args;
  long = length-due_after (ended p.sleepers) (end_answer p.sleepers) p.due
      ∙ (h.long ∙ sym (length-due_after (ended q.sleepers) (end_answer q.sleepers) q.due));
}

-- and so does settling
settled-by : (p q : WaitQueue) → AreAlikeBut p q → (s t : Bool) → s ≡ t
    → AreAlikeBut (if s then wakes (ended p.sleepers) (end_answer p.sleepers) p else p) (if t then wakes (ended q.sleepers) (end_answer q.sleepers) q else q)
settled-by p q h true true e = woken-alike p q h
settled-by p q h true false e = absurd (true≢false e)
settled-by p q h false true e = absurd (true≢false (sym e))
settled-by p q h false false e = h

pub settled-alike : (p q : WaitQueue) → AreAlikeBut p q → AreAlikeBut (settled p) (settled q)
settled-alike p q h = settled-by p q h (is_stuck p) (is_stuck q) (stuck-alike p q h)

-- whom settling tells
abbrev is_ended : WaitQueue → ℕ → Bool
is_ended q k = is_stuck q && is_among k (ended q.sleepers)

ends-alike : (p q : WaitQueue) → AreAlikeBut p q → (k : ℕ) → is_ended p k ≡ is_ended q k
ends-alike p q h k = ap (λ t. t && is_among k (ended p.sleepers)) (stuck-alike p q h) ∙ ap (λ t. is_stuck q && t)
    (ended-alike k p.sleepers q.sleepers h.sleepers)

settled-told : (q : WaitQueue) (k : ℕ) → IsSound q → is_ended q k ≡ true → (answer_due (settled q) k ≡ Some (end_answer q.sleepers)) × (is_asleep q k ≡ true)
settled-told q k sound h =
    let parts = and_parts (is_stuck q) (is_among k (ended q.sleepers)) h in
    let asleep = ended_sleeps k q.sleepers parts.1 in (
      ap (λ (t : Bool). answer_due (if t then wakes (ended q.sleepers) (end_answer q.sleepers) q else q) k) parts.0
          ∙ due_after-woken k (ended q.sleepers) (end_answer q.sleepers) q.due (has_place q sound k asleep) parts.1,
      asleep,
    )

settled-untold : (q : WaitQueue) (k : ℕ) → is_ended q k ≡ false → answer_due (settled q) k ≡ answer_due q k
settled-untold q k h =
    cond_both (is_stuck q) (wakes (ended q.sleepers) (end_answer q.sleepers) q) q (λ w. answer_due w k ≡ answer_due q k)
    (λ stuck. due_after-other k (ended q.sleepers) (end_answer q.sleepers) q.due (elim (and_cases (is_stuck q) (is_among k (ended q.sleepers)) h) [
      | inl free ↦ absurd (both_ways (is_stuck q) free stuck)
      | inr none ↦ none
    ])) (λ free. refl)

-- the same answers where the same are due
pub settled-same : (p q : WaitQueue) → AreAlikeBut p q → IsSound p → IsSound q → (k : ℕ) → answer_due p k ≡ answer_due q k
    → answer_due (settled p) k ≡ answer_due (settled q) k
settled-same p q h sound_p sound_q k same = elim (cases_Bool (is_ended p k)) [
  | inl is ↦ (settled-told p k sound_p is).0
      ∙ (ap Some (answer-alike p.sleepers q.sleepers h.sleepers) ∙ sym (settled-told q k sound_q (sym (ends-alike p q h k) ∙ is)).0)
  | inr isnt ↦ settled-untold p k isnt ∙ (same ∙ sym (settled-untold q k (sym (ends-alike p q h k) ∙ isnt)))
]

pub due-alike : (n : ℕ) (p q : WaitQueue) (c : Call) → AreAlikeQueues p q → (k : ℕ) → answer_due (applied n p c) k ≡ answer_due (applied n q c) k
due-alike n p q c h k = ap (λ w. get_or w k None) (applied-due n p q c h.due (λ a at. h.sleepers a) (λ e. ap (λ xs. length xs + 1) h.args))

-- ---- Two calls, in either order

-- What a thread is told behind the first call and behind the second one, in either order: at most one answer, the same.
abbrev pub ToldAlike : Option Answer → Option Answer → Option Answer → Option Answer → Type 0
ToldAlike first second other last =
    ((first ≡ None) × (other ≡ None) × (second ≡ last)) ⊎ ((second ≡ other) × (last ≡ first) × ((first ≡ None) ⊎ (other ≡ None)))

module _ (q : WaitQueue) (sound : IsSound q) (heard : without_dues q ≡ q) (n u : ℕ) (apart : u ≢ n) (free_n : IsFree q n) (free_u : IsFree q u)
    (c d : Call) (clear : AreClearCalls c d) (room_c : HasRoomFor q c) (room_d : HasRoomFor q d) where
  abbrev pub behind_c : WaitQueue
  behind_c = without_dues (applied u q c)

  abbrev pub behind_d : WaitQueue
  behind_d = without_dues (applied n q d)

  abbrev pub first_c : WaitQueue
  first_c = applied n behind_c d

  abbrev pub first_d : WaitQueue
  first_d = applied u behind_d c

  other : n ≢ u
  other e = apart (sym e)

  sound_c : IsSound behind_c
  sound_c = IsSound-without (applied u q c) (applied-sound u q c free_u room_c sound)

  sound_d : IsSound behind_d
  sound_d = IsSound-without (applied n q d) (applied-sound n q d free_n room_d sound)

  next_c : begins d ≡ true → next_id behind_c ≡ next_id q
  next_c h = next-stays u q c (clear.begin_back h)

  next_d : begins c ≡ true → next_id behind_d ≡ next_id q
  next_d h = next-stays n q d (clear.begin h)

  long_c : length behind_c.due ≡ length q.due
  long_c = length-replicate {A = Option Answer} (length (applied u q c).due) None ∙ applied-long u q c

  long_d : length behind_d.due ≡ length q.due
  long_d = length-replicate {A = Option Answer} (length (applied n q d).due) None ∙ applied-long n q d

  pub room_behind_c : HasRoomFor behind_c d
  room_behind_c h = ap (nat_lt (next_id behind_c)) long_c ∙ (ap (λ k. nat_lt k (length q.due)) (next_c h) ∙ room_d h)

  pub room_behind_d : HasRoomFor behind_d c
  room_behind_d h = ap (nat_lt (next_id behind_d)) long_d ∙ (ap (λ k. nat_lt k (length q.due)) (next_d h) ∙ room_c h)

  sound_first_c : IsSound first_c
  sound_first_c = applied-sound n behind_c d (free-stays n u q c apart free_n) room_behind_c sound_c

  sound_first_d : IsSound first_d
  sound_first_d = applied-sound u behind_d c (free-stays u n q d other free_u) room_behind_d sound_d

  known : (m : ℕ) → IsFree q m → m ≢ next_id q
  known m free e = let low : m < next_id q = sound.named m free.alive in absurd (omega (arith, low, e))

  once_c : SleepOnce (sleepers_by u c q.sleepers)
  once_c = subst SleepOnce (applied-sleepers u q c) sound_c.once

  once_d : SleepOnce (sleepers_by n d q.sleepers)
  once_d = subst SleepOnce (applied-sleepers n q d) sound_d.once

  pub both-alike : AreAlikeBut first_c first_d
  both-alike = record {
    alive = applied-alive n behind_c d ∙ (ap (λ xs. alive_by n (next_id behind_c) d xs) (applied-alive u q c)
        ∙ (swap-alive n u (next_id q) (next_id behind_c) (next_id behind_d) c d q.alive clear (known n free_n) (known u free_u) next_c next_d
        ∙ (sym (ap (λ xs. alive_by u (next_id behind_d) c xs) (applied-alive n q d)) ∙ sym (applied-alive u behind_d c))));
    sleepers = λ x. ap (sleepers_at x) (applied-sleepers n behind_c d ∙ ap (sleepers_by n d) (applied-sleepers u q c))
        ∙ (swap-sleepers n u c d q.sleepers clear sound.once once_c once_d x
        ∙ sym (ap (sleepers_at x) (applied-sleepers u behind_d c ∙ ap (sleepers_by u c) (applied-sleepers n q d))));
    args = applied-args n behind_c d ∙ (ap (args_by d) (applied-args u q c)
        ∙ (swap-args c d q.args clear ∙ (sym (ap (args_by c) (applied-args n q d)) ∙ sym (applied-args u behind_d c))));
    long = applied-long n behind_c d ∙ (long_c ∙ (sym long_d ∙ sym (applied-long u behind_d c)));
  }

  no_dues_c : behind_c.due ≡ q.due
  no_dues_c = ap (λ k. replicate k None) (applied-long u q c) ∙ ap (λ (z : WaitQueue). z.due) heard

  no_dues_d : behind_d.due ≡ q.due
  no_dues_d = ap (λ k. replicate k None) (applied-long n q d) ∙ ap (λ (z : WaitQueue). z.due) heard

  due_c : (k : ℕ) → answer_due first_c k ≡ answer_due (applied n q d) k
  due_c k = ap (λ w. get_or w k None) (applied-due n behind_c q d no_dues_c
      (λ a at. ap (sleepers_at a) (applied-sleepers u q c) ∙ leaves-at u c a q.sleepers sound.once (clear.back a at)) next_c)

  due_d : (k : ℕ) → answer_due first_d k ≡ answer_due (applied u q c) k
  due_d k = ap (λ w. get_or w k None) (applied-due u behind_d q c no_dues_d
      (λ a at. ap (sleepers_at a) (applied-sleepers n q d) ∙ leaves-at n d a q.sleepers sound.once (clear.at a at)) next_d)

  none : (k : ℕ) → answer_due q k ≡ None
  none k = ap (λ z. answer_due z k) (sym heard) ∙ none_due q k

  -- only one of them is told something at once
  not_both : (k : ℕ) → (answer_due (applied u q c) k ≡ None) ⊎ (answer_due (applied n q d) k ≡ None)
  not_both k = elim (cases_eq k n) [
    | inl same ↦ inl (other-due k u q c (λ e. apart (sym e ∙ same)) (woken-asleep k c q.sleepers (ap (is_asleep q) same ∙ free_n.awake)) ∙ none k)
    | inr not_n ↦ elim (cases_Bool (is_among k (woken_by d q.sleepers))) [
      | inr isnt ↦ inr (other-due k n q d not_n isnt ∙ none k)
      | inl is ↦ (let not_u : k ≢ u = (λ e. both_ways (is_among k (woken_by d q.sleepers))
          (woken-asleep k d q.sleepers (ap (is_asleep q) e ∙ free_u.awake)) is) in
          inl (other-due k u q c not_u (woken-once k c d q.sleepers clear sound.once is) ∙ none k))
    ]
  ]

  pub both-told : (k : ℕ) → ToldAlike (answer_due (applied u q c) k) (answer_due (settled first_c) k)
      (answer_due (applied n q d) k) (answer_due (settled first_d) k)
  both-told k = elim (cases_Bool (is_ended first_c k)) [
    | inl is ↦ (let there : is_ended first_d k ≡ true = sym (ends-alike first_c first_d both-alike k) ∙ is in
        let told = settled-told first_c k sound_first_c is in
        let told_d = settled-told first_d k sound_first_d there in
        inl (
          sym (due_d k) ∙ sound_first_d.unanswered k told_d.1,
          sym (due_c k) ∙ sound_first_c.unanswered k told.1,
          told.0 ∙ (ap Some (answer-alike first_c.sleepers first_d.sleepers both-alike.sleepers) ∙ sym told_d.0),
        ))
    | inr isnt ↦ inr (
      settled-untold first_c k isnt ∙ due_c k,
      settled-untold first_d k (sym (ends-alike first_c first_d both-alike k) ∙ isnt) ∙ due_d k,
      not_both k,
    )
  ]

-- ---- The call of an event

abbrev pub wait_call : ℕ → ℕ → ℤ → ℕ → Call
wait_call addr expected timeout v =
    if not (v == expected) then Tells (Number 1) else if ends_at_once timeout then Tells (Number 2) else Sleeps addr timeout

abbrev pub call_of : WaitQueue → Memory → Event → Call
call_of q m events.Size = Rests
call_of q m (events.Grow more) = Rests
call_of q m (events.Load addr width reach) = Rests
call_of q m (events.Store addr width reach value) = Rests
call_of q m (events.Rmw op addr width value) = Rests
call_of q m (events.Cmpxchg addr width expected replacement) = Rests
call_of q m (events.Ask (Wait addr width expected timeout)) =
    if_within m (addr + width) (wait_call addr expected timeout (loaded m addr width)) Rests
call_of q m (events.Ask (Notify addr count)) = if_within m (addr + 4) (Wakes addr count) Rests
call_of q m (events.Ask (Spawn arg)) = if has_slot q (next_id q) then Begins arg else Tells (Number 4294967295)
call_of q m (events.Ask Leave) = Quits
call_of q m (events.Told answer) = Rests

-- A thread makes it by itself.
abbrev pub IsMade : Event → Type 0
IsMade (events.Told answer) = ⊥
IsMade _ = Unit {0}

pub quiet-settled : (q : WaitQueue) (n : ℕ) → IsFree q n → q ≡ settled q
quiet-settled q n free =
    sym (ap (λ (t : Bool). if t then wakes (ended q.sleepers) (end_answer q.sleepers) q else q) (awake_unstuck q n free.alive free.awake))

wait-asked : (q : WaitQueue) (n addr : ℕ) (timeout : ℤ) (s t : Bool)
    → (if s then tells n (Number 1) q else if t then tells n (Number 2) q else sleeps (record { thread = n; addr = addr; timeout = timeout }) q)
    ≡ applied n q (if s then Tells (Number 1) else if t then Tells (Number 2) else Sleeps addr timeout)
wait-asked q n addr timeout true t = refl
wait-asked q n addr timeout false true = refl
wait-asked q n addr timeout false false = refl

spawn-asked : (q : WaitQueue) (n arg : ℕ) (t : Bool)
    → (if t then tells n (Number (next_id q)) (starts arg q) else tells n (Number 4294967295) q) ≡ applied n q
    (if t then Begins arg else Tells (Number 4294967295))
spawn-asked q n arg true = refl
spawn-asked q n arg false = refl

wait-step : (q : WaitQueue) (n addr width expected : ℕ) (timeout : ℤ) (v : ℕ) → IsFree q n → (t : Bool)
    → queue_step q n (events.Ask (Wait addr width expected timeout)) (if t then replies.Value v else replies.OutOfBounds)
    ≡ settled (applied n q (if t then wait_call addr expected timeout v else Rests))
unfolding after_question
wait-step q n addr width expected timeout v free true = ap settled (wait-asked q n addr timeout (not (v == expected)) (ends_at_once timeout))
wait-step q n addr width expected timeout v free false = quiet-settled q n free

notify-step : (q : WaitQueue) (n addr count : ℕ) → IsFree q n → (t : Bool)
    → queue_step q n (events.Ask (Notify addr count)) (if t then replies.Done else replies.OutOfBounds) ≡ settled
    (applied n q (if t then Wakes addr count else Rests))
unfolding after_question
notify-step q n addr count free true = refl
notify-step q n addr count free false = quiet-settled q n free

pub step-is : (q : WaitQueue) (n : ℕ) (m : Memory) (e : Event) → IsFree q n → IsMade e → queue_step q n e (reply_of m e) ≡ settled (applied n q (call_of q m e))
unfolding after_question
step-is q n m events.Size free made = quiet-settled q n free
step-is q n m (events.Grow more) free made = quiet-settled q n free
step-is q n m (events.Load addr width reach) free made = quiet-settled q n free
step-is q n m (events.Store addr width reach value) free made = quiet-settled q n free
step-is q n m (events.Rmw op addr width value) free made = quiet-settled q n free
step-is q n m (events.Cmpxchg addr width expected replacement) free made = quiet-settled q n free
step-is q n m (events.Ask (Wait addr width expected timeout)) free made =
    wait-step q n addr width expected timeout (loaded m addr width) free (nat_le (addr + width) (length m.bytes))
step-is q n m (events.Ask (Notify addr count)) free made = notify-step q n addr count free (nat_le (addr + 4) (length m.bytes))
step-is q n m (events.Ask (Spawn arg)) free made = ap settled (spawn-asked q n arg (has_slot q (next_id q)))
step-is q n m (events.Ask Leave) free made = refl
step-is q n m (events.Told answer) free made = absurd made

-- a call that starts a thread has a number for it
spawn-room : (arg : ℕ) (t : Bool) → begins (if t then Begins arg else Tells (Number 4294967295)) ≡ true → t ≡ true
spawn-room arg true h = refl
spawn-room arg false h = absurd (true≢false (sym h))

never-begins : (s : Bool) (c : Call) → begins c ≡ false → begins (if s then c else Rests) ≡ false
never-begins true c h = h
never-begins false c h = refl

wait-begins : (addr : ℕ) (timeout : ℤ) (s t : Bool) → begins (if s then Tells (Number 1) else if t then Tells (Number 2) else Sleeps addr timeout) ≡ false
wait-begins addr timeout true t = refl
wait-begins addr timeout false true = refl
wait-begins addr timeout false false = refl

no-room : (b : Bool) {P : Type 0} → b ≡ false → b ≡ true → P
no-room b h g = absurd (both_ways b h g)

pub call-room : (q : WaitQueue) (m : Memory) (e : Event) → HasRoomFor q (call_of q m e)
call-room q m events.Size h = absurd (true≢false (sym h))
call-room q m (events.Grow more) h = absurd (true≢false (sym h))
call-room q m (events.Load addr width reach) h = absurd (true≢false (sym h))
call-room q m (events.Store addr width reach value) h = absurd (true≢false (sym h))
call-room q m (events.Rmw op addr width value) h = absurd (true≢false (sym h))
call-room q m (events.Cmpxchg addr width expected replacement) h = absurd (true≢false (sym h))
call-room q m (events.Ask (Wait addr width expected timeout)) h =
    no-room (begins (call_of q m (events.Ask (Wait addr width expected timeout))))
    (never-begins (nat_le (addr + width) (length m.bytes)) (wait_call addr expected timeout (loaded m addr width))
    (wait-begins addr timeout (not (loaded m addr width == expected)) (ends_at_once timeout))) h
call-room q m (events.Ask (Notify addr count)) h =
    no-room (begins (call_of q m (events.Ask (Notify addr count)))) (never-begins (nat_le (addr + 4) (length m.bytes)) (Wakes addr count) refl) h
call-room q m (events.Ask (Spawn arg)) h = spawn-room arg (has_slot q (next_id q)) h
call-room q m (events.Ask Leave) h = absurd (true≢false (sym h))
call-room q m (events.Told answer) h = absurd (true≢false (sym h))
