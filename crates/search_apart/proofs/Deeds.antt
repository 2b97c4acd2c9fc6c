-- What an event's deed says of its call of the queue.
use Rattle.std.proofs.Common.{◌≡◌, ◌⊎◌, inl, inr, ℕ, ℤ, ◌+◌, ◌==◌, ◌&&◌, Bool, true, false, not, true≢false, List, length, cond}
use Rattle.std.proofs.Common.{Some, None, refl, sym, ap, ◌∙◌}
use Rattle.std.specs.Prelude.{nat_lt, nat_le, if◌then◌else◌}
use Rattle.std.proofs.lemmas.Bool.{both_ways, eqb-true, eq-eqb, false_from_ne_true}
use Rattle.types.specs.declared.event.Event.{Event}
use Rattle.types.specs.declared.event.Event.TheVariants as events
use Rattle.types.specs.declared.event.Question.TheVariants.{Wait, Notify, Spawn, Leave}
use Rattle.types.specs.declared.event.Answer.TheVariants.{Number}
use Rattle.types.specs.declared.event.Reply.{Reply}
use Rattle.types.specs.declared.event.Reply.TheVariants as replies
use Rattle.types.specs.declared.outcome.Outcome.{Outcome}
use Rattle.shared_memory.specs.declared.sleeper.Sleeper.{Sleeper}
use Rattle.shared_memory.specs.Memory.{Memory, loaded, reply_of}
use Rattle.shared_memory.specs.WaitQueue.{WaitQueue, is_among, next_id, has_slot, ends_at_once}
use Rattle.shared_memory.proofs.Sleepers.{list_any-take}
use Rattle.schedule_threads.specs.Shared.{Shared}
use Rattle.interp_trait.specs.Turns.{spawned_in}
use Rattle.search_threads.specs.Budgets.{started_without}
use Rattle.search_runs.specs.Called.{Called, begun_at}
use Rattle.search_apart.specs.Acts as acts
use Rattle.search_apart.specs.Acts.{Deed, deed_of, deeds_conflict}
use Rattle.search_apart.specs.Turning.{sleepers_at}
use Rattle.search_apart.proofs.Calls.{Call, Rests, Tells, Sleeps, Wakes, Begins, Quits, is_at, begins, woken_by, wait_call, call_of, AreClearCalls}

-- A call at an address is of a wait or a notify there.
abbrev pub IsOfList : Deed → ℕ → Type 0
IsOfList d x = (d ≡ acts.Waits x) ⊎ (d ≡ acts.Notifies x)

no-list : {P : Type 0} → false ≡ true → P
no-list h = absurd (true≢false (sym h))

wait-list : (addr : ℕ) (timeout : ℤ) (x : ℕ) (s t : Bool) → is_at (if s then Tells (Number 1) else if t then Tells (Number 2) else Sleeps addr timeout) x ≡ true
    → addr ≡ x
wait-list addr timeout x true t h = no-list h
wait-list addr timeout x false true h = no-list h
wait-list addr timeout x false false h = eqb-true addr x h

if-list : (t : Bool) (c : Call) (x : ℕ) → is_at (if t then c else Rests) x ≡ true → is_at c x ≡ true
if-list true c x h = h
if-list false c x h = no-list h

spawn-list : (arg x : ℕ) (t : Bool) → is_at (if t then Begins arg else Tells (Number 4294967295)) x ≡ false
spawn-list arg x true = refl
spawn-list arg x false = refl

pub list-deed : (q : WaitQueue) (m : Memory) (e : Event) (x : ℕ) → is_at (call_of q m e) x ≡ true → IsOfList (deed_of m e) x
list-deed q m events.Size x h = no-list h
list-deed q m (events.Grow more) x h = no-list h
list-deed q m (events.Load addr width reach) x h = no-list h
list-deed q m (events.Store addr width reach value) x h = no-list h
list-deed q m (events.Rmw op addr width value) x h = no-list h
list-deed q m (events.Cmpxchg addr width expected replacement) x h = no-list h
list-deed q m (events.Ask (Wait addr width expected timeout)) x h =
    inl (ap acts.Waits (wait-list addr timeout x (not (loaded m addr width == expected)) (ends_at_once timeout)
    (if-list (nat_le (addr + width) (length m.bytes)) (wait_call addr expected timeout (loaded m addr width)) x h)))
list-deed q m (events.Ask (Notify addr count)) x h =
    inr (ap acts.Notifies (eqb-true addr x (if-list (nat_le (addr + 4) (length m.bytes)) (Wakes addr count) x h)))
list-deed q m (events.Ask (Spawn arg)) x h =
    absurd (both_ways (is_at (call_of q m (events.Ask (Spawn arg))) x) (spawn-list arg x (has_slot q (next_id q))) h)
list-deed q m (events.Ask Leave) x h = no-list h
list-deed q m (events.Told answer) x h = no-list h

-- one that starts a thread is of a spawn
wait-starts : (addr : ℕ) (timeout : ℤ) (s t : Bool) → begins (if s then Tells (Number 1) else if t then Tells (Number 2) else Sleeps addr timeout) ≡ false
wait-starts addr timeout true t = refl
wait-starts addr timeout false true = refl
wait-starts addr timeout false false = refl

if-starts : (t : Bool) (c : Call) → begins c ≡ false → begins (if t then c else Rests) ≡ false
if-starts true c h = h
if-starts false c h = refl

pub spawn-deed : (q : WaitQueue) (m : Memory) (e : Event) → begins (call_of q m e) ≡ true → deed_of m e ≡ acts.Spawns
spawn-deed q m events.Size h = no-list h
spawn-deed q m (events.Grow more) h = no-list h
spawn-deed q m (events.Load addr width reach) h = no-list h
spawn-deed q m (events.Store addr width reach value) h = no-list h
spawn-deed q m (events.Rmw op addr width value) h = no-list h
spawn-deed q m (events.Cmpxchg addr width expected replacement) h = no-list h
spawn-deed q m (events.Ask (Wait addr width expected timeout)) h =
    absurd (both_ways (begins (call_of q m (events.Ask (Wait addr width expected timeout))))
    (if-starts (nat_le (addr + width) (length m.bytes)) (wait_call addr expected timeout (loaded m addr width))
    (wait-starts addr timeout (not (loaded m addr width == expected)) (ends_at_once timeout))) h)
spawn-deed q m (events.Ask (Notify addr count)) h =
    absurd (both_ways (begins (call_of q m (events.Ask (Notify addr count)))) (if-starts (nat_le (addr + 4) (length m.bytes)) (Wakes addr count) refl) h)
spawn-deed q m (events.Ask (Spawn arg)) h = refl
spawn-deed q m (events.Ask Leave) h = no-list h
spawn-deed q m (events.Told answer) h = no-list h

-- who is woken sleeps where its notify is
wait-woken : (k addr : ℕ) (timeout : ℤ) (xs : List Sleeper) (s t : Bool)
    → is_among k (woken_by (if s then Tells (Number 1) else if t then Tells (Number 2) else Sleeps addr timeout) xs) ≡ false
wait-woken k addr timeout xs true t = refl
wait-woken k addr timeout xs false true = refl
wait-woken k addr timeout xs false false = refl

if-woken : (k : ℕ) (xs : List Sleeper) (t : Bool) (c : Call) → is_among k (woken_by c xs) ≡ false → is_among k (woken_by (if t then c else Rests) xs) ≡ false
if-woken k xs true c h = h
if-woken k xs false c h = refl

spawn-woken : (k arg : ℕ) (xs : List Sleeper) (t : Bool) → is_among k (woken_by (if t then Begins arg else Tells (Number 4294967295)) xs) ≡ false
spawn-woken k arg xs true = refl
spawn-woken k arg xs false = refl

pub record IsWokenBy (d : Deed) (k : ℕ) (xs : List Sleeper) : Type 0 where
  pub addr : ℕ
  pub deed : d ≡ acts.Notifies addr
  pub slept : is_among k (sleepers_at addr xs) ≡ true

notify-woken : (k addr count : ℕ) (xs : List Sleeper) (t : Bool) → is_among k (woken_by (if t then Wakes addr count else Rests) xs) ≡ true
    → IsWokenBy (acts.Notifies addr) k xs
notify-woken k addr count xs true h =
    record { addr = addr; deed = refl; slept = list_any-take (λ (s : Sleeper). s.thread == k) count (sleepers_at addr xs) h }
notify-woken k addr count xs false h = no-list h

pub woken-deed : (q : WaitQueue) (m : Memory) (e : Event) (k : ℕ) (xs : List Sleeper) → is_among k (woken_by (call_of q m e) xs) ≡ true
    → IsWokenBy (deed_of m e) k xs
woken-deed q m events.Size k xs h = no-list h
woken-deed q m (events.Grow more) k xs h = no-list h
woken-deed q m (events.Load addr width reach) k xs h = no-list h
woken-deed q m (events.Store addr width reach value) k xs h = no-list h
woken-deed q m (events.Rmw op addr width value) k xs h = no-list h
woken-deed q m (events.Cmpxchg addr width expected replacement) k xs h = no-list h
woken-deed q m (events.Ask (Wait addr width expected timeout)) k xs h =
    absurd (both_ways (is_among k (woken_by (call_of q m (events.Ask (Wait addr width expected timeout))) xs))
    (if-woken k xs (nat_le (addr + width) (length m.bytes)) (wait_call addr expected timeout (loaded m addr width))
    (wait-woken k addr timeout xs (not (loaded m addr width == expected)) (ends_at_once timeout))) h)
woken-deed q m (events.Ask (Notify addr count)) k xs h = notify-woken k addr count xs (nat_le (addr + 4) (length m.bytes)) h
woken-deed q m (events.Ask (Spawn arg)) k xs h =
    absurd (both_ways (is_among k (woken_by (call_of q m (events.Ask (Spawn arg))) xs)) (spawn-woken k arg xs (has_slot q (next_id q))) h)
woken-deed q m (events.Ask Leave) k xs h = no-list h
woken-deed q m (events.Told answer) k xs h = no-list h

-- ---- Deeds that don't conflict

lists-apart : (d e : Deed) (x : ℕ) → deeds_conflict d e ≡ false → IsOfList d x → IsOfList e x → ⊥
lists-apart d e x h (inl p) (inl r) = both_ways (deeds_conflict d e) h
    (ap (λ z. deeds_conflict z e) p ∙ (ap (deeds_conflict (acts.Waits x)) r ∙ eq-eqb x x refl))
lists-apart d e x h (inl p) (inr r) = both_ways (deeds_conflict d e) h
    (ap (λ z. deeds_conflict z e) p ∙ (ap (deeds_conflict (acts.Waits x)) r ∙ eq-eqb x x refl))
lists-apart d e x h (inr p) (inl r) = both_ways (deeds_conflict d e) h
    (ap (λ z. deeds_conflict z e) p ∙ (ap (deeds_conflict (acts.Notifies x)) r ∙ eq-eqb x x refl))
lists-apart d e x h (inr p) (inr r) = both_ways (deeds_conflict d e) h
    (ap (λ z. deeds_conflict z e) p ∙ (ap (deeds_conflict (acts.Notifies x)) r ∙ eq-eqb x x refl))

pub spawns-apart : (d e : Deed) → deeds_conflict d e ≡ false → d ≡ acts.Spawns → e ≡ acts.Spawns → ⊥
spawns-apart d e h p r = both_ways (deeds_conflict d e) h (ap (λ z. deeds_conflict z e) p ∙ ap (deeds_conflict acts.Spawns) r)

-- Calls with such deeds are clear.
pub record HasDeed (d : Deed) (c : Call) : Type 0 where
  pub list : (x : ℕ) → is_at c x ≡ true → IsOfList d x
  pub spawn : begins c ≡ true → d ≡ acts.Spawns

pub clear-deeds : (d e : Deed) (c f : Call) → HasDeed d c → HasDeed e f → deeds_conflict d e ≡ false → AreClearCalls c f
clear-deeds d e c f hc hf h = record {
  at = λ x is. false_from_ne_true (is_at f x) (λ too. lists-apart d e x h (hc.list x is) (hf.list x too));
  back = λ x is. false_from_ne_true (is_at c x) (λ too. lists-apart d e x h (hc.list x too) (hf.list x is));
  begin = λ is. false_from_ne_true (begins f) (λ too. spawns-apart d e h (hc.spawn is) (hf.spawn too));
  begin_back = λ is. false_from_ne_true (begins c) (λ too. spawns-apart d e h (hc.spawn too) (hf.spawn is));
}

-- ---- The same reply, the same call

abbrev call_by : WaitQueue → Event → Reply → Call
call_by q (events.Ask (Wait addr width expected timeout)) (replies.Value v) = wait_call addr expected timeout v
call_by q (events.Ask (Notify addr count)) replies.Done = Wakes addr count
call_by q (events.Ask (Spawn arg)) reply = if has_slot q (next_id q) then Begins arg else Tells (Number 4294967295)
call_by q (events.Ask Leave) reply = Quits
call_by q _ reply = Rests

wait-by : (q : WaitQueue) (addr width expected : ℕ) (timeout : ℤ) (v : ℕ) (t : Bool)
    → (if t then wait_call addr expected timeout v else Rests)
    ≡ call_by q (events.Ask (Wait addr width expected timeout)) (if t then replies.Value v else replies.OutOfBounds)
wait-by q addr width expected timeout v true = refl
wait-by q addr width expected timeout v false = refl

notify-by : (q : WaitQueue) (addr count : ℕ) (t : Bool)
    → (if t then Wakes addr count else Rests) ≡ call_by q (events.Ask (Notify addr count)) (if t then replies.Done else replies.OutOfBounds)
notify-by q addr count true = refl
notify-by q addr count false = refl

call-is : (q : WaitQueue) (m : Memory) (e : Event) → call_of q m e ≡ call_by q e (reply_of m e)
call-is q m events.Size = refl
call-is q m (events.Grow more) = refl
call-is q m (events.Load addr width reach) = refl
call-is q m (events.Store addr width reach value) = refl
call-is q m (events.Rmw op addr width value) = refl
call-is q m (events.Cmpxchg addr width expected replacement) = refl
call-is q m (events.Ask (Wait addr width expected timeout)) =
    wait-by q addr width expected timeout (loaded m addr width) (nat_le (addr + width) (length m.bytes))
call-is q m (events.Ask (Notify addr count)) = notify-by q addr count (nat_le (addr + 4) (length m.bytes))
call-is q m (events.Ask (Spawn arg)) = refl
call-is q m (events.Ask Leave) = refl
call-is q m (events.Told answer) = refl

-- A spawn finds the same number and as many places.
pub record HasSameRoom (p q : WaitQueue) : Type 0 where
  pub long : length p.due ≡ length q.due
  pub next : next_id p ≡ next_id q

slot-same : (p q : WaitQueue) → HasSameRoom p q → has_slot p (next_id p) ≡ has_slot q (next_id q)
slot-same p q h = ap (λ k. nat_lt (next_id p) k) h.long ∙ ap (λ k. nat_lt k (length q.due)) h.next

call-room-same : (p q : WaitQueue) (m : Memory) (e : Event) → (deed_of m e ≡ acts.Spawns → HasSameRoom p q) → call_of p m e ≡ call_of q m e
call-room-same p q m events.Size h = refl
call-room-same p q m (events.Grow more) h = refl
call-room-same p q m (events.Load addr width reach) h = refl
call-room-same p q m (events.Store addr width reach value) h = refl
call-room-same p q m (events.Rmw op addr width value) h = refl
call-room-same p q m (events.Cmpxchg addr width expected replacement) h = refl
call-room-same p q m (events.Ask (Wait addr width expected timeout)) h = refl
call-room-same p q m (events.Ask (Notify addr count)) h = refl
call-room-same p q m (events.Ask (Spawn arg)) h =
    ap (λ (t : Bool). if t then Begins arg else Tells (Number 4294967295)) (slot-same p q (h refl))
call-room-same p q m (events.Ask Leave) h = refl
call-room-same p q m (events.Told answer) h = refl

pub call-same : (p q : WaitQueue) (z m : Memory) (e : Event) → reply_of z e ≡ reply_of m e → (deed_of m e ≡ acts.Spawns → HasSameRoom p q)
    → call_of p z e ≡ call_of q m e
call-same p q z m e reply h = call-is p z e ∙ (ap (call_by p e) reply ∙ (sym (call-is p m e) ∙ call-room-same p q m e h))

pub starts-same : (b : Called) (x y : Shared) (m : Memory) (e : Event) (k : ℕ) → (deed_of m e ≡ acts.Spawns → HasSameRoom y.queue x.queue)
    → started_without {O = Outcome} (begun_at b y e k) ≡ started_without {O = Outcome} (begun_at b x e k)
starts-same b x y m events.Size k h = refl
starts-same b x y m (events.Grow more) k h = refl
starts-same b x y m (events.Load addr width reach) k h = refl
starts-same b x y m (events.Store addr width reach value) k h = refl
starts-same b x y m (events.Rmw op addr width value) k h = refl
starts-same b x y m (events.Cmpxchg addr width expected replacement) k h = refl
starts-same b x y m (events.Ask (Wait addr width expected timeout)) k h = refl
starts-same b x y m (events.Ask (Notify addr count)) k h = refl
starts-same b x y m (events.Ask (Spawn arg)) k h =
    let same = h refl in
    ap (λ n. started_without {O = Outcome} (cond (nat_lt k n && (k == next_id y.queue)) (Some (spawned_in b.worker k arg)) None)) same.long
    ∙ ap (λ n. started_without {O = Outcome} (cond (nat_lt k (length x.queue.due) && (k == n)) (Some (spawned_in b.worker k arg)) None)) same.next
starts-same b x y m (events.Ask Leave) k h = refl
starts-same b x y m (events.Told answer) k h = refl
