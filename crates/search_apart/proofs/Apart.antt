-- The turns of a module's threads keep the laws of turns, where nobody is stuck.
use Rattle.std.proofs.Common.{◌≡◌, ◌≢◌, ◌⊎◌, inl, inr, ℕ, ◌+◌, ◌≤◌, ◌==◌, true, false, true≢false, length, Option, Some, None, refl, sym, ap, ◌∙◌, subst, arith}
use Rattle.std.specs.Prelude.{◌&&◌, ◌||◌, ◌↔◌, not, nat_lt, nat_le}
use Rattle.std.proofs.lemmas.Bool.{cases_Bool, both_ways, and_parts, or_left, or_right, eq-eqb, false_from_ne_true}
use Rattle.std.proofs.lemmas.Option.{none-some}
use Rattle.std.proofs.lemmas.List.{length-replicate}
use Rattle.allowed_races.specs.declared.allowed.Allowed.{Allowed}
use Rattle.types.specs.declared.event.Event.{Event}
use Rattle.types.specs.declared.event.Answer.{Answer}
use Rattle.shared_memory.specs.declared.sleeper.Sleeper.{Sleeper}
use Rattle.shared_memory.specs.Memory.{Memory, reply_of}
use Rattle.shared_memory.specs.WaitQueue.{WaitQueue, is_among, is_asleep, answer_due, next_id, has_slot, settled, IsFree}
use Rattle.shared_memory.specs.Sound.{IsSound}
use Rattle.shared_memory.proofs.Sleepers.{list_any-filtered}
use Rattle.schedule.specs.System.{Want, Want.Turns, Want.Calls, Want.Awaits, Want.Gone, put}
use Rattle.schedule.specs.Scheduled.{or_started}
use Rattle.schedule.proofs.Basics.{put-same, put-other, same_or_not}
use Rattle.schedule_threads.specs.Shared.{Shared, without_dues}
use Rattle.schedule_threads.specs.Threads.{machine_of}
use Rattle.search_threads.specs.Unlimited.{unlimited_wants, unlimited_goes, unlimited_takes}
use Rattle.search_runs.specs.Called.{Called, Walker}
use Rattle.search_runs.specs.Accesses.{access_by, is_plain, judged, may_race}
use Rattle.search_runs.specs.Theorems.{CanReach}
use Rattle.search_runs.proofs.Plain.{IsAccess, is-access, both-true}
use Rattle.search_runs.proofs.Tame.{missing, answers_fit}
use Rattle.search_ample.specs.Turns.{AreTurnStates, AreTurns}
use Rattle.search_apart.specs.Acts as acts
use Rattle.search_apart.specs.Acts.{Act, own_act, wakes_at, starts_it, looks_past, deed_of, is_plain_act, grows}
use Rattle.search_apart.specs.Acts.{accesses_conflict, deeds_conflict, acts_conflict}
use Rattle.search_apart.specs.Turning.{opening_of, act_if, next_act, sleepers_at, Heeds, AreAlikeQueues, AreAlike, turns_of}
use Rattle.search_apart.specs.Theorems.{NobodyIsStuck, TurnsAreApart}
use Rattle.search_apart.proofs.Changes.{Change, Writes, changed, change_of, IsIn, IsBy, change-by, judged-by, touches, judged-touches, IsSame, left-same}
use Rattle.search_apart.proofs.Changes.{HasSameBytes, same-bytes, long-written, AreClear, clear-of, swap-changes}
use Rattle.search_apart.proofs.Conflicts.{acts-swap, spared-of, touches-none, conflict-then}
use Rattle.search_apart.proofs.Calls.{Call, Rests, applied, begins, woken_by, applied-long, applied-sleepers}
use Rattle.search_apart.proofs.Calls.{applied-sound, next-stays, among-stays, woken-asleep, other-due, unsettled, quiet-settled}
use Rattle.search_apart.proofs.Calls.{AreAlikeBut, alike-queues, but-of, alike-applied, settled-alike, settled-same}
use Rattle.search_apart.proofs.Calls.{due-alike, ToldAlike, both-alike, both-told, AreClearCalls}
use Rattle.search_apart.proofs.Doing.{World, Doing, Own, Makes, wanting, change_in, call_in, act_in, none-or}
use Rattle.search_apart.proofs.Doing.{wants_at, after, self_in, starts_in, hears, doing-of, wanted-as, reach-next, least}
use Rattle.search_apart.proofs.Doing.{sound, heard, nothing, asleep-awaits, free, room, in-memory, ends, memory-after}
use Rattle.search_apart.proofs.Doing.{queue-after, gives-are, threads-after, starts-none, unmoved, goes-unmoved}
use Rattle.search_apart.proofs.Awaiting.{IsDone, begun-as, begun-done, never, awaits-asleep}
use Rattle.search_apart.proofs.Deeds.{list-deed, spawn-deed, woken-deed, spawns-apart, HasDeed, clear-deeds, HasSameRoom, call-same, starts-same}
use Rattle.search_apart.proofs.Alike.{told-first, want-cases, wanting-not, access-rests, access-starts}
use Rattle.search_apart.proofs.Alike.{no-leave, own-stays, takes-stays, alike-itself, alike-back, alike-in-turn, queues-as}

module _ (b : Called) (allowed : Allowed) (nobody : NobodyIsStuck b) where
  abbrev act : World → ℕ → Doing → Act
  act w n d = act_in allowed (opening_of b) w.shared (w.threads n) d

  act-by : (w : World) (n : ℕ) (d : Doing) → IsBy (act w n d).access (act w n d).deed (change_in w.shared.memory d)
  act-by w n Own = tt
  act-by w n (Makes e) =
      judged-by allowed (access_by (opening_of b) w.shared.memory (is_plain (w.threads n)) e) (deed_of w.shared.memory e) (change_of w.shared.memory e)
      (change-by (opening_of b) w.shared.memory (is_plain (w.threads n)) e)

  act-deed : (w : World) (n : ℕ) (d : Doing) → HasDeed (act w n d).deed (call_in w.shared.queue w.shared.memory d)
  act-deed w n Own = record { list = λ x h. absurd (true≢false (sym h)); spawn = λ h. absurd (true≢false (sym h)) }
  act-deed w n (Makes e) = record { list = λ x h. list-deed w.shared.queue w.shared.memory e x h; spawn = λ h. spawn-deed w.shared.queue w.shared.memory e h }

  -- ---- Alike states

  if-alike : (x y : Shared) (t : Walker) (want : Want Event) → x.memory ≡ y.memory
      → act_if allowed (opening_of b) x t want ≡ act_if allowed (opening_of b) y t want
  if-alike x y t Turns h = refl
  if-alike x y t (Calls e) h = ap (λ m. Some (record {
    access = judged allowed (access_by (opening_of b) m (is_plain t) e);
    looks = looks_past
        (opening_of b) e;
    deed = deed_of m e;
  })) h
  if-alike x y t Awaits h = refl
  if-alike x y t Gone h = refl

  want-alike : (s z : World) (n : ℕ) → AreAlike s z → next_act b allowed s n ≡ next_act b allowed z n
  want-alike s z n h =
      if-alike s.shared z.shared (s.threads n) (wants_at b s n) h.memory
      ∙ ap (λ t. act_if allowed (opening_of b) z.shared t (unlimited_wants (machine_of b.program) t)) (h.threads n)

  heeds-alike : (s z : World) (n : ℕ) (a : Act) → AreAlike s z → Heeds s n a → Heeds z n a
  heeds-alike s z n a h (inl k) = inl (record {
    addr = k.addr;
    sleeps = ap (is_among n) (sym ((h.queue).sleepers k.addr)) ∙ k.sleeps;
    act = k.act;
  })
  heeds-alike s z n a h (inr k) = inr (record {
    missing = sym (h.threads n) ∙ k.missing;
    room = ap (λ due. nat_lt n (length due)) (sym (h.queue).due) ∙ k.room;
    act = k.act;
  })

  self-alike : (s z : World) (n : ℕ) (d : Doing) → AreAlike s z → self_in b s n d ≡ self_in b z n d
  self-alike s z n Own h = ap (unlimited_goes (machine_of b.program)) (h.threads n)
  self-alike s z n (Makes e) h =
      ap (λ t. unlimited_takes (machine_of b.program) t (reply_of s.shared.memory e)) (h.threads n)
      ∙ ap (λ m. unlimited_takes (machine_of b.program) (z.threads n) (reply_of m e)) h.memory

  same-room : (p q : WaitQueue) → AreAlikeQueues p q → HasSameRoom p q
  same-room p q h = record { long = ap length h.due; next = ap (λ xs. length xs + 1) h.args }

  call-alike : (s z : World) (d : Doing) → AreAlike s z → call_in s.shared.queue s.shared.memory d ≡ call_in z.shared.queue z.shared.memory d
  call-alike s z Own h = refl
  call-alike s z (Makes e) h =
      call-same s.shared.queue z.shared.queue s.shared.memory z.shared.memory e (ap (λ m. reply_of m e) h.memory)
      (λ is. same-room s.shared.queue z.shared.queue h.queue)

  starts-alike : (s z : World) (d : Doing) (k : ℕ) → AreAlike s z → starts_in b s.shared d k ≡ starts_in b z.shared d k
  starts-alike s z Own k h = refl
  starts-alike s z (Makes e) k h = starts-same b z.shared s.shared s.shared.memory e k (λ is. same-room s.shared.queue z.shared.queue h.queue)

  put-alike : (s z : World) (n : ℕ) (d : Doing) (k : ℕ) → AreAlike s z → put s.threads n (self_in b s n d) k ≡ put z.threads n (self_in b z n d) k
  put-alike s z n d k h = elim (same_or_not k n) [
    | inl same ↦ ap (put s.threads n (self_in b s n d)) same ∙ (put-same s.threads n (self_in b s n d)
        ∙ (self-alike s z n d h ∙ (sym (put-same z.threads n (self_in b z n d)) ∙ ap (put z.threads n (self_in b z n d)) (sym same))))
    | inr apart ↦ put-other s.threads n (self_in b s n d) k apart ∙ (h.threads k ∙ sym (put-other z.threads n (self_in b z n d) k apart))
  ]

  change-alike : (s z : World) (d : Doing) → AreAlike s z → changed s.shared.memory (change_in s.shared.memory d) ≡ changed z.shared.memory
      (change_in z.shared.memory d)
  change-alike s z d h = ap (λ m. changed m (change_in m d)) h.memory

  module _ (s z : World) (reach_s : CanReach b s) (reach_z : CanReach b z) (n : ℕ) (d : Doing) (wants : wants_at b s n ≡ wanting d) (h : AreAlike s z) where
    wants_z : wants_at b z n ≡ wanting d
    wants_z = ap (unlimited_wants (machine_of b.program)) (sym (h.threads n)) ∙ wants

    abbrev call_s : Call
    call_s = call_in s.shared.queue s.shared.memory d

    abbrev call_z : Call
    call_z = call_in z.shared.queue z.shared.memory d

    calls-are : call_s ≡ call_z
    calls-are = call-alike s z d h

    abbrev behind_s : WaitQueue
    behind_s = applied n s.shared.queue call_z

    abbrev behind_z : WaitQueue
    behind_z = applied n z.shared.queue call_z

    as-z : applied n s.shared.queue call_s ≡ behind_s
    as-z = ap (applied n s.shared.queue) calls-are

    behind-alike : AreAlikeBut behind_s behind_z
    behind-alike = alike-applied n s.shared.queue z.shared.queue call_z (but-of s.shared.queue z.shared.queue h.queue)

    sound-s : IsSound behind_s
    sound-s = subst IsSound as-z
        (applied-sound n s.shared.queue call_s (free b s reach_s n d wants) (room b s reach_s d) (sound b s reach_s))

    sound-z : IsSound behind_z
    sound-z = applied-sound n z.shared.queue call_z (free b z reach_z n d wants_z) (room b z reach_z d) (sound b z reach_z)

    told-same : (k : ℕ) → answer_due (settled (applied n s.shared.queue call_s)) k ≡ answer_due (settled behind_z) k
    told-same k =
        ap (λ q. answer_due (settled q) k) as-z
        ∙ settled-same behind_s behind_z behind-alike sound-s sound-z k (due-alike n s.shared.queue z.shared.queue call_z h.queue k)

    pub after-alike : AreAlike (after b s n) (after b z n)
    after-alike = record {
      memory = memory-after b s reach_s n d wants ∙ (change-alike s z d h ∙ sym (memory-after b z reach_z n d wants_z));
      queue = queues-as (after b s n).shared.queue (without_dues (settled behind_s)) (after b z n).shared.queue (without_dues (settled behind_z))
          (queue-after b s reach_s n d wants ∙ ap (λ q. without_dues (settled q)) as-z) (queue-after b z reach_z n d wants_z)
          (alike-queues (settled behind_s) (settled behind_z) (settled-alike behind_s behind_z behind-alike));
      threads = λ k. threads-after b s reach_s n d wants k
          ∙ (ap (λ o. or_started o (hears b (put s.threads n (self_in b s n d) k) (answer_due (settled (applied n s.shared.queue call_s)) k)))
          (starts-alike s z d k h)
          ∙ (ap (λ t. or_started (starts_in b z.shared d k) (hears b t (answer_due (settled (applied n s.shared.queue call_s)) k))) (put-alike s z n d k h)
          ∙ (ap (λ o. or_started (starts_in b z.shared d k) (hears b (put z.threads n (self_in b z n d) k) o)) (told-same k)
          ∙ sym (threads-after b z reach_z n d wants_z k))));
    }

  states : AreTurnStates (turns_of b allowed)
  states = record {
    among = λ s n a reach h. reach-next b s n reach;
    itself = alike-itself;
    back = alike-back;
    in_turn = alike-in-turn;
    wants = λ s z n reach_s reach_z h. want-alike s z n h;
    heeds = λ s z n a reach_s reach_z h. heeds-alike s z n a h;
    next = λ s z n a reach_s reach_z h wants. (let does = doing-of b allowed s n a wants in after-alike s z reach_s reach_z n does.0 does.1 h);
  }

  -- ---- Two threads that go on

  module _ (s : World) (reach : CanReach b s) (n u : ℕ) (apart : u ≢ n) (d f : Doing) (h : wants_at b s n ≡ wanting d) (g : wants_at b s u ≡ wanting f) where
    abbrev memory : Memory
    memory = s.shared.memory

    abbrev behind_u : World
    behind_u = after b s u

    abbrev change_u : Change
    change_u = change_in memory f

    pub thread-stays : behind_u.threads n ≡ s.threads n
    thread-stays = goes-unmoved b s reach u n f d g h apart

    pub wants-still : wants_at b behind_u n ≡ wanting d
    wants-still = ap (unlimited_wants (machine_of b.program)) thread-stays ∙ h

    memory-is : behind_u.shared.memory ≡ changed memory change_u
    memory-is = memory-after b s reach u f g

    -- its act finds the same, where the change doesn't touch it
    event-same : (e : Event) → wants_at b s n ≡ Calls e → touches (act s n (Makes e)).access (act s n (Makes e)).looks change_u ≡ false
        → IsSame (opening_of b) (is_plain (s.threads n)) memory behind_u.shared.memory e
    event-same e wants free_of =
        subst (λ z. IsSame (opening_of b) (is_plain (s.threads n)) memory z e) (sym memory-is)
        (left-same (opening_of b) (is_plain (s.threads n)) memory (least b s reach) e change_u (ends b s reach n e wants) (in-memory b s reach u f g)
        (sym (judged-touches allowed (access_by (opening_of b) memory (is_plain (s.threads n)) e) (looks_past (opening_of b) e) change_u) ∙ free_of))

    act-still-by : (c : Doing) → wants_at b s n ≡ wanting c → touches (act s n c).access (act s n c).looks change_u ≡ false → act behind_u n c ≡ act s n c
    act-still-by Own wants free_of = refl
    act-still-by (Makes e) wants free_of =
        let same = event-same e wants free_of in
        ap (λ t. act_in allowed (opening_of b) behind_u.shared t (Makes e)) thread-stays
        ∙ (λ i. record { access = judged allowed (same.access i); looks = looks_past (opening_of b) e; deed = same.deed i })

    pub act-still : touches (act s n d).access (act s n d).looks change_u ≡ false → act behind_u n d ≡ act s n d
    act-still free_of = act-still-by d h free_of

    pub wanted-still : next_act b allowed behind_u n ≡ Some (act behind_u n d)
    wanted-still = wanted-as b allowed behind_u n d wants-still

    pub untouched : acts_conflict (act s n d) (act s u f) ≡ false → touches (act s n d).access (act s n d).looks change_u ≡ false
    untouched spared = touches-none (act s n d) (act s u f) change_u (act-by s u f) spared

    -- where it is touched, it conflicts still
    looks-still : (c : Doing) → (act behind_u n c).looks ≡ (act s n c).looks
    looks-still Own = refl
    looks-still (Makes e) = refl

    bytes-still : (c : Doing) (addr width k : ℕ) → change_u ≡ Writes addr width k → HasSameBytes (act behind_u n c).access (act s n c).access
    bytes-still Own addr width k is = record { addr = refl; width = refl }
    bytes-still (Makes e) addr width k is =
        let within : addr + width ≤ length memory.bytes = subst (IsIn memory) is (in-memory b s reach u f g) in
        let z : behind_u.shared.memory ≡ changed memory (Writes addr width k) = memory-is ∙ ap (changed memory) is in
        let same = same-bytes (opening_of b) (is_plain (s.threads n)) memory (changed memory (Writes addr width k))
        (long-written memory addr width k within) refl e in
        subst (λ m. HasSameBytes (judged allowed (access_by (opening_of b) m (is_plain (behind_u.threads n)) e))
        (judged allowed (access_by (opening_of b) memory (is_plain (s.threads n)) e))) (sym z)
        (subst (λ t. HasSameBytes (judged allowed (access_by (opening_of b) (changed memory (Writes addr width k)) (is_plain t) e))
        (judged allowed (access_by (opening_of b) memory (is_plain (s.threads n)) e))) (sym thread-stays)
        (record { addr = same.addr; width = same.width }))

    pub conflicts-still : touches (act s n d).access (act s n d).looks change_u ≡ true → acts_conflict (act s u f) (act behind_u n d) ≡ true
    conflicts-still touched =
        conflict-then (act s n d) (act s u f) (act behind_u n d) change_u (act-by s u f) (looks-still d) (bytes-still d) touched

    -- and what it makes is the same
    change-still-by : (c : Doing) → wants_at b s n ≡ wanting c → touches (act s n c).access (act s n c).looks change_u ≡ false
        → change_in behind_u.shared.memory c ≡ change_in memory c
    change-still-by Own wants free_of = refl
    change-still-by (Makes e) wants free_of = (event-same e wants free_of).change

    self-still-by : (c : Doing) → wants_at b s n ≡ wanting c → touches (act s n c).access (act s n c).looks change_u ≡ false
        → self_in b behind_u n c ≡ self_in b s n c
    self-still-by Own wants free_of = ap (unlimited_goes (machine_of b.program)) thread-stays
    self-still-by (Makes e) wants free_of =
        ap (λ t. unlimited_takes (machine_of b.program) t (reply_of behind_u.shared.memory e)) thread-stays
        ∙ ap (unlimited_takes (machine_of b.program) (s.threads n)) (event-same e wants free_of).reply

    -- the queue behind it, of which nothing is to settle
    abbrev call_u : Call
    call_u = call_in s.shared.queue memory f

    pub queue-behind : behind_u.shared.queue ≡ without_dues (applied u s.shared.queue call_u)
    queue-behind = queue-after b s reach u f g ∙ ap without_dues (unsettled n u s.shared.queue call_u apart (free b s reach n d h))

    long-behind : length behind_u.shared.queue.due ≡ length s.shared.queue.due
    long-behind =
        ap (λ q. length (WaitQueue.due q)) queue-behind
        ∙ (length-replicate {A = Option Answer} (length (applied u s.shared.queue call_u).due) None ∙ applied-long u s.shared.queue call_u)

    room-behind : deeds_conflict (act s n d).deed (act s u f).deed ≡ false → (act s n d).deed ≡ acts.Spawns → HasSameRoom behind_u.shared.queue s.shared.queue
    room-behind spared is = record {
      long = long-behind;
      next = ap next_id queue-behind ∙ next-stays u s.shared.queue call_u
          (false_from_ne_true (begins call_u) (λ starts. spawns-apart (act s n d).deed (act s u f).deed spared is ((act-deed s u f).spawn starts)));
    }

    call-still-by : (c : Doing) → wants_at b s n ≡ wanting c → touches (act s n c).access (act s n c).looks change_u ≡ false
        → ((act s n c).deed ≡ acts.Spawns → HasSameRoom behind_u.shared.queue s.shared.queue)
        → call_in behind_u.shared.queue behind_u.shared.memory c ≡ call_in s.shared.queue memory c
    call-still-by Own wants free_of same = refl
    call-still-by (Makes e) wants free_of same =
        call-same behind_u.shared.queue s.shared.queue behind_u.shared.memory memory e (event-same e wants free_of).reply same

    starts-still-by : (c : Doing) (k : ℕ) → ((act s n c).deed ≡ acts.Spawns → HasSameRoom behind_u.shared.queue s.shared.queue)
        → starts_in b behind_u.shared c k ≡ starts_in b s.shared c k
    starts-still-by Own k same = refl
    starts-still-by (Makes e) k same = starts-same b s.shared behind_u.shared memory e k same

    module _ (spared : acts_conflict (act s n d) (act s u f) ≡ false) where
      deeds_spared : deeds_conflict (act s n d).deed (act s u f).deed ≡ false
      deeds_spared = (spared-of (act s n d) (act s u f) spared).deeds

      pub change-still : change_in behind_u.shared.memory d ≡ change_in memory d
      change-still = change-still-by d h (untouched spared)

      pub self-still : self_in b behind_u n d ≡ self_in b s n d
      self-still = self-still-by d h (untouched spared)

      pub call-still : call_in behind_u.shared.queue behind_u.shared.memory d ≡ call_in s.shared.queue memory d
      call-still = call-still-by d h (untouched spared) (room-behind deeds_spared)

      pub starts-still : (k : ℕ) → starts_in b behind_u.shared d k ≡ starts_in b s.shared d k
      starts-still k = starts-still-by d k (room-behind deeds_spared)

      pub clear-changes-by : (c : Doing) → touches (act s n c).access (act s n c).looks change_u ≡ false → AreClear (change_in memory c) change_u
      clear-changes-by Own free_of = tt
      clear-changes-by (Makes e) free_of =
          clear-of (opening_of b) memory (is_plain (s.threads n)) e change_u
          (sym (judged-touches allowed (access_by (opening_of b) memory (is_plain (s.threads n)) e) (looks_past (opening_of b) e) change_u) ∙ free_of)

      -- what both leave of the memory and the queue
      abbrev both : World
      both = after b behind_u n

      reach_u : CanReach b behind_u
      reach_u = reach-next b s u reach

      abbrev call_n : Call
      call_n = call_in s.shared.queue memory d

      pub both-memory : both.shared.memory ≡ changed (changed memory change_u) (change_in memory d)
      both-memory =
          memory-after b behind_u reach_u n d wants-still
          ∙ (ap (changed behind_u.shared.memory) change-still ∙ ap (λ m. changed m (change_in memory d)) memory-is)

      second-is : applied n behind_u.shared.queue (call_in behind_u.shared.queue behind_u.shared.memory d)
          ≡ applied n (without_dues (applied u s.shared.queue call_u)) call_n
      second-is = ap (applied n behind_u.shared.queue) call-still ∙ ap (λ q. applied n q call_n) queue-behind

      pub both-queue : both.shared.queue ≡ without_dues (settled (applied n (without_dues (applied u s.shared.queue call_u)) call_n))
      both-queue = queue-after b behind_u reach_u n d wants-still ∙ ap (λ q. without_dues (settled q)) second-is

      -- and of the threads
      pub both-threads : (k : ℕ) → both.threads k ≡ or_started (starts_in b s.shared d k)
          (hears b (put behind_u.threads n (self_in b s n d) k) (answer_due (settled (applied n (without_dues (applied u s.shared.queue call_u)) call_n)) k))
      both-threads k =
          threads-after b behind_u reach_u n d wants-still k
          ∙ (ap (λ o. or_started o (hears b (put behind_u.threads n (self_in b behind_u n d) k)
          (answer_due (settled (applied n behind_u.shared.queue (call_in behind_u.shared.queue behind_u.shared.memory d))) k))) (starts-still k)
          ∙ (ap (λ t. or_started (starts_in b s.shared d k) (hears b (put behind_u.threads n t k)
          (answer_due (settled (applied n behind_u.shared.queue (call_in behind_u.shared.queue behind_u.shared.memory d))) k))) self-still
          ∙ ap (λ q. or_started (starts_in b s.shared d k) (hears b (put behind_u.threads n (self_in b s n d) k) (answer_due (settled q) k))) second-is))

      pub first-threads : (k : ℕ) → behind_u.threads k ≡ or_started (starts_in b s.shared f k)
          (hears b (put s.threads u (self_in b s u f) k) (answer_due (applied u s.shared.queue call_u) k))
      first-threads k =
          threads-after b s reach u f g k
          ∙ ap (λ q. or_started (starts_in b s.shared f k) (hears b (put s.threads u (self_in b s u f) k) (answer_due q k)))
          (unsettled n u s.shared.queue call_u apart (free b s reach n d h))

      -- whom the first one starts the second one tells nothing
      told-awaits : (c : Doing) → wants_at b behind_u n ≡ wanting c → (k : ℕ) → k ≢ n → (a : Answer)
          → answer_due (settled (applied n behind_u.shared.queue (call_in behind_u.shared.queue behind_u.shared.memory c))) k ≡ Some a
          → wants_at b behind_u k ≡ Awaits
      told-awaits Own wants k not_n a is = absurd (let none = gives-are b behind_u reach_u n Own wants k in cc (none, is))
      told-awaits (Makes e) wants k not_n a is = answers_fit b behind_u reach_u n k e a wants (gives-are b behind_u reach_u n (Makes e) wants k ∙ is) not_n

      started-done : (c : Doing) → wants_at b s u ≡ wanting c → (k : ℕ) (t : Walker) → starts_in b s.shared c k ≡ Some t → IsDone t
      started-done Own wants k t is = absurd (cc is)
      started-done (Makes e) wants k t is = begun-done b nobody s reach u e wants k t (begun-as b s e k t is)

      pub newborn-told : (k : ℕ) → k ≢ n → (t : Walker) → starts_in b s.shared f k ≡ Some t
          → answer_due (settled (applied n (without_dues (applied u s.shared.queue call_u)) call_n)) k ≡ None
      newborn-told k not_n t is =
          none-or (answer_due (settled (applied n (without_dues (applied u s.shared.queue call_u)) call_n)) k) (λ a due.
          never b nobody behind_u reach_u k
          (subst IsDone (sym (first-threads k ∙ ap (λ o. or_started o
          (hears b (put s.threads u (self_in b s u f) k) (answer_due (applied u s.shared.queue call_u) k))) is)) (started-done f g k t is))
          (told-awaits d wants-still k not_n a (ap (λ q. answer_due (settled q) k) second-is ∙ due)))

  -- ---- The laws

  spawned-deed : (w : World) (n : ℕ) (f : Doing) (k : ℕ) (t : Walker) → starts_in b w.shared f k ≡ Some t → (act w n f).deed ≡ acts.Spawns
  spawned-deed w n Own k t is = absurd (cc is)
  spawned-deed w n (Makes e) k t is = ap (deed_of w.shared.memory) (begun-as b w e k t is).event

  module _ (s : World) (reach : CanReach b s) (n u : ℕ) (apart : u ≢ n) (d f : Doing) (h : wants_at b s n ≡ wanting d) (g : wants_at b s u ≡ wanting f)
      (spared : acts_conflict (act s n d) (act s u f) ≡ false) where
    other : n ≢ u
    other e = apart (sym e)

    spared_back : acts_conflict (act s u f) (act s n d) ≡ false
    spared_back = acts-swap (act s u f) (act s n d) ∙ spared

    abbrev q : WaitQueue
    q = s.shared.queue

    abbrev c_u : Call
    c_u = call_in q s.shared.memory f

    abbrev c_n : Call
    c_n = call_in q s.shared.memory d

    clear : AreClearCalls c_u c_n
    clear = clear-deeds (act s u f).deed (act s n d).deed c_u c_n (act-deed s u f) (act-deed s n d)
        (spared-of (act s u f) (act s n d) spared_back).deeds

    free_n : IsFree q n
    free_n = free b s reach n d h

    free_u : IsFree q u
    free_u = free b s reach u f g

    abbrev first_n : WaitQueue
    first_n = applied n (without_dues (applied u q c_u)) c_n

    abbrev first_u : WaitQueue
    first_u = applied u (without_dues (applied n q c_n)) c_u

    queues : AreAlikeBut first_n first_u
    queues = both-alike q (sound b s reach) (heard b s reach) n u apart free_n free_u c_u c_n clear (room b s reach f) (room b s reach d)

    told : (k : ℕ) → ToldAlike (answer_due (applied u q c_u) k) (answer_due (settled first_n) k) (answer_due (applied n q c_n) k)
        (answer_due (settled first_u) k)
    told = both-told q (sound b s reach) (heard b s reach) n u apart free_n free_u c_u c_n clear (room b s reach f) (room b s reach d)

    abbrev un : World
    un = after b (after b s u) n

    abbrev nu : World
    nu = after b (after b s n) u

    un-threads : (k : ℕ) → un.threads k ≡ or_started (starts_in b s.shared d k)
        (hears b (put (after b s u).threads n (self_in b s n d) k) (answer_due (settled first_n) k))
    un-threads = both-threads s reach n u apart d f h g spared

    nu-threads : (k : ℕ) → nu.threads k ≡ or_started (starts_in b s.shared f k)
        (hears b (put (after b s n).threads u (self_in b s u f) k) (answer_due (settled first_u) k))
    nu-threads = both-threads s reach u n other f d g h spared_back

    u-threads : (k : ℕ) → (after b s u).threads k ≡ or_started (starts_in b s.shared f k)
        (hears b (put s.threads u (self_in b s u f) k) (answer_due (applied u q c_u) k))
    u-threads = first-threads s reach n u apart d f h g spared

    n-threads : (k : ℕ) → (after b s n).threads k ≡ or_started (starts_in b s.shared d k)
        (hears b (put s.threads n (self_in b s n d) k) (answer_due (applied n q c_n) k))
    n-threads = first-threads s reach u n other f d g h spared_back

    gone-not : (k : ℕ) (c : Doing) → wants_at b s k ≡ wanting c → wants_at b s k ≡ Gone → ⊥
    gone-not k c wants gone = wanting-not (wants_at b s k) c wants (inr gone)

    -- nothing is told or started of one that goes on
    first-none : answer_due (applied u q c_u) n ≡ None
    first-none = other-due n u q c_u other (woken-asleep n c_u q.sleepers free_n.awake) ∙ nothing b s reach n

    own-starts : starts_in b s.shared d n ≡ None
    own-starts = starts-none b s reach n d h n (gone-not n d h)

    other-starts : starts_in b s.shared f n ≡ None
    other-starts = starts-none b s reach u f g n (gone-not n d h)

    abbrev self : Walker
    self = self_in b s n d

    n-behind : (after b s n).threads n ≡ hears b self (answer_due (applied n q c_n) n)
    n-behind =
        n-threads n
        ∙ (ap (λ o. or_started o (hears b (put s.threads n self n) (answer_due (applied n q c_n) n))) own-starts
        ∙ ap (λ t. hears b t (answer_due (applied n q c_n) n)) (put-same s.threads n self))

    un-n : un.threads n ≡ hears b self (answer_due (settled first_n) n)
    un-n =
        un-threads n
        ∙ (ap (λ o. or_started o (hears b (put (after b s u).threads n self n) (answer_due (settled first_n) n))) own-starts
        ∙ ap (λ t. hears b t (answer_due (settled first_n) n)) (put-same (after b s u).threads n self))

    nu-n : nu.threads n ≡ hears b (hears b self (answer_due (applied n q c_n) n)) (answer_due (settled first_u) n)
    nu-n =
        nu-threads n
        ∙ (ap (λ o. or_started o (hears b (put (after b s n).threads u (self_in b s u f) n) (answer_due (settled first_u) n))) other-starts
        ∙ ap (λ t. hears b t (answer_due (settled first_u) n)) (put-other (after b s n).threads u (self_in b s u f) n other ∙ n-behind))

    pub at-first : un.threads n ≡ nu.threads n
    at-first =
        un-n
        ∙ (sym (ap (λ o. hears b (hears b self o) (answer_due (settled first_n) n)) first-none)
        ∙ (told-first b self (answer_due (applied u q c_u) n) (answer_due (settled first_n) n) (answer_due (applied n q c_n) n) (answer_due (settled first_u) n)
        (told n) ∙ sym nu-n))

    pub at-other : (k : ℕ) → k ≢ n → k ≢ u → un.threads k ≡ or_started (starts_in b s.shared d k)
        (hears b (or_started (starts_in b s.shared f k) (hears b (s.threads k) (answer_due (applied u q c_u) k))) (answer_due (settled first_n) k))
    at-other k not_n not_u =
        un-threads k
        ∙ (ap (λ t. or_started (starts_in b s.shared d k) (hears b t (answer_due (settled first_n) k)))
        (put-other (after b s u).threads n self k not_n ∙ u-threads k)
        ∙ ap (λ t. or_started (starts_in b s.shared d k) (hears b (or_started (starts_in b s.shared f k) (hears b t (answer_due (applied u q c_u) k)))
        (answer_due (settled first_n) k))) (put-other s.threads u (self_in b s u f) k not_u))

  module _ (s : World) (reach : CanReach b s) (n u : ℕ) (apart : u ≢ n) (d f : Doing) (h : wants_at b s n ≡ wanting d) (g : wants_at b s u ≡ wanting f)
      (spared : acts_conflict (act s n d) (act s u f) ≡ false) where
    abbrev x : WaitQueue
    x = s.shared.queue

    abbrev by_u : Call
    by_u = call_in x s.shared.memory f

    abbrev by_n : Call
    by_n = call_in x s.shared.memory d

    abbrev last_n : WaitQueue
    last_n = applied n (without_dues (applied u x by_u)) by_n

    abbrev last_u : WaitQueue
    last_u = applied u (without_dues (applied n x by_n)) by_u

    turned : n ≢ u
    turned e = apart (sym e)

    spared_turned : acts_conflict (act s u f) (act s n d) ≡ false
    spared_turned = acts-swap (act s u f) (act s n d) ∙ spared

    abbrev first_way : World
    first_way = after b (after b s u) n

    abbrev second_way : World
    second_way = after b (after b s n) u

    -- another thread: it may be started by the one or the other
    others : (k : ℕ) → k ≢ n → k ≢ u → (o p : Option Walker) → starts_in b s.shared f k ≡ o → starts_in b s.shared d k ≡ p
        → or_started p (hears b (or_started o (hears b (s.threads k) (answer_due (applied u x by_u) k))) (answer_due (settled last_n) k))
        ≡ or_started o (hears b (or_started p (hears b (s.threads k) (answer_due (applied n x by_n) k))) (answer_due (settled last_u) k))
    others k not_n not_u None None is_o is_p =
        told-first b (s.threads k) (answer_due (applied u x by_u) k) (answer_due (settled last_n) k) (answer_due (applied n x by_n) k)
        (answer_due (settled last_u) k) (told s reach n u apart d f h g spared k)
    others k not_n not_u (Some t) None is_o is_p = ap (hears b t) (newborn-told s reach n u apart d f h g spared k not_n t is_o)
    others k not_n not_u None (Some t) is_o is_p = sym (ap (hears b t) (newborn-told s reach u n turned f d g h spared_turned k not_u t is_p))
    others k not_n not_u (Some t) (Some v) is_o is_p = absurd
        (spawns-apart (act s n d).deed (act s u f).deed (spared-of (act s n d) (act s u f) spared).deeds
        (spawned-deed s n d k v is_p) (spawned-deed s u f k t is_o))

    threads-same : (k : ℕ) → first_way.threads k ≡ second_way.threads k
    threads-same k = elim (same_or_not k n) [
      | inl same ↦ ap first_way.threads same ∙ (at-first s reach n u apart d f h g spared ∙ sym (ap second_way.threads same))
      | inr not_n ↦ elim (same_or_not k u) [
        | inl same ↦ ap first_way.threads same ∙ (sym (at-first s reach u n turned f d g h spared_turned) ∙ sym (ap second_way.threads same))
        | inr not_u ↦ at-other s reach n u apart d f h g spared k not_n not_u
            ∙ (others k not_n not_u (starts_in b s.shared f k) (starts_in b s.shared d k) refl refl
            ∙ sym (at-other s reach u n turned f d g h spared_turned k not_u not_n))
      ]
    ]

    pub swapped : AreAlike first_way second_way
    swapped = record {
      memory = both-memory s reach n u apart d f h g spared
          ∙ (swap-changes s.shared.memory (change_in s.shared.memory d) (change_in s.shared.memory f) (in-memory b s reach n d h) (in-memory b s reach u f g)
          (clear-changes-by s reach n u apart d f h g spared d (untouched s reach n u apart d f h g spared))
          ∙ sym (both-memory s reach u n turned f d g h spared_turned));
      queue = queues-as first_way.shared.queue (without_dues (settled last_n)) second_way.shared.queue (without_dues (settled last_u))
          (both-queue s reach n u apart d f h g spared) (both-queue s reach u n turned f d g h spared_turned)
          (alike-queues (settled last_n) (settled last_u) (settled-alike last_n last_u (queues s reach n u apart d f h g spared)));
      threads = threads-same;
    }

  -- as what they want
  spared-as : (s : World) (n u : ℕ) (a c : Act) (d f : Doing) → a ≡ act s n d → c ≡ act s u f → acts_conflict a c ≡ false
      → acts_conflict (act s n d) (act s u f) ≡ false
  spared-as s n u a c d f is_a is_c spared = sym (ap (λ z. acts_conflict z c) is_a ∙ ap (acts_conflict (act s n d)) is_c) ∙ spared

  kept : (s : World) (n u : ℕ) (a c : Act) → CanReach b s → u ≢ n → next_act b allowed s n ≡ Some a → next_act b allowed s u ≡ Some c
      → acts_conflict a c ≡ false → next_act b allowed (after b s u) n ≡ Some a
  kept s n u a c reach apart wants_n wants_u spared =
      let does = doing-of b allowed s n a wants_n in
      let other_does = doing-of b allowed s u c wants_u in
      let free_of = untouched s reach n u apart does.0 other_does.0 does.1 other_does.1
      (spared-as s n u a c does.0 other_does.0 does.2 other_does.2 spared) in
      wanted-still s reach n u apart does.0 other_does.0 does.1 other_does.1
      ∙ ap Some (act-still s reach n u apart does.0 other_does.0 does.1 other_does.1 free_of ∙ sym does.2)

  swap : (s : World) (n u : ℕ) (a c : Act) → CanReach b s → u ≢ n → next_act b allowed s n ≡ Some a → next_act b allowed s u ≡ Some c
      → acts_conflict a c ≡ false → AreAlike (after b (after b s u) n) (after b (after b s n) u)
  swap s n u a c reach apart wants_n wants_u spared =
      let does = doing-of b allowed s n a wants_n in
      let other_does = doing-of b allowed s u c wants_u in
      swapped s reach n u apart does.0 other_does.0 does.1 other_does.1 (spared-as s n u a c does.0 other_does.0 does.2 other_does.2 spared)

  still : (s : World) (n u : ℕ) (a c : Act) → CanReach b s → u ≢ n → next_act b allowed s n ≡ Some a → next_act b allowed s u ≡ Some c
      → (next_act b allowed (after b s u) n ≡ Some a) ⊎ ((z : Act) × (next_act b allowed (after b s u) n ≡ Some z) × (acts_conflict c z ≡ true))
  still s n u a c reach apart wants_n wants_u =
      let does = doing-of b allowed s n a wants_n in
      let other_does = doing-of b allowed s u c wants_u in
      let wanted = wanted-still s reach n u apart does.0 other_does.0 does.1 other_does.1 in
      elim (cases_Bool (touches (act s n does.0).access (act s n does.0).looks (change_in s.shared.memory other_does.0))) [
        | inr free_of ↦ inl (wanted ∙ ap Some (act-still s reach n u apart does.0 other_does.0 does.1 other_does.1 free_of ∙ sym does.2))
        | inl touched ↦ inr (
          act (after b s u) n does.0,
          wanted,
          ap (λ z. acts_conflict z (act (after b s u) n does.0)) other_does.2
              ∙ conflicts-still s reach n u apart does.0 other_does.0 does.1 other_does.1 touched,
        )
      ]

  -- ---- Threads that can't go on

  rests-want : (w : World) (n : ℕ) → next_act b allowed w n ≡ None → (wants_at b w n ≡ Awaits) ⊎ (wants_at b w n ≡ Gone)
  rests-want w n h = elim (want-cases (wants_at b w n)) [
    | inl rest ↦ rest
    | inr does ↦ absurd (none-some (act w n does.0) (sym h ∙ wanted-as b allowed w n does.0 does.1))
  ]

  wants-none : (w : World) (n : ℕ) → (wants_at b w n ≡ Awaits) ⊎ (wants_at b w n ≡ Gone) → next_act b allowed w n ≡ None
  wants-none w n (inl h) = ap (act_if allowed (opening_of b) w.shared (w.threads n)) h
  wants-none w n (inr h) = ap (act_if allowed (opening_of b) w.shared (w.threads n)) h

  rests-as : (w z : World) (n : ℕ) → z.threads n ≡ w.threads n → next_act b allowed w n ≡ None → next_act b allowed z n ≡ None
  rests-as w z n same h = wants-none z n (elim (rests-want w n h) [
    | inl awaits ↦ inl (ap (unlimited_wants (machine_of b.program)) same ∙ awaits)
    | inr gone ↦ inr (ap (unlimited_wants (machine_of b.program)) same ∙ gone)
  ])

  deeds-then : (a c : Act) → deeds_conflict a.deed c.deed ≡ true → acts_conflict a c ≡ true
  deeds-then a c h =
      or_left (accesses_conflict a.access c.access || deeds_conflict a.deed c.deed) ((grows a.deed && c.looks) || (grows c.deed && a.looks))
      (or_right (accesses_conflict a.access c.access) (deeds_conflict a.deed c.deed) h)

  module _ (s : World) (reach : CanReach b s) (n u other : ℕ) (apart : u ≢ n) (away : u ≢ other) (f k : Doing) (g : wants_at b s u ≡ wanting f)
      (goes : wants_at b s other ≡ wanting k) (unheeded : (a : Act) → Heeds s n a → acts_conflict a (act s u f) ≡ true → ⊥) where
    abbrev y : WaitQueue
    y = s.shared.queue

    abbrev called : Call
    called = call_in y s.shared.memory f

    woken-heeds : (c : Doing) → ((a : Act) → Heeds s n a → acts_conflict a (act s u c) ≡ true → ⊥)
        → is_among n (woken_by (call_in y s.shared.memory c) y.sleepers) ≡ true → ⊥
    woken-heeds Own heeds is = true≢false (sym is)
    woken-heeds (Makes e) heeds is =
        let w = woken-deed y s.shared.memory e n y.sleepers is in
        heeds (wakes_at w.addr) (inl (record { addr = w.addr; sleeps = w.slept; act = refl }))
        (deeds-then (wakes_at w.addr) (act s u (Makes e)) (ap (deeds_conflict (acts.Sleeps w.addr)) w.deed ∙ eq-eqb w.addr w.addr refl))

    not-woken : is_among n (woken_by called y.sleepers) ≡ false
    not-woken = false_from_ne_true (is_among n (woken_by called y.sleepers)) (woken-heeds f unheeded)

    heeds-start : (e : Event) → ((a : Act) → Heeds s n a → acts_conflict a (act s u (Makes e)) ≡ true → ⊥) → (t : Walker)
        → starts_in b s.shared (Makes e) n ≡ Some t → ⊥
    heeds-start e heeds t is =
        let begun = begun-as b s e n t is in
        let number = begun.number in
        heeds starts_it (inr (record { missing = missing b s reach n (omega (arith, number)); room = begun.room; act = refl }))
        (deeds-then starts_it (act s u (Makes e)) (ap (λ z. deeds_conflict acts.Spawns (deed_of s.shared.memory z)) begun.event))

    unstarted : (c : Doing) → ((a : Act) → Heeds s n a → acts_conflict a (act s u c) ≡ true → ⊥) → starts_in b s.shared c n ≡ None
    unstarted Own heeds = refl
    unstarted (Makes e) heeds = none-or (starts_in b s.shared (Makes e) n) (λ t is. heeds-start e heeds t is)

    unsettled-there : settled (applied u y called) ≡ applied u y called
    unsettled-there = unsettled other u y called away (free b s reach other k goes)

    untold : answer_due (settled (applied u y called)) n ≡ None
    untold =
        ap (λ z. answer_due z n) unsettled-there
        ∙ (other-due n u y called (λ e. apart (sym e)) not-woken ∙ nothing b s reach n)

    pub rests-there : (after b s u).threads n ≡ s.threads n
    rests-there = unmoved b s reach u f g n (λ e. apart (sym e)) (unstarted f unheeded) untold

    queue-there : (after b s u).shared.queue ≡ without_dues (applied u y called)
    queue-there = queue-after b s reach u f g ∙ ap without_dues unsettled-there

    list-same : (addr : ℕ) → is_among n (sleepers_at addr (after b s u).shared.queue.sleepers) ≡ is_among n (sleepers_at addr y.sleepers)
    list-same addr =
        ap (λ q. is_among n (sleepers_at addr (WaitQueue.sleepers q))) queue-there
        ∙ (ap (λ xs. is_among n (sleepers_at addr xs)) (applied-sleepers u y called) ∙ among-stays n u addr called y.sleepers apart not-woken)

    slot-same : has_slot (after b s u).shared.queue n ≡ has_slot y n
    slot-same =
        ap (λ q. nat_lt n (length (WaitQueue.due q))) queue-there
        ∙ ap (nat_lt n) (length-replicate {A = Option Answer} (length (applied u y called).due) None ∙ applied-long u y called)

    heeds-there : (a : Act) → Heeds s n a → Heeds (after b s u) n a
    heeds-there a (inl h) = inl (record { addr = h.addr; sleeps = list-same h.addr ∙ h.sleeps; act = h.act })
    heeds-there a (inr h) = inr (record { missing = rests-there ∙ h.missing; room = slot-same ∙ h.room; act = h.act })

    heeds-here : (a : Act) → Heeds (after b s u) n a → Heeds s n a
    heeds-here a (inl h) = inl (record { addr = h.addr; sleeps = sym (list-same h.addr) ∙ h.sleeps; act = h.act })
    heeds-here a (inr h) = inr (record { missing = sym rests-there ∙ h.missing; room = sym slot-same ∙ h.room; act = h.act })

    pub heeds-same : (a : Act) → Heeds s n a ↔ Heeds (after b s u) n a
    heeds-same a = (heeds-there a, heeds-here a)

  asleep : (s : World) (n u other : ℕ) (c e : Act) → CanReach b s → u ≢ n → u ≢ other → next_act b allowed s other ≡ Some e
      → next_act b allowed s n ≡ None → next_act b allowed s u ≡ Some c → ((a : Act) → Heeds s n a → acts_conflict a c ≡ true → ⊥)
      → (next_act b allowed (after b s u) n ≡ None) × ((a : Act) → Heeds s n a ↔ Heeds (after b s u) n a)
  asleep s n u other c e reach apart away wants_other none wants_u heeds =
      let does = doing-of b allowed s u c wants_u in
      let goes = doing-of b allowed s other e wants_other in
      let unheeded = (λ (a : Act) (h : Heeds s n a) (conflict : acts_conflict a (act s u does.0) ≡ true).
      heeds a h (ap (acts_conflict a) does.2 ∙ conflict)) in (
        rests-as s (after b s u) n (rests-there s reach n u other apart away does.0 goes.0 does.1 goes.1 unheeded) none,
        heeds-same s reach n u other apart away does.0 goes.0 does.1 goes.1 unheeded,
      )

  -- ---- Behind a plain turn

  abbrev IsPlainDoing : Memory → Doing → Type 0
  IsPlainDoing m Own = Unit {0}
  IsPlainDoing m (Makes e) = IsAccess m e

  plain-doing : (w : World) (n : ℕ) (d : Doing) → is_plain_act (opening_of b) (act w n d) ≡ true → IsPlainDoing w.shared.memory d
  plain-doing w n Own h = tt
  plain-doing w n (Makes e) h =
      let made = access_by (opening_of b) w.shared.memory (is_plain (w.threads n)) e in
      let plain = and_parts (judged allowed made).plain (not (looks_past (opening_of b) e) || nat_le (opening_of b) made.addr) h in
      is-access (opening_of b) w.shared.memory (is_plain (w.threads n)) e (both-true made.plain (not (may_race allowed made)) plain.0).0

  plain-call : (w : World) (d : Doing) → IsPlainDoing w.shared.memory d → call_in w.shared.queue w.shared.memory d ≡ Rests
  plain-call w Own is = refl
  plain-call w (Makes e) is = access-rests w.shared.queue w.shared.memory e is

  plain-starts : (w : World) (d : Doing) (k : ℕ) → IsPlainDoing w.shared.memory d → starts_in b w.shared d k ≡ None
  plain-starts w Own k is = refl
  plain-starts w (Makes e) k is = access-starts b w.shared w.shared.memory e k is

  module _ (s : World) (reach : CanReach b s) (u : ℕ) (f : Doing) (g : wants_at b s u ≡ wanting f) (plain : IsPlainDoing s.shared.memory f) where
    plain-untold : (k : ℕ) → answer_due (settled (applied u s.shared.queue (call_in s.shared.queue s.shared.memory f))) k ≡ None
    plain-untold k =
        ap (λ c. answer_due (settled (applied u s.shared.queue c)) k) (plain-call s f plain)
        ∙ (sym (ap (λ z. answer_due z k) (quiet-settled s.shared.queue u (free b s reach u f g))) ∙ nothing b s reach k)

    pub plain-unmoved : (k : ℕ) → k ≢ u → (after b s u).threads k ≡ s.threads k
    plain-unmoved k apart = unmoved b s reach u f g k apart (plain-starts s f k plain) (plain-untold k)

    plain-queue : (after b s u).shared.queue ≡ without_dues s.shared.queue
    plain-queue =
        queue-after b s reach u f g
        ∙ (ap (λ c. without_dues (settled (applied u s.shared.queue c))) (plain-call s f plain)
        ∙ sym (ap without_dues (quiet-settled s.shared.queue u (free b s reach u f g))))

    plain-self : (after b s u).threads u ≡ self_in b s u f
    plain-self =
        threads-after b s reach u f g u
        ∙ (ap (λ o. or_started o (hears b (put s.threads u (self_in b s u f) u)
        (answer_due (settled (applied u s.shared.queue (call_in s.shared.queue s.shared.memory f))) u))) (plain-starts s f u plain)
        ∙ (ap (hears b (put s.threads u (self_in b s u f) u)) (plain-untold u) ∙ put-same s.threads u (self_in b s u f)))

    not-gone-by : (c : Doing) → wants_at b s u ≡ wanting c → IsPlainDoing s.shared.memory c
        → unlimited_wants (machine_of b.program) (self_in b s u c) ≡ Gone → ⊥
    not-gone-by Own wants is gone = own-stays b.program (s.threads u) wants gone
    not-gone-by (Makes e) wants is gone =
        takes-stays b.program (s.threads u) e (reply_of s.shared.memory e) wants (no-leave s.shared.memory e is) gone

    pub goes-behind : next_act b allowed (after b s u) u ≡ None → ⊥
    goes-behind none = elim (rests-want (after b s u) u none) [
      | inl awaits ↦ both_ways (is_asleep s.shared.queue u) (free b s reach u f g).awake
          (sym (ap (λ q. is_asleep q u) plain-queue) ∙ awaits-asleep b nobody (after b s u) (reach-next b s u reach) u awaits)
      | inr gone ↦ not-gone-by f g plain (sym (ap (unlimited_wants (machine_of b.program)) plain-self) ∙ gone)
    ]

  quiet : (s : World) (n u : ℕ) (c : Act) → CanReach b s → u ≢ n → next_act b allowed s n ≡ None → next_act b allowed s u ≡ Some c
      → is_plain_act (opening_of b) c ≡ true → next_act b allowed (after b s u) n ≡ None
  quiet s n u c reach apart none wants_u plain =
      let does = doing-of b allowed s u c wants_u in
      let is = plain-doing s u does.0 (sym (ap (is_plain_act (opening_of b)) does.2) ∙ plain) in
      rests-as s (after b s u) n (plain-unmoved s reach u does.0 does.1 is n (λ e. apart (sym e))) none

  some-act : (o : Option Act) → (o ≡ None → ⊥) → (a : Act) × (o ≡ Some a)
  some-act None h = absurd (h refl)
  some-act (Some a) h = (a, refl)

  goes_on : (s : World) (n : ℕ) (a : Act) → CanReach b s → next_act b allowed s n ≡ Some a → is_plain_act (opening_of b) a ≡ true
      → (c : Act) × (next_act b allowed (after b s n) n ≡ Some c)
  goes_on s n a reach wants_n plain =
      let does = doing-of b allowed s n a wants_n in
      let is = plain-doing s n does.0 (sym (ap (is_plain_act (opening_of b)) does.2) ∙ plain) in
      some-act (next_act b allowed (after b s n) n) (goes-behind s reach n does.0 does.1 is)

  awake : (s : World) (n : ℕ) (a c : Act) → CanReach b s → next_act b allowed s n ≡ Some a → Heeds s n c → ⊥
  awake s n a c reach wants_n (inl k) =
      let does = doing-of b allowed s n a wants_n in
      wanting-not (wants_at b s n) does.0 does.1
      (inl (asleep-awaits b s reach n (list_any-filtered (λ (t : Sleeper). t.addr == k.addr) (λ (t : Sleeper). t.thread == n) s.shared.queue.sleepers
      k.sleeps)))
  awake s n a c reach wants_n (inr k) =
      let does = doing-of b allowed s n a wants_n in
      wanting-not (wants_at b s n) does.0 does.1 (inr (ap (unlimited_wants (machine_of b.program)) k.missing))

  pub laws : AreTurns (turns_of b allowed)
  laws = record {
    states = states;
    mutual_is = λ a c h. acts-swap c a ∙ h;
    kept = λ s n u a c reach apart wants_n wants_u spared. kept s n u a c reach apart wants_n wants_u spared;
    swap = λ s n u a c reach apart wants_n wants_u spared. swap s n u a c reach apart wants_n wants_u spared;
    still = λ s n u a c reach apart wants_n wants_u. still s n u a c reach apart wants_n wants_u;
    asleep = λ s n u other c e reach apart away wants_other none wants_u heeds.
        asleep s n u other c e reach apart away wants_other none wants_u heeds;
    quiet = λ s n u c reach apart none wants_u plain. quiet s n u c reach apart none wants_u plain;
    awake = λ s n a c reach wants_n heeds. awake s n a c reach wants_n heeds;
    goes_on = λ s n a reach wants_n plain. goes_on s n a reach wants_n plain;
  }

pub turns-are-apart : TurnsAreApart
turns-are-apart b allowed nobody = laws b allowed nobody
