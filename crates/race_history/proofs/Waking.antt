-- Who was woken and hasn't taken the answer, and whom an answer taken was due to.
use Rattle.std.proofs.Common.{◌≡◌, ◌∙◌, ◌<◌, ◌+◌, ◌++◌, ◌==◌, ℕ, List, [], ◌∷◌, Bool, true, false, not, length}
use Rattle.std.proofs.Common.{map, filter, take, inl, inr, refl, sym, ap, subst, arith}
use Rattle.std.specs.List.{Contains, list_any}
use Rattle.std.proofs.lemmas.Bool.{both_ways, cases_lt, cond-true, cond_both, eq-eqb, eqb-true, ne_eqb, not-true, not_from_false, or_cases}
use Rattle.std.proofs.lemmas.List.{length_push}
use Rattle.std.proofs.lemmas.List.Elements.{Contains-append_cases, Contains-append_left, Contains-append_right}
use Rattle.std.proofs.lemmas.List.Folds.{list_any_at}
use Rattle.types.specs.declared.event.Entry.{Entry}
use Rattle.types.specs.declared.event.Event.{Event}
use Rattle.types.specs.declared.event.Event.TheVariants.{Size, Grow, Load, Store, Rmw, Cmpxchg, Ask, Told}
use Rattle.types.specs.declared.event.Question.TheVariants.{Wait, Notify, Spawn, Leave}
use Rattle.shared_memory.specs.declared.sleeper.Sleeper.{Sleeper}
use Rattle.shared_memory.specs.WaitQueue.{is_among, woken_at}
use Rattle.shared_memory.specs.History.{queue_after}
use Rattle.race_history.specs.declared.calls.Woken.{Woken}
use Rattle.race_history.specs.Accesses.{is_out_of_bounds}
use Rattle.race_history.specs.Places.{IsAt, is_told, is_told_at, thread_at}
use Rattle.race_history.specs.Order.{IsWakeOf, Wakes}
use Rattle.race_history.specs.Calls.{AreWakers, AreWoken, IsPending, noted, noted_after, notified, noting, wakers_at}
use Rattle.race_history.proofs.Lists.{Contains-filter, Contains-here, Contains-map, Contains-none, Contains-there}
use Rattle.race_history.proofs.Lists.{IsAt-same, filter-Contains, lists_all, lists_from, map-Contains, map-at}

any_has : {X : Type 0} (p : X → Bool) (xs : List X) → list_any p xs ≡ true → (x : X) × (Contains xs x × (p x ≡ true))
any_has p [] h = absurd (both_ways false refl h)
any_has p (x ∷ xs) h =
    elim (or_cases (p x) (list_any p xs) h) [
      | inl here ↦ (x, (Contains-here x xs, here))
      | inr there ↦ let q = any_has p xs there in (q.0, (Contains-there x xs q.0 q.1.0, q.1.1))
    ]

has_any : {X : Type 0} (p : X → Bool) (xs : List X) (x : X) → Contains xs x → p x ≡ true → list_any p xs ≡ true
has_any p xs x c h = list_any_at p xs c.0 x c.1 (ap p c.2 ∙ h)

abbrev is_notify : Event → Bool
is_notify (Ask (Notify addr count)) = true
is_notify _ = false

abbrev addr_of : Event → ℕ
addr_of (Ask (Notify addr count)) = addr
addr_of _ = 0

abbrev count_of : Event → ℕ
count_of (Ask (Notify addr count)) = count
count_of _ = 0

module _ (log : List Entry) (place : ℕ) where
  pending_more : (p n : ℕ) → IsPending log place p n → (is_told_at log place ≡ true → thread_at log place ≡ n → ⊥) → IsPending log (place + 1) p n
  pending_more p n h unheard = record {
    earlier = let lt : p < place = h.earlier in omega arith;
    wake = h.wake;
    untold = λ k after before t s. elim (cases_lt k place) [
      | inl lt ↦ h.untold k after lt t s
      | inr le ↦
          let e : k ≡ place = omega arith in
          unheard (subst (λ (j : ℕ). is_told_at log j ≡ true) e t) (subst (λ (j : ℕ). thread_at log j ≡ n) e s)
    ];
  }

  pending_less : (p n : ℕ) → IsPending log (place + 1) p n → p < place → IsPending log place p n
  pending_less p n h lt = record {
    earlier = lt;
    wake = h.wake;
    untold = λ k after before t s. h.untold k after (omega arith) t s;
  }

  pending_new : (n : ℕ) → IsWakeOf log place n → IsPending log (place + 1) place n
  pending_new n w = record {
    earlier = omega arith;
    wake = w;
    untold = λ k after before t s. absurd (omega arith);
  }

  quiet_more : (woken : List Woken) → is_told_at log place ≡ false → ((n : ℕ) → IsWakeOf log place n → ⊥) → AreWoken log place woken
      → AreWoken log (place + 1) woken
  quiet_more woken quiet nobody h = record {
    from = λ w c. pending_more w.place w.thread (h.from w c) (λ t s. both_ways (is_told_at log place) quiet t);
    all = λ p n i. elim (cases_lt p place) [
      | inl lt ↦ h.all p n (pending_less p n i lt)
      | inr le ↦
          let before : p < place + 1 = i.earlier in
          let e : p ≡ place = omega arith in
          absurd (nobody n (subst (λ (k : ℕ). IsWakeOf log k n) e i.wake))
    ];
  }

  module _ (e : Entry) (at : IsAt log place e) where
    thread_here : thread_at log place ≡ e.thread
    thread_here = map-at (λ (x : Entry). x.thread) log place e 0 at

    told_here : is_told_at log place ≡ is_told e.event
    told_here = map-at (λ (x : Entry). is_told x.event) log place e false at

    -- who wakes is a notify
    wake_event : (n : ℕ) (w : IsWakeOf log place n) → e.event ≡ Ask (Notify w.addr w.count)
    wake_event n w = ap (λ (x : Entry). x.event) (IsAt-same log place e w.entry at w.entered) ∙ w.notifies

    wake_inside : (n : ℕ) (w : IsWakeOf log place n) → is_out_of_bounds e.reply ≡ false
    wake_inside n w = ap (λ (x : Entry). is_out_of_bounds x.reply) (IsAt-same log place e w.entry at w.entered) ∙ w.within

    module _ (woken : List Woken) (h : AreWoken log place woken) where
      told_more : is_told e.event ≡ true → AreWoken log (place + 1) (filter (λ (w : Woken). not (w.thread == e.thread)) woken)
      told_more told =
          let test : Woken → Bool = λ w. not (w.thread == e.thread) in
          record {
            from = λ w c.
                let q = Contains-filter test woken w c in
                pending_more w.place w.thread (h.from w q.0)
                (λ t s. both_ways (w.thread == e.thread) (not-true (w.thread == e.thread) q.1) (eq-eqb w.thread e.thread (sym s ∙ thread_here)));
            all = λ p n i. elim (cases_lt p place) [
              | inl lt ↦
                  let apart : n ≡ e.thread → ⊥ = λ f. i.untold place lt (omega arith) (told_here ∙ told) (thread_here ∙ sym f) in
                  filter-Contains test woken (record { place = p; thread = n }) (h.all p n (pending_less p n i lt))
                  (not_from_false (n == e.thread) (ne_eqb n e.thread apart))
              | inr le ↦
                  let before : p < place + 1 = i.earlier in
                  let f : p ≡ place = omega arith in
                  let w : IsWakeOf log place n = subst (λ (k : ℕ). IsWakeOf log k n) f i.wake in
                  absurd (both_ways (is_told e.event) (ap is_told (wake_event n w)) told)
            ];
          }

      -- a notify
      module _ (addr count : ℕ) (sleepers : List Sleeper) (is : e.event ≡ Ask (Notify addr count)) (inside : is_out_of_bounds e.reply ≡ false)
          (same : sleepers ≡ (queue_after (take place log)).sleepers) where
        wakes_one : (s : Sleeper) → Contains (woken_at addr count sleepers) s → IsWakeOf log place s.thread
        wakes_one s c = record {
          entry = e;
          addr = addr;
          count = count;
          entered = at;
          notifies = is;
          within = inside;
          woken =
              subst (λ (l : List Sleeper). is_among s.thread (woken_at addr count l) ≡ true) same
              (has_any (λ (t : Sleeper). t.thread == s.thread) (woken_at addr count sleepers) s c (eq-eqb s.thread s.thread refl));
        }

        one_woken : (n : ℕ) → IsWakeOf log place n → Contains (notified sleepers addr count place) (record { place = place; thread = n })
        one_woken n w =
            let event : Ask (Notify w.addr w.count) ≡ Ask (Notify addr count) = sym (wake_event n w) ∙ is in
            let same_addr : w.addr ≡ addr = ap addr_of event in
            let same_count : w.count ≡ count = ap count_of event in
            let among : is_among n (woken_at addr count sleepers) ≡ true =
            subst (λ (l : List Sleeper). is_among n (woken_at addr count l) ≡ true) (sym same)
            (subst (λ (k : ℕ). is_among n (woken_at addr k (queue_after (take place log)).sleepers) ≡ true) same_count
            (subst (λ (k : ℕ). is_among n (woken_at k w.count (queue_after (take place log)).sleepers) ≡ true) same_addr w.woken)) in
            let q = any_has (λ (t : Sleeper). t.thread == n) (woken_at addr count sleepers) among in
            let s : Sleeper = q.0 in
            subst (λ (m : ℕ). Contains (notified sleepers addr count place) (record { place = place; thread = m })) (eqb-true s.thread n q.1.1)
            (map-Contains (noting place) (woken_at addr count sleepers) s q.1.0)

        notify_more : AreWoken log (place + 1) (woken ++ notified sleepers addr count place)
        notify_more = record {
          from = λ w c. elim (Contains-append_cases woken (notified sleepers addr count place) w c) [
            | inl old ↦
                pending_more w.place w.thread (h.from w old)
                (λ t s. both_ways (is_told_at log place) (told_here ∙ ap is_told is) t)
            | inr new ↦
                let q = Contains-map (noting place) (woken_at addr count sleepers) w new in
                subst (λ (v : Woken). IsPending log (place + 1) v.place v.thread) q.1.1 (pending_new q.0.thread (wakes_one q.0 q.1.0))
          ];
          all = λ p n i. elim (cases_lt p place) [
            | inl lt ↦
                Contains-append_left woken (notified sleepers addr count place) (record { place = p; thread = n })
                (h.all p n (pending_less p n i lt))
            | inr le ↦
                let before : p < place + 1 = i.earlier in
                let f : p ≡ place = omega arith in
                let w : IsWakeOf log place n = subst (λ (k : ℕ). IsWakeOf log k n) f i.wake in
                subst (λ (k : ℕ). Contains (woken ++ notified sleepers addr count place) (record { place = k; thread = n })) (sym f)
                (Contains-append_right woken (notified sleepers addr count place) (record { place = place; thread = n }) (one_woken n w))
          ];
        }

      -- any other event
      plain_more : (event : Event) → e.event ≡ event → is_told event ≡ false → is_notify event ≡ false → AreWoken log (place + 1) woken
      plain_more event is untold plain =
          quiet_more woken (told_here ∙ (ap is_told is ∙ untold))
          (λ n w. both_ways (is_notify event) plain (ap is_notify (sym is ∙ wake_event n w))) h

      module _ (sleepers : List Sleeper) (same : sleepers ≡ (queue_after (take place log)).sleepers) where
        noted_event : (event : Event) → e.event ≡ event
            → AreWoken log (place + 1) (noted_after sleepers place e.thread (is_out_of_bounds e.reply) event woken)
        noted_event (Told answer) is = told_more (ap is_told is)
        noted_event (Ask (Notify addr count)) is =
            cond_both (is_out_of_bounds e.reply) woken (woken ++ notified sleepers addr count place) (AreWoken log (place + 1))
            (λ out. quiet_more woken (told_here ∙ ap is_told is) (λ n w. both_ways (is_out_of_bounds e.reply) (wake_inside n w) out) h)
            (λ inside. notify_more addr count sleepers is inside same)
        noted_event (Ask (Wait addr width expected timeout)) is = plain_more (Ask (Wait addr width expected timeout)) is refl refl
        noted_event (Ask (Spawn arg)) is = plain_more (Ask (Spawn arg)) is refl refl
        noted_event (Ask Leave) is = plain_more (Ask Leave) is refl refl
        noted_event Size is = plain_more Size is refl refl
        noted_event (Grow more) is = plain_more (Grow more) is refl refl
        noted_event (Load addr width reach) is = plain_more (Load addr width reach) is refl refl
        noted_event (Store addr width reach value) is = plain_more (Store addr width reach value) is refl refl
        noted_event (Rmw op addr width value) is = plain_more (Rmw op addr width value) is refl refl
        noted_event (Cmpxchg addr width expected replacement) is = plain_more (Cmpxchg addr width expected replacement) is refl refl

        pub noted_more : AreWoken log (place + 1) (noted sleepers place e woken)
        noted_more = noted_event e.event refl

      -- whose answer is taken here

      pub wakers_from : (first : ℕ) → Contains (wakers_at e woken) first → Wakes log first place
      wakers_from first =
          let test : Woken → Bool = λ w. w.thread == e.thread in
          let place_of : Woken → ℕ = λ w. w.place in
          cond_both (is_told e.event) (map place_of (filter test woken)) [] (λ (l : List ℕ). Contains l first → Wakes log first place)
          (λ told c.
          let m = Contains-map place_of (filter test woken) first c in
          let w : Woken = m.0 in
          let f = Contains-filter test woken w m.1.0 in
          let n : w.thread ≡ thread_at log place = eqb-true w.thread e.thread f.1 ∙ sym thread_here in
          let pending : IsPending log place first (thread_at log place) =
          subst (λ (k : ℕ). IsPending log place k (thread_at log place)) m.1.1
          (subst (λ (k : ℕ). IsPending log place w.place k) n (h.from w f.0)) in
          record {
            earlier = pending.earlier;
            within = at.within;
            wake = pending.wake;
            told = told_here ∙ told;
            next = pending.untold;
          })
          (λ isnt c. absurd (Contains-none first c))

      pub wakers_to : (first : ℕ) → Wakes log first place → Contains (wakers_at e woken) first
      wakers_to first r =
          let test : Woken → Bool = λ w. w.thread == e.thread in
          let place_of : Woken → ℕ = λ w. w.place in
          let told : is_told e.event ≡ true = sym told_here ∙ r.told in
          let one : Woken = record { place = first; thread = thread_at log place } in
          let has : Contains woken one =
          h.all first (thread_at log place) (record { earlier = r.earlier; wake = r.wake; untold = r.next }) in
          subst (λ (l : List ℕ). Contains l first) (sym (cond-true (is_told e.event) (map place_of (filter test woken)) [] told))
          (map-Contains place_of (filter test woken) one
          (filter-Contains test woken one has (eq-eqb (thread_at log place) e.thread thread_here)))

-- at first, and one more
pub woken_none : (log : List Entry) → AreWoken log 0 []
woken_none log = record {
  from = λ w c. absurd (Contains-none w c);
  all = λ p n i. let lt : p < 0 = i.earlier in absurd (omega arith);
}

pub wakers_none : (log : List Entry) → AreWakers log 0 []
wakers_none log = record {
  count = refl;
  from = λ first second c. absurd (Contains-none first c);
  all = λ first second lt r. absurd (omega arith);
}

pub wakers_more : (log : List Entry) (end : ℕ) (ws : List (List ℕ)) (l : List ℕ) → AreWakers log end ws
    → ((first : ℕ) → Contains l first → Wakes log first end) → ((first : ℕ) → Wakes log first end → Contains l first)
    → AreWakers log (end + 1) (ws ++ l ∷ [])
wakers_more log end ws l h from to =
    let count : length ws ≡ end = h.count in
    record {
      count = length_push ws l ∙ ap (λ (n : ℕ). n + 1) count;
      from = lists_from (Wakes log) end ws l count h.from from;
      all = lists_all (Wakes log) end ws l count h.all to;
    }
