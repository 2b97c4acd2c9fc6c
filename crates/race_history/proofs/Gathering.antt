-- The entries just before one.
use Rattle.std.proofs.Common.{◌≡◌, ◌∙◌, ◌⊎◌, ◌<◌, ◌≤◌, ◌+◌, ◌++◌, ◌==◌, ℕ, zero, suc, List, [], Option, Some, None}
use Rattle.std.proofs.Common.{length, get_or, set, take, inl, inr, refl, sym, ap, subst, arith, add-one}
use Rattle.std.proofs.Common.{get_or-set_other, get_or-set_same}
use Rattle.std.specs.Prelude.{nat_lt, slice_get}
use Rattle.std.specs.List.{Contains}
use Rattle.std.specs.Option.{option_to_list}
use Rattle.std.proofs.lemmas.Bool.{cases_eq, cases_lt, cond-false, cond-true, eq-eqb, lt-ltb, ltb-true, ne_eqb}
use Rattle.std.proofs.lemmas.List.Elements.{Contains-append_cases, Contains-append_left, Contains-append_right}
use Rattle.std.proofs.lemmas.Option.{cond_some, get_or_from_slice_get, none-some, same_Some, slice_get-get_or, slice_get_within}
use Rattle.types.specs.declared.event.Entry.{Entry}
use Rattle.shared_memory.specs.History.{queue_after}
use Rattle.race_history.specs.declared.access.Site.{Site}
use Rattle.race_history.specs.Places.{IsAt, thread_at}
use Rattle.race_history.specs.Order.{IsEdge, IsOfOneThread, IsStartOf, ReadsFrom, Starts, Wakes}
use Rattle.race_history.specs.Calls.{AreStarts, AreWakers}
use Rattle.race_history.specs.Writers.{AreWriters}
use Rattle.race_history.specs.Sources.{AreSources, if_before, last_of, start_before}
use Rattle.race_history.proofs.Lists.{in_some, some_in}

module _ (log : List Entry) where
  -- the last entry of a thread before a place
  pub last_of_is : (n place p : ℕ) → last_of log n place ≡ Some p → (p < place) × (thread_at log p ≡ n)
  last_of_is n zero p e = absurd (none-some p e)
  last_of_is n (suc place) p e = elim (cases_eq (thread_at log place) n) [
    | inl same ↦
        let here : Some place ≡ Some p =
        sym (cond-true (thread_at log place == n) (Some place) (last_of log n place) (eq-eqb (thread_at log place) n same)) ∙ e in
        let at : place ≡ p = same_Some place p here in
        (omega arith, subst (λ (k : ℕ). thread_at log k ≡ n) at same)
    | inr other ↦
        let there : last_of log n place ≡ Some p =
        sym (cond-false (thread_at log place == n) (Some place) (last_of log n place) (ne_eqb (thread_at log place) n other)) ∙ e in
        let q = last_of_is n place p there in
        let lt : p < place = q.0 in (omega arith, q.1)
  ]

  pub last_of_has : (n place i : ℕ) → i < place → thread_at log i ≡ n → (p : ℕ) × ((last_of log n place ≡ Some p) × (i ≤ p))
  last_of_has n zero i lt same = absurd (omega arith)
  last_of_has n (suc place) i lt same = elim (cases_eq (thread_at log place) n) [
    | inl here ↦
        (place, (cond-true (thread_at log place == n) (Some place) (last_of log n place) (eq-eqb (thread_at log place) n here), omega arith))
    | inr other ↦ elim (cases_lt i place) [
      | inl before ↦
          let q = last_of_has n place i before same in
          (q.0, (cond-false (thread_at log place == n) (Some place) (last_of log n place) (ne_eqb (thread_at log place) n other) ∙ q.1.0, q.1.1))
      | inr le ↦
          let e : i ≡ place = omega arith in
          absurd (other (subst (λ (k : ℕ). thread_at log k ≡ n) e same))
    ]
  ]

  last_of_next : (n place : ℕ) → (o : Option ℕ) → last_of log n (suc place) ≡ o → last_of log n (place + 1) ≡ o
  last_of_next n place o e = rw add-one e

  -- the last entries of all threads, one entry on
  pub previous_more : (place threads : ℕ) (previous : List (Option ℕ)) → length previous ≡ threads
      → ((n : ℕ) → n < threads → get_or previous n None ≡ last_of log n place)
      → (n : ℕ) → n < threads → get_or (set previous (thread_at log place) (Some place)) n None ≡ last_of log n (place + 1)
  previous_more place threads previous long h n lt = elim (cases_eq n (thread_at log place)) [
    | inl same ↦
        let within : thread_at log place < length previous = omega arith in
        let now : last_of log n (suc place) ≡ Some place =
        cond-true (thread_at log place == n) (Some place) (last_of log n place) (eq-eqb (thread_at log place) n (sym same)) in
        ap (λ (k : ℕ). get_or (set previous (thread_at log place) (Some place)) k None) same
        ∙ (get_or-set_same previous (thread_at log place) (Some place) None within ∙ sym (last_of_next n place (Some place) now))
    | inr other ↦
        let now : last_of log n (suc place) ≡ last_of log n place =
        cond-false (thread_at log place == n) (Some place) (last_of log n place) (ne_eqb (thread_at log place) n (λ e. other (sym e))) in
        get_or-set_other previous (thread_at log place) n (Some place) None other
        ∙ (h n lt ∙ sym (last_of_next n place (last_of log n place) now))
  ]

  -- the start of a thread
  module _ (starts : List ℕ) (h : AreStarts log (length log) starts) (place : ℕ) (within : place < length log) where
    start_in : (n : ℕ) → thread_at log place ≡ suc n → (o : Option ℕ) → slice_get starts n ≡ o → (i : ℕ) → if_before place o ≡ Some i
        → Starts log i place
    start_in n same None g i e = absurd (none-some i e)
    start_in n same (Some start) g i e =
        let p = cond_some (nat_lt start place) start i e in
        let at : IsAt starts n start = record { within = slice_get_within starts n start g; is = get_or_from_slice_get starts n start start g } in
        let number : n + 1 ≡ thread_at log place = omega arith in
        let starts_it : IsStartOf log start (thread_at log place) = subst (λ (k : ℕ). IsStartOf log start k) number (h.from start n at).1 in
        subst (λ (k : ℕ). Starts log k place) p.1
        (record { earlier = ltb-true start place p.0; within = within; start = starts_it })

    start_from : (n : ℕ) → thread_at log place ≡ n → (i : ℕ) → start_before starts n place ≡ Some i → Starts log i place
    start_from zero same i e = absurd (none-some i e)
    start_from (suc n) same i e = start_in n same (slice_get starts n) refl i e

    start_to : (n : ℕ) → thread_at log place ≡ n → (i : ℕ) → Starts log i place → start_before starts n place ≡ Some i
    start_to zero same i s =
        let next : length (queue_after (take i log)).args + 1 ≡ thread_at log place = s.start.next in
        absurd (omega arith)
    start_to (suc n) same i s =
        let number : thread_at log place ≡ n + 1 = omega arith in
        let earlier : i < place = s.earlier in
        let at : IsAt starts n i = h.all i n (omega arith) (subst (λ (k : ℕ). IsStartOf log i k) number s.start) in
        let get : slice_get starts n ≡ Some i = slice_get-get_or starts n i at.within ∙ ap (λ (k : ℕ). Some k) at.is in
        ap (if_before place) get ∙ cond-true (nat_lt i place) (Some i) None (lt-ltb i place earlier)

-- all that come just before
module _ (log : List Entry) (sites : List Site) (opening : ℕ) (place : ℕ) (within : place < length log)
    (wakers : List ℕ) (start : Option ℕ) (writers : List ℕ) (previous : Option ℕ)
    (wakers_from : (i : ℕ) → Contains wakers i → Wakes log i place) (wakers_to : (i : ℕ) → Wakes log i place → Contains wakers i)
    (start_from : (i : ℕ) → start ≡ Some i → Starts log i place) (start_to : (i : ℕ) → Starts log i place → start ≡ Some i)
    (writers_from : (i : ℕ) → Contains writers i → ReadsFrom log sites opening i place)
    (writers_to : (i : ℕ) → ReadsFrom log sites opening i place → Contains writers i)
    (last : previous ≡ last_of log (thread_at log place) place) where
  previous_from : (i : ℕ) → previous ≡ Some i → IsOfOneThread log i place
  previous_from i e =
      let q = last_of_is log (thread_at log place) place i (sym last ∙ e) in
      record { earlier = q.0; within = within; same = q.1 }

  here_from : (i : ℕ) → Contains (wakers ++ option_to_list start ++ writers ++ option_to_list previous) i → IsEdge log sites opening i place
  here_from i c =
      elim (Contains-append_cases (wakers ++ option_to_list start ++ writers) (option_to_list previous) i c) [
        | inl three ↦ elim (Contains-append_cases (wakers ++ option_to_list start) (writers) i three) [
          | inl two ↦ elim (Contains-append_cases wakers (option_to_list start) i two) [
            | inl one ↦ inr (inr (inr (wakers_from i one)))
            | inr s ↦ inr (inl (start_from i (some_in start i s)))
          ]
          | inr r ↦ inr (inr (inl (writers_from i r)))
        ]
        | inr p ↦ inl (previous_from i (some_in previous i p))
      ]

  abbrev Covers : ℕ → ℕ → Type 0
  Covers i k =
      Contains (wakers ++ option_to_list start ++ writers ++ option_to_list previous) k × ((i ≡ k) ⊎ IsEdge log sites opening i k)

  in_three : (i : ℕ) → Contains (wakers ++ option_to_list start ++ writers) i → (k : ℕ) × Covers i k
  in_three i c =
      (i, (Contains-append_left (wakers ++ option_to_list start ++ writers) (option_to_list previous) i c, inl refl))

  in_two : (i : ℕ) → Contains (wakers ++ option_to_list start) i → (k : ℕ) × Covers i k
  in_two i c = in_three i (Contains-append_left (wakers ++ option_to_list start) (writers) i c)

  of_thread : (i : ℕ) → IsOfOneThread log i place → (k : ℕ) × Covers i k
  of_thread i o =
      let q = last_of_has log (thread_at log place) place i o.earlier o.same in
      let p : ℕ = q.0 in
      let is = last_of_is log (thread_at log place) place p q.1.0 in
      let before : p < place = is.0 in
      let late : i ≤ p = q.1.1 in
      let has : Contains (wakers ++ option_to_list start ++ writers ++ option_to_list previous) p =
      Contains-append_right (wakers ++ option_to_list start ++ writers) (option_to_list previous) p
      (in_some previous p (last ∙ q.1.0)) in
      elim (cases_lt i p) [
        | inl lt ↦ (p, (has, inr (inl (record { earlier = lt; within = omega arith; same = o.same ∙ sym is.1 }))))
        | inr le ↦ (p, (has, inl (omega arith)))
      ]

  pub sources_here : AreSources log sites opening place (wakers ++ option_to_list start ++ writers ++ option_to_list previous)
  sources_here = record {
    from = here_from;
    all = λ i e. elim e [
      | inl o ↦ of_thread i o
      | inr more ↦ elim more [
        | inl s ↦ in_two i (Contains-append_right wakers (option_to_list start) i (in_some start i (start_to i s)))
        | inr more' ↦ elim more' [
          | inl r ↦
              in_three i (Contains-append_right (wakers ++ option_to_list start) (writers) i (writers_to i r))
          | inr w ↦ in_two i (Contains-append_left wakers (option_to_list start) i (wakers_to i w))
        ]
      ]
    ];
  }

-- those that are gathered
pub sources_next : (log : List Entry) (sites : List Site) (opening place : ℕ) → place < length log
    → (writers : List (List ℕ)) → AreWriters log sites opening (length log) writers → (starts : List ℕ) → AreStarts log (length log) starts
    → (wakers : List (List ℕ)) → AreWakers log (length log) wakers → (previous : Option ℕ) → previous ≡ last_of log (thread_at log place) place
    → AreSources log sites opening place (get_or wakers place [] ++ option_to_list (start_before starts (thread_at log place) place)
    ++ get_or writers place [] ++ option_to_list previous)
sources_next log sites opening place within writers written starts started wakers woken previous last =
    sources_here log sites opening place within (get_or wakers place []) (start_before starts (thread_at log place) place)
    (get_or writers place []) previous (λ i c. woken.from i place c) (λ i w. woken.all i place within w)
    (start_from log starts started place within (thread_at log place) refl) (start_to log starts started place within (thread_at log place) refl)
    (λ i c. written.from i place c) (λ i r. written.all i place within r) last

pub same_four : (w v : List ℕ) (s t : Option ℕ) (r q : List ℕ) (p o : Option ℕ) → w ≡ v → s ≡ t → r ≡ q → p ≡ o
    → w ++ option_to_list s ++ r ++ option_to_list p ≡ v ++ option_to_list t ++ q ++ option_to_list o
same_four w v s t r q p o a b c d =
    ap (λ (x : List ℕ). x ++ option_to_list s ++ r ++ option_to_list p) a
    ∙ (ap (λ (x : Option ℕ). v ++ option_to_list x ++ r ++ option_to_list p) b
    ∙ (ap (λ (x : List ℕ). v ++ option_to_list t ++ x ++ option_to_list p) c
    ∙ ap (λ (x : Option ℕ). v ++ option_to_list t ++ q ++ option_to_list x) d))
