-- Whose timeout ends first: that sleeper has one, and no other one's ends before it.
use Rattle.std.proofs.Common.{◌≡◌, ℕ, ◌<◌, ◌≤◌, ◌==◌, true, false, ◌&&◌, ◌||◌, List, [], ◌∷◌, length, Option, Some}
use Rattle.std.proofs.Common.{None, refl, sym, ◌∙◌, ap, subst, ◌⊎◌, inl, inr, arith, zero, suc, get_or}
use Rattle.std.specs.Prelude.{nat_lt}
use Rattle.std.specs.List.{Contains}
use Rattle.std.proofs.lemmas.Bool.{both_ways, cond_both, cond-true, cond-false, cases_Bool, or_left, or_right, eq-eqb}
use Rattle.std.proofs.lemmas.Bool.Decides.{nat_tests}
use Rattle.shared_memory.specs.declared.sleeper.Sleeper.{Sleeper}
use Rattle.shared_memory.specs.WaitQueue.{is_among, amount, has_timeout, ends_before, earlier, first_to_end}
use Rattle.shared_memory.specs.Sound.{SleepOnce}

-- who is in a list

-- A sleeper is in a list, by recursion on it.
abbrev pub IsIn : Sleeper → List Sleeper → Type 0
IsIn s [] = ⊥
IsIn s (t ∷ ts) = (t ≡ s) ⊎ IsIn s ts

pub in_from_contains : (s : Sleeper) (ts : List Sleeper) → Contains ts s → IsIn s ts
in_from_contains s ts h = go ts h.0 h.1 h.2
  where
    go : (us : List Sleeper) (k : ℕ) → k < length us → get_or us k s ≡ s → IsIn s us
    go [] k below is = absurd (omega arith)
    go (u ∷ us) zero below is = inl is
    go (u ∷ us) (suc k) below is = let rest : k < length us = omega arith in inr (go us k rest is)

pub in_among : (s : Sleeper) (ts : List Sleeper) → IsIn s ts → is_among s.thread ts ≡ true
in_among s [] h = absurd h
in_among s (t ∷ ts) h = elim h [
  | inl e ↦ or_left (t.thread == s.thread) (is_among s.thread ts) (eq-eqb t.thread s.thread (ap (λ (u : Sleeper). u.thread) e))
  | inr rest ↦ or_right (t.thread == s.thread) (is_among s.thread ts) (in_among s ts rest)
]

-- of those who sleep once two with one number are one
pub one_sleeper : (s t : Sleeper) (us : List Sleeper) → SleepOnce us → IsIn s us → IsIn t us → s.thread ≡ t.thread → s ≡ t
one_sleeper s t [] once h k same = absurd h
one_sleeper s t (u ∷ us) once h k same =
    elim h [
      | inl e ↦ elim k [
        | inl d ↦ sym e ∙ d
        | inr later ↦ absurd (both_ways (is_among u.thread us) once.0 (subst (λ (n : ℕ). is_among n us ≡ true)
            (sym same ∙ sym (ap (λ (v : Sleeper). v.thread) e)) (in_among t us later)))
      ]
      | inr rest ↦ elim k [
        | inl d ↦ absurd (both_ways (is_among u.thread us) once.0 (subst (λ (n : ℕ). is_among n us ≡ true)
            (same ∙ sym (ap (λ (v : Sleeper). v.thread) d)) (in_among s us rest)))
        | inr later ↦ one_sleeper s t us once.1 rest later same
      ]
    ]

-- the first timeout to end

-- The timeout of one sleeper doesn't end after another's.
abbrev pub NotAfter : Sleeper → Sleeper → Type 0
NotAfter s t = (amount s.timeout < amount t.timeout) ⊎ ((amount s.timeout ≡ amount t.timeout) × (s.thread ≤ t.thread))

-- by the numbers alone
numbers_before : (a m b n : ℕ) → (nat_lt a b || ((a == b) && nat_lt m n)) ≡ true → (a < b) ⊎ ((a ≡ b) × (m ≤ n))
numbers_before a m b n is = grind (arith, nat_tests)

numbers_after : (a m b n : ℕ) → (nat_lt a b || ((a == b) && nat_lt m n)) ≡ false → (b < a) ⊎ ((b ≡ a) × (n ≤ m))
numbers_after a m b n isnt = grind (arith, nat_tests)

numbers_chain : (a m b n c o : ℕ) → (a < b) ⊎ ((a ≡ b) × (m ≤ n)) → (b < c) ⊎ ((b ≡ c) × (n ≤ o)) → (a < c) ⊎ ((a ≡ c) × (m ≤ o))
numbers_chain a m b n c o h k = grind arith

NotAfter-trans : (s t u : Sleeper) → NotAfter s t → NotAfter t u → NotAfter s u
NotAfter-trans s t u h k = numbers_chain (amount s.timeout) s.thread (amount t.timeout) t.thread (amount u.timeout) u.thread h k

NotAfter-same : (s t : Sleeper) → s ≡ t → NotAfter s t
NotAfter-same s t e = let same : s.thread ≡ t.thread = ap (λ (v : Sleeper). v.thread) e in inr (ap (λ (v : Sleeper). amount v.timeout) e, omega arith)

-- What is known of the first timeout to end: whose it is sleeps and has one, and none ends before it.
pub record IsFirst (f : Sleeper) (sleepers : List Sleeper) : Type 0 where
  pub sleeps : IsIn f sleepers
  pub timed : has_timeout f ≡ true
  pub least : (t : Sleeper) → IsIn t sleepers → has_timeout t ≡ true → NotAfter f t

-- where no timeout ends first, nobody has one
pub none_timed : (sleepers : List Sleeper) → first_to_end sleepers ≡ None → (t : Sleeper) → IsIn t sleepers → has_timeout t ≡ false
none_timed [] none t h = absurd h
none_timed (s ∷ sleepers) none t h =
    elim (cases_Bool (has_timeout s)) [
      | inl is ↦ (let some : first_to_end (s ∷ sleepers) ≡ Some (earlier s (first_to_end sleepers)) =
          cond-true (has_timeout s) (Some (earlier s (first_to_end sleepers))) (first_to_end sleepers) is in
          absurd (cc (none, some)))
      | inr isnt ↦ (let rest : first_to_end sleepers ≡ None =
          sym (cond-false (has_timeout s) (Some (earlier s (first_to_end sleepers))) (first_to_end sleepers) isnt)
          ∙ none in
          elim h [
            | inl e ↦ subst (λ (v : Sleeper). has_timeout v ≡ false) e isnt
            | inr later ↦ none_timed sleepers rest t later
          ])
    ]

-- the earlier one of a sleeper and the first of those behind it
earlier_first : (s : Sleeper) (sleepers : List Sleeper) (o : Option Sleeper) → has_timeout s ≡ true → first_to_end sleepers ≡ o
    → ((f : Sleeper) → first_to_end sleepers ≡ Some f → IsFirst f sleepers) → IsFirst (earlier s o) (s ∷ sleepers)
earlier_first s sleepers None timed is rest = record {
  sleeps = inl refl;
  timed = timed;
  least = λ t h due. elim h [
    | inl e ↦ NotAfter-same s t e
    | inr later ↦ absurd (both_ways (has_timeout t) (none_timed sleepers is t later) due)
  ];
}
earlier_first s sleepers (Some g) timed is rest =
    let first : IsFirst g sleepers = rest g is in
    cond_both (ends_before g s) g s (λ (w : Sleeper). IsFirst w (s ∷ sleepers))
    (λ before. let less : NotAfter g s = numbers_before (amount g.timeout) g.thread (amount s.timeout) s.thread before in record {
      sleeps = inr first.sleeps;
      timed = first.timed;
      least = λ t h due. elim h [
        | inl e ↦ subst (λ (v : Sleeper). NotAfter g v) e less
        | inr later ↦ first.least t later due
      ];
    })
    (λ not_before. let more : NotAfter s g = numbers_after (amount g.timeout) g.thread (amount s.timeout) s.thread not_before in record {
      sleeps = inl refl;
      timed = timed;
      least = λ t h due. elim h [
        | inl e ↦ NotAfter-same s t e
        | inr later ↦ NotAfter-trans s g t more (first.least t later due)
      ];
    })

pub first_is_first : (sleepers : List Sleeper) (f : Sleeper) → first_to_end sleepers ≡ Some f → IsFirst f sleepers
first_is_first [] f is = absurd (cc is)
first_is_first (s ∷ sleepers) f is =
    elim (cases_Bool (has_timeout s)) [
      | inl timed ↦ (let some : first_to_end (s ∷ sleepers) ≡ Some (earlier s (first_to_end sleepers)) =
          cond-true (has_timeout s) (Some (earlier s (first_to_end sleepers))) (first_to_end sleepers) timed in
          let same : earlier s (first_to_end sleepers) ≡ f = cc (some, is) in
          subst (λ (w : Sleeper). IsFirst w (s ∷ sleepers)) same
          (earlier_first s sleepers (first_to_end sleepers) timed refl (λ g later. first_is_first sleepers g later)))
      | inr untimed ↦ (let rest : first_to_end sleepers ≡ Some f =
          sym (cond-false (has_timeout s) (Some (earlier s (first_to_end sleepers))) (first_to_end sleepers) untimed)
          ∙ is in
          let first : IsFirst f sleepers = first_is_first sleepers f rest in record {
            sleeps = inr first.sleeps;
            timed = first.timed;
            least = λ t h due. elim h [
              | inl e ↦ absurd (both_ways (has_timeout s) untimed (subst (λ (v : Sleeper). has_timeout v ≡ true) (sym e) due))
              | inr later ↦ first.least t later due
            ];
          })
    ]
