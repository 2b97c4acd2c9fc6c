-- A log that begins with the list that all seats have seen, and has no other entry of anyone, is that list.
use Rattle.std.proofs.Common.{◌≡◌, ℕ, ◌<◌, ◌≤◌, List, [], ◌∷◌, ◌++◌, length, get_or, slice_index_or, nat_lt, ◌⊎◌, inl}
use Rattle.std.proofs.Common.{inr, refl, sym, ◌∙◌, ap, subst, arith, append-nil}
use Rattle.std.proofs.lemmas.Bool.{cases_Bool}
use Rattle.std.proofs.lemmas.Bool.Decides.{nat_tests}
use Rattle.std.proofs.lemmas.List.{append_cancel_left}
use Rattle.std.proofs.lemmas.List.Elements.{All-head, All-tail, All-get_or}
use Rattle.std.specs.List.{All}
use mathlib.Core.List.{IsPrefix}
use Rattle.types.specs.declared.event.Entry.{Entry}
use Rattle.types.specs.declared.limits.TheConstants.{DESK_NAME, SEATS}
use Rattle.shared_memory_on_table.specs.declared.view.Caller.{Caller}
use Rattle.shared_memory_on_table.specs.Callers.{GoesOn}
use Rattle.shared_memory.specs.History.{entries_of, IsEntry, AreEntries}
use Rattle.shared_memory.proofs.Histories.{entries_of-append, entries_of-quiet}

first_is_own : (e : Entry) (r : List Entry) → entries_of e.thread (e ∷ r) ≡ e ∷ entries_of e.thread r
first_is_own e r = grind (arith, nat_tests)

-- entries of nobody are none
pub of_nobody : (r : List Entry) → ((n : ℕ) → entries_of n r ≡ []) → r ≡ []
of_nobody [] h = refl
of_nobody (e ∷ r) h = let a = first_is_own e r in let b = h e.thread in absurd (cc (a, b))

pub whole : (log seen : List Entry) → IsPrefix seen log → ((n : ℕ) → entries_of n log ≡ entries_of n seen) → log ≡ seen
whole log seen p same =
    let none : (n : ℕ) → entries_of n p.0 ≡ [] =
    λ n. append_cancel_left (entries_of n seen)
    (entries_of n p.0) [] (sym (entries_of-append n seen p.0)
    ∙ (ap (entries_of n) p.1 ∙ (same n ∙ sym (append-nil (entries_of n seen))))) in
    sym p.1 ∙ ap (λ r. seen ++ r) (of_nobody p.0 none) ∙ append-nil seen

another_name : (e : Entry) (r : List Entry) (n : ℕ) → e.thread ≤ DESK_NAME → SEATS ≤ n → entries_of n (e ∷ r) ≡ entries_of n r
another_name e r n small large = grind (arith, nat_tests)

-- no entry has a name past the last
pub of_no_seat : (log : List Entry) (n : ℕ) → AreEntries log → SEATS ≤ n → entries_of n log ≡ []
of_no_seat [] n all large = refl
of_no_seat (e ∷ r) n all large = another_name e r n (All-head IsEntry e r all).named large ∙ of_no_seat r n (All-tail IsEntry e r all) large

first_none : (xs ys : List Entry) → xs ++ ys ≡ [] → xs ≡ []
first_none [] ys h = refl
first_none (x ∷ xs) ys h = absurd (cc h)

-- a caller's list begins the log, which has no other entry of its name
abbrev pub Knows : Caller → List Entry → Type 0
Knows c log = IsPrefix c.seen log × (entries_of c.name log ≡ entries_of c.name c.seen)

small_or_large : (n : ℕ) → (n < SEATS) ⊎ (SEATS ≤ n)
small_or_large n = elim (cases_Bool (nat_lt n SEATS)) [
  | inl h ↦ inl (search arith)
  | inr h ↦ inr (search arith)
]

-- all 65 seats have seen one list, and the log goes on from each by nothing of its own
module _ {S : Type 0} (caller : S → Caller) (log history : List Entry)
    (past : (n : ℕ) → SEATS ≤ n → entries_of n log ≡ []) (P : S → Type 0)
    (known : (s : S) → P s → Knows (caller s) log) where
  same_of : (seats : List S) (d : S) → length seats ≡ SEATS → ((k : ℕ) (d : S) → k < SEATS → (caller (slice_index_or seats k d)).name ≡ k)
      → ((k : ℕ) (d : S) → k < SEATS → (caller (slice_index_or seats k d)).seen ≡ history) → All P seats
      → (p : IsPrefix history log) → (n : ℕ) → entries_of n log ≡ entries_of n history
  same_of seats d len names seen all p n =
      elim (small_or_large n) [
        | inl small ↦
            let inside : n < length seats = rw len small in
            let k = known (get_or seats n d) (All-get_or P seats n d inside all) in
            let own : entries_of n log ≡ entries_of n (caller (slice_index_or seats n d)).seen =
            subst (λ (m : ℕ). entries_of m log ≡ entries_of m (caller (slice_index_or seats n d)).seen)
            (names n d small) k.1 in
            own ∙ ap (entries_of n) (seen n d small)
        | inr large ↦
            let none = past n large in
            let joined : entries_of n history ++ entries_of n p.0 ≡ [] = sym (entries_of-append n history p.0) ∙ ap (entries_of n) p.1 ∙ none in
            none ∙ sym (first_none (entries_of n history) (entries_of n p.0) joined)
      ]

  pub is_history : (seats : List S) → length seats ≡ SEATS → ((k : ℕ) (d : S) → k < SEATS → (caller (slice_index_or seats k d)).name ≡ k)
      → ((k : ℕ) (d : S) → k < SEATS → (caller (slice_index_or seats k d)).seen ≡ history) → All P seats → log ≡ history
  is_history [] len names seen all = absurd (cc len)
  is_history (s ∷ seats) len names seen all =
      let first : 0 < length (s ∷ seats) = rw len (search arith) in
      let k = known s (All-get_or P (s ∷ seats) 0 s first all) in
      let p : IsPrefix history log = subst (λ (l : List Entry). IsPrefix l log) (seen 0 s (search arith)) k.0 in
      whole log history p (same_of (s ∷ seats) s len names seen all p)

-- a list that goes on by entries of others begins the log, which has no other entry of the name
pub went_on : (c : Caller) (log : List Entry) → GoesOn c log → Knows c log
went_on c log g = ((g.0, sym g.1.list), ap (entries_of c.name) g.1.list ∙ entries_of-quiet c.name c.seen g.0 g.1.apart)
