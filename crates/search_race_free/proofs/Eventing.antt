-- The event of a thread that rests, and where all come to rest after it.
use Rattle.std.proofs.Common.{◌≡◌, ◌≤◌, inl, inr, ℕ, refl, sym, ◌∙◌, List, length, Some, None}
use Rattle.std.specs.Prelude.{slice_set}
use Rattle.std.specs.List.{slice_get}
use Rattle.std.proofs.lemmas.Option.{none-some}
use Rattle.schedule.specs.System.{Want.Calls, State}
use Rattle.schedule.specs.Scheduled.{after_event}
use Rattle.search_settled.specs.Settled.{AreTame}
use Rattle.search_settled.specs.declared.access.NextAccess.{NextAccess}
use Rattle.search_settled.specs.declared.flat.RestingState.{RestingState}
use Rattle.search_settled.specs.Threads.{ThreadSystem}
use Rattle.search_settled.specs.Flat.{AreBounded, IsEventAt, AllComeAfter, IsStuckByMove}
use Rattle.search_settled.specs.Next.{IsAt}
use Rattle.search_settled.specs.Known.{GoesAlone}
use Rattle.search_settled.proofs.Reaching.{by_event}
use Rattle.search_settled.proofs.Following.{come-from, next-by, stuck-by}
use Rattle.search_race_free.specs.Reduced.{wanted_in, IsResting, RestsSomewhere}
use Rattle.search_race_free.specs.Search.{WantsSome, IsAfterEvent, GetsLost}
use Rattle.search_race_free.proofs.Turning.{going_on}
use Rattle.search_race_free.proofs.Wanting.{thread-at, past-next}

module _ {X T E V A G H M : Type 0} (k : ThreadSystem X T E V A G H M) where
  at-of : (c : RestingState G H) (z : State X T) → IsResting k c z → IsAt k c z
  at-of c z at = record { reached = at.reached; settled_is = at.settled_is }

  -- who can go on where all rest wants an event
  pub calls-at : (c : RestingState G H) (z : State X T) → IsResting k c z → (n : ℕ) (a : NextAccess) → wanted_in k z n ≡ Some a
      → (e : E) × (k.system.wants (z.threads n) ≡ Calls e) × (k.accesses z.shared (z.threads n) e ≡ a)
  calls-at c z at n a h = elim (going_on k.system k.accesses z n a h) [
    | inl o ↦ absurd (at.rests n o.0)
    | inr o ↦ o
  ]

  pub after-event-is : AreTame k.system k.first k.most → AreBounded k.system k.first k.count k.most
      → (c : RestingState G H) (n : ℕ) (t : H) (p : G × M) (rested : List H) → slice_get c.threads.items n ≡ Some t
      → IsEventAt k c.shared t n (Some p) → AllComeAfter k p.0 p.1 n c.threads.items rested
      → (x : RestingState G H) → x.shared ≡ p.0 → x.threads.items ≡ rested → IsAfterEvent k c n x
  after-event-is tame bounded c n t p rested at some come x same_shared same_threads z rests =
      let a = some z (thread-at k c z rests n t at) in (
        a.0,
        a.1,
        next-by k tame bounded c z (at-of c z rests) n a.0 p.0 p.1 a.1 a.2 a.3 rested (come-from k c p.0 p.1 n rested come) x
            same_shared same_threads,
      )

  -- where nobody else hears of it
  pub alone-is : AreTame k.system k.first k.most → AreBounded k.system k.first k.count k.most
      → (c : RestingState G H) (n : ℕ) (t : H) (after : G) (rested : H) → slice_get c.threads.items n ≡ Some t → GoesAlone k c.shared t n after rested
      → (x : RestingState G H) → x.shared ≡ after → x.threads.items ≡ slice_set c.threads.items n rested → IsAfterEvent k c n x
  alone-is tame bounded c n t after rested at alone x same_shared same_threads z rests =
      let a = alone.event z (thread-at k c z rests n t at) in (
        a.0,
        a.1,
        next-by k tame bounded c z (at-of c z rests) n a.0 after alone.made a.1 a.2 a.3 (slice_set c.threads.items n rested) (alone.come c refl at) x
            same_shared same_threads,
      )

  -- where it can't be told
  pub event-lost : (stuck : State X T → Type 0) (c : RestingState G H) (n : ℕ) (t : H) (p : G × M) (threads : List H) → slice_get c.threads.items n ≡ Some t
      → threads ≡ c.threads.items → IsEventAt k c.shared t n (Some p) → IsStuckByMove k stuck p.0 p.1 n threads → GetsLost k stuck c
  event-lost stuck c n t p threads at same some gives_up z rests =
      let s = stuck-by k stuck c n t at p threads same some gives_up z (at-of c z rests) in
      (after_event k.system z s.0 s.1, by_event k.system z s.0 s.1 s.2, s.3)

  -- who wants one is there
  pub no-event : (c : RestingState G H) (n : ℕ) (t : H) (a : NextAccess) → RestsSomewhere k c → WantsSome k c n a → slice_get c.threads.items n ≡ Some t
      → IsEventAt k c.shared t n None → ⊥
  no-event c n t a at wants there none =
      let e = calls-at c at.0 at.1 n a (wants at.0 at.1) in
      none at.0 (thread-at k c at.0 at.1 n t there) e.0 e.1

  pub no-thread : (c : RestingState G H) (n : ℕ) (a : NextAccess) → RestsSomewhere k c → WantsSome k c n a → length c.threads.items ≤ n → ⊥
  no-thread c n a at wants past = none-some a (sym (past-next k c at.0 at.1 n past) ∙ wants at.0 at.1)
