-- What the parts of a state tell, read as of the states of one search.
use Rattle.std.specs.Prelude.{ℕ, ◌≡◌, List, Option, Result, Ok, Err, IfOk}
use Rattle.std.proofs.Common.{refl, sym, subst}
use Rattle.search_endings.specs.Endings.{Ending}
use Rattle.search_runs.specs.Ends.{HasEndedSo}
use Rattle.search_settled.specs.Parts.{HasParts}
use Rattle.search_settled.specs.Next.{HasEnded, IsSomewhere}
use Rattle.search_settled.specs.Flat.{IsEventAt}
use Rattle.search_settled.specs.declared.flat.RestingState.{RestingState}
use Rattle.search_settled.specs.declared.access.NextAccess.{NextAccess}
use Rattle.search_race_free.specs.Search.{IsAccessOf}
use Rattle.search_parts.specs.Threads.{IsAccessIn, threads_of, IsEventIn, IsSettled, HasEndedIn}
use Rattle.search_parts.specs.declared.event.Effect.{Effect}
use Rattle.search_parts.specs.declared.shared.Common.{Common}
use Rattle.search_parts.specs.declared.shared.HashedThread.{HashedThread}
use Rattle.search_modules.specs.Moved.{called, threads}
use Rattle.search_modules.specs.declared.called.Searched.{Searched}

if_ok_so : {T E : Type 0} (r : Result T E) (P Q : T → Type 0) → ((x : T) → P x → Q x) → IfOk r P → IfOk r Q
if_ok_so (Ok x) P Q so h = so x h
if_ok_so (Err e) P Q so h = tt

module _ (s : Searched) where
  -- of an event
  pub event_told : {E : Type 0} (opening : List ℕ) → opening ≡ s.opening.items → (shared : Common) (read thread : HashedThread) → read ≡ thread
      → (n : ℕ) (r : Result (Option (Common × Effect)) E) → IfOk r (IsEventIn s.valid.now opening shared read.standing n)
      → IfOk r (IsEventAt (threads s) shared thread n)
  event_told opening same shared read thread is n r h =
      if_ok_so r (IsEventIn s.valid.now s.opening.items shared thread.standing n) (IsEventAt (threads s) shared thread n)
      (λ o by z of. by (called s) s.allowed z (record { of = refl; reached = of.0; shares = of.1; rested = of.2 }))
      (subst (λ (t : HashedThread). IfOk r (IsEventIn s.valid.now s.opening.items shared t.standing n)) is
      (subst (λ l. IfOk r (IsEventIn s.valid.now l shared read.standing n)) same h))

  -- of what a thread does with the memory
  pub access_told : (opening : List ℕ) → opening ≡ s.opening.items → (shared : Common) (read thread : HashedThread) → read ≡ thread
      → (n : ℕ) (o : Option NextAccess) → IsAccessIn s.valid.now s.allowed opening shared read.standing n o → IsAccessOf (threads s) shared thread n o
  access_told opening same shared read thread is n o h z of =
      subst (λ (t : HashedThread). IsAccessIn s.valid.now s.allowed s.opening.items shared t.standing n o) is
      (subst (λ l. IsAccessIn s.valid.now s.allowed l shared read.standing n o) same h)
      (called s) z (record { of = refl; reached = of.0; shares = of.1; rested = of.2 })

  -- of an ending
  abbrev EndTold : RestingState Common HashedThread → Option Ending → Type 0
  EndTold flat o = HasEnded (threads s) (HasEndedSo s.dump) flat o

  pub end_told : {E : Type 0} (opening : List ℕ) → opening ≡ s.opening.items → (shared : Common) (ts : List HashedThread) (r : Result (Option Ending) E)
      → IfOk r (λ o. (flat : RestingState Common HashedThread) → HasParts shared ts flat → HasEndedIn opening s.dump flat o)
      → IfOk r (λ o. (flat : RestingState Common HashedThread) → HasParts shared ts flat → EndTold flat o)
  end_told opening same shared ts r h =
      if_ok_so r (λ o. (flat : RestingState Common HashedThread) → HasParts shared ts flat → HasEndedIn s.opening.items s.dump flat o)
      (λ o. (flat : RestingState Common HashedThread) → HasParts shared ts flat → EndTold flat o)
      (λ o by flat parts. by flat parts s.valid.now (called s) s.allowed)
      (subst (λ l. IfOk r (λ o. (flat : RestingState Common HashedThread) → HasParts shared ts flat → HasEndedIn l s.dump flat o)) same h)

  pub end_asked : (opening : List ℕ) → opening ≡ s.opening.items → (flat : RestingState Common HashedThread) → IsSomewhere (threads s) flat
      → IsSettled opening flat
  end_asked opening same flat at = (
    s.valid.now,
    called s,
    s.allowed,
    subst (λ l. IsSomewhere (threads_of s.valid.now (called s) s.allowed l) flat) (sym same) at,
  )
