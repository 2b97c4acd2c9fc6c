-- Where all states were met, and in none a thread waits with a timeout, none does in any run; and where one does in one of
-- them it does in a run.
use Rattle.std.proofs.Common.{◌≡◌, ℕ, ◌+◌, ◌<◌, ◌≤◌, true≢false, refl, sym, ◌∙◌, arith, List, Contains, length, Option, Some}
use Rattle.schedule.specs.System.{State}
use Rattle.search_reach.specs.Search.{IsAll}
use Rattle.search_table.specs.Tables.{states_of}
use Rattle.search_settled.specs.Settled.{AreTame}
use Rattle.search_settled.specs.Accesses.{IsTimed}
use Rattle.search_settled.specs.declared.access.NextAccess.{NextAccess}
use Rattle.search_settled.specs.declared.flat.RestingState.{RestingState}
use Rattle.search_settled.specs.Threads.{ThreadSystem}
use Rattle.search_race_free.specs.declared.owning.Owning.{Owning}
use Rattle.search_race_free.specs.declared.met.StateTable.{StateTable}
use Rattle.search_race_free.specs.Wanted.{ArePlain}
use Rattle.search_race_free.specs.Touches.{access_at}
use Rattle.search_race_free.specs.Met.{IsCopy}
use Rattle.search_race_free.specs.Reduced.{RestsSomewhere, reduced_steps}
use Rattle.search_race_free.specs.Search.{NoneBeyond, AreWanted}
use Rattle.search_race_free.specs.Timeouts.{NoneWaitsTimed, SomeWaitsTimed, HasTimed, IsUntimed, IsUntimedAt, AreUntimed}
use Rattle.search_race_free.proofs.Held.{at-of, owning-count, resting-copy}
use Rattle.search_race_free.proofs.Missing.{none-left}
use Rattle.search_race_free.proofs.Reducing.{resting, same-then}
use Rattle.search_race_free.proofs.Touching.{below_one_more}

module _ {X T E V A G H M : Type 0} (k : ThreadSystem X T E V A G H M) where
  -- What is so of a copy is so of the state.
  pub untimed-copy : (s copy : Owning (RestingState G H)) (wanted : List (Option NextAccess)) → IsCopy k s copy → AreWanted k copy.flat wanted
      → ((n : ℕ) (a : NextAccess) → access_at wanted n ≡ Some a → IsTimed a → ⊥) → IsUntimed k s.flat
  untimed-copy s copy wanted is are none z at n a wants timed = none n a (are z (resting-copy k s copy is z at) n ∙ wants) timed

  -- A wait that is wanted where threads can rest is one of a run.
  pub timed-somewhere : (c : RestingState G H) (wanted : List (Option NextAccess)) → RestsSomewhere k c → AreWanted k c wanted → HasTimed wanted
      → SomeWaitsTimed k.system k.first k.accesses
  timed-somewhere c wanted at are some =
      let rest = at.1 in (
        some.0,
        record {
          state = at.0;
          reached = rest.reached;
          access = some.1;
          wanted = sym (are at.0 rest some.0) ∙ some.2;
          timed = some.3;
        },
      )

  -- Of the states below a place.
  abbrev pub UntimedBelow : StateTable G H → ℕ → Type 0
  UntimedBelow t i = (j : ℕ) → j < i → IsUntimedAt k t j

  pub untimed-none : (t : StateTable G H) → UntimedBelow t 0
  untimed-none t j low = absurd (omega (arith, low))

  pub untimed-more : (t : StateTable G H) (i : ℕ) → UntimedBelow t i → IsUntimedAt k t i → UntimedBelow t (i + 1)
  untimed-more t i below at = below_one_more (IsUntimedAt k t) i below at

  pub untimed-all : (t : StateTable G H) (i count : ℕ) → count ≡ length (states_of t.states) → count ≤ i → UntimedBelow t i → AreUntimed k t
  untimed-all t i count is past below ks has s among =
      let len = owning-count t ks has count is in
      let low = among.1 in
      below among.0 (omega (arith, len, low, past)) ks has s (at-of ks s among)

module _ {X T E V A G H M O : Type 0} (k : ThreadSystem X T E V A G H M) (ends : State X T → O → Type 0) (stuck : State X T → Type 0)
    (tame : AreTame k.system k.first k.most) (plain : ArePlain k.system k.accesses k.first) (beyond : NoneBeyond k.system k.accesses k.first k.most) where
  pub none-timed : (ks : List (Owning (RestingState G H))) → IsAll (reduced_steps k ends stuck) ks
      → ((s : Owning (RestingState G H)) → Contains ks s → IsUntimed k s.flat) → NoneWaitsTimed k.system k.first k.accesses
  none-timed ks all each n h =
      let w = h.state in
      let c = all k.first w refl h.reached in
      let s = c.state in
      let left = c.is.0 in
      let st = c.is.1 in
      let timed = h.timed in
      let none = none-left k ends stuck tame plain beyond s w left n st h.access h.wanted (λ p. true≢false (sym p ∙ timed.atomic)) in
      each s c.among st.settled (resting k ends stuck tame plain beyond s w left st) n h.access
      (same-then k ends stuck tame plain beyond s w left n st none h.access h.wanted) timed
