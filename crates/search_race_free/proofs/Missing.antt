-- Where all states were met, no thread races with what was written over.
use Rattle.std.proofs.Common.{◌≡◌, ◌≢◌, inl, inr, ℕ, zero, suc, Bool, true, true≢false, refl, sym, ◌∙◌, subst, arith}
use Rattle.std.proofs.Common.{List, Contains, length, Some}
use Rattle.std.proofs.lemmas.Bool.{cases_lt}
use Rattle.std.proofs.lemmas.Option.{same_Some}
use Rattle.schedule.specs.System.{State}
use Rattle.search_graph.specs.declared.graph.Move.{Move}
use Rattle.search_graph.specs.Paths.{Goes}
use Rattle.search_reach.specs.declared.explores.NextState.{NextState}
use Rattle.search_reach.specs.Search.{StepSystem, HasEqual, AreNext, IsAll}
use Rattle.search_reach.specs.Explored.{IsNoted, moves_from, ExploredTo}
use Rattle.search_reach.proofs.Searching.{here}
use Rattle.search_settled.specs.Settled.{IsReached, AreTame}
use Rattle.search_settled.specs.Accesses.{IsPlain, Race, WritesOver}
use Rattle.search_settled.specs.declared.access.NextAccess.{NextAccess}
use Rattle.search_settled.specs.declared.flat.RestingState.{RestingState}
use Rattle.search_settled.specs.Threads.{ThreadSystem}
use Rattle.search_settled.proofs.Rows.{beside}
use Rattle.search_race_free.specs.declared.owning.Touch.{Touch}
use Rattle.search_race_free.specs.declared.owning.Owning.{Owning}
use Rattle.search_race_free.specs.Orders.{times, StepsWithout}
use Rattle.search_race_free.specs.Wanted.{ArePlain}
use Rattle.search_race_free.specs.Races.{MeetInRace, IsWrittenOver, HasRace, NoneRace}
use Rattle.search_race_free.specs.Owned.{Within}
use Rattle.search_race_free.specs.Same.{owning_eq}
use Rattle.search_race_free.specs.Reduced.{wanted_in, next_in, StandsBefore, KeepsTouches, reduced_steps}
use Rattle.search_race_free.specs.Search.{NoneBeyond}
use Rattle.search_race_free.proofs.Moving.{wanted-along}
use Rattle.search_race_free.proofs.Racing.{race-swap, plain-race-other}
use Rattle.search_race_free.proofs.Turning.{plain-laws}
use Rattle.search_race_free.proofs.Striking.{struck}
use Rattle.search_race_free.proofs.Meeting.{races-meet}
use Rattle.search_race_free.proofs.Reducing.{can-by, resting, safe-at, own-apart, same-then, owns-then}
use Rattle.search_race_free.proofs.Beginning.{none-meet}
use Rattle.search_race_free.proofs.Held.{StandsAlike, at-of, equal-touches}

-- Of states that were all gone on from: the next states of each are there, or ones that equal them.
module _ {S W E : Type 0} (k : StepSystem S W E) (eq : S → S → Bool) (ks : List S) where
  pub record GoesOnWithin (s : S) : Type 0 where
    pub next : List (NextState S)
    pub are : AreNext k s next
    pub there : (x : NextState S) → Contains next x → HasEqual eq ks x.state

  pub goes-on-within : (moves : List Move) → ExploredTo k eq ks moves (length ks) → (s : S) → Contains ks s → GoesOnWithin s
  goes-on-within moves explored s among =
      let gone = explored.gone_on among.0 s among.1 (at-of ks s among) in
      record {
        next = gone.next;
        are = gone.are;
        there = λ x c.
            let b = beside (IsNoted eq ks among.0) gone.next (moves_from among.0 moves) gone.noted c.0 x (at-of gone.next x c) in
            let has = (b.2).next in
            record { key = has.key; among = here ks b.0.next has.key has.at; is = has.is };
      }

module _ {X T E V A G H M O : Type 0} (k : ThreadSystem X T E V A G H M) (ends : State X T → O → Type 0) (stuck : State X T → Type 0)
    (tame : AreTame k.system k.first k.most) (plain : ArePlain k.system k.accesses k.first) (beyond : NoneBeyond k.system k.accesses k.first k.most) where
  abbrev Reduced : StepSystem (Owning (RestingState G H)) (State X T) O
  Reduced = reduced_steps k ends stuck

  -- Who wants what isn't plain has no turn left before it rests.
  pub none-left : (s : Owning (RestingState G H)) (w : State X T) (left : ℕ → ℕ) (n : ℕ) (st : StandsBefore k s w left) (a : NextAccess) →
      wanted_in k w n ≡ Some a → (IsPlain a → ⊥) → times n st.order ≡ 0
  none-left s w left n st a wants atomic = elim (cases_lt 0 (times n st.order)) [
    | inl some ↦
        (let m = wanted-along (wanted_in k) (next_in k) (IsReached k.system k.first) (plain-laws k.system k.accesses k.first k.most tame plain)
        (Within s.owned.items) (own-apart k ends stuck tame plain beyond s w left st) n st.order w st.settled st.reached st.makes some in
        absurd (atomic (subst IsPlain (same_Some m.access a (sym m.wanted ∙ wants)) m.plain)))
    | inr few ↦ omega (arith, few)
  ]

  -- Nobody wants what races with a touch of another thread.
  clear-of : (s : Owning (RestingState G H)) (w : State X T) (left : ℕ → ℕ) (st : StandsBefore k s w left) (y : Touch) → Contains s.owned.items y →
      (n : ℕ) (b : NextAccess) → n ≢ y.thread → wanted_in k w n ≡ Some b → Race y.access b → ⊥
  clear-of s w left st y among n b d wants race =
      let safe = safe-at k ends stuck tame plain beyond s w left st in
      elim (cases_lt 0 (times n st.order)) [
        | inl some ↦
            (let x = struck s.owned.items y.access b n race.conflict (owns-then k ends stuck tame plain beyond s w left n st b some wants) in
            safe.apart y x.touch among x.among (λ q. d (sym x.is ∙ sym q)) (plain-race-other y.access x.touch.access x.plain x.conflict))
        | inr few ↦
            safe.clear n b y (same-then k ends stuck tame plain beyond s w left n st (omega (arith, few)) b wants) among (λ q. d (sym q))
            (race-swap y.access b race)
      ]

  module _ (eq_shared : G → G → Bool) (eq_thread : H → H → Bool)
      (alike : (x y : Owning (RestingState G H)) → owning_eq eq_shared eq_thread x y ≡ true → StandsAlike Reduced x y)
      (ks : List (Owning (RestingState G H))) (all : IsAll Reduced ks)
      (within : (s : Owning (RestingState G H)) → Contains ks s → GoesOnWithin Reduced (owning_eq eq_shared eq_thread) ks s) where
    -- One of the states stands for it, and has the touch.
    record Has (y : Touch) (w : State X T) : Type 0 where
      state : Owning (RestingState G H)
      among : Contains ks state
      left : ℕ → ℕ
      stands : StandsBefore k state w left
      has : Contains state.owned.items y

    -- so has the next state that it leads to
    has-next : (y : Touch) (w : State X T) (s x : Owning (RestingState G H)) → HasEqual (owning_eq eq_shared eq_thread) ks x → (left : ℕ → ℕ) →
        StandsBefore k x w left → Contains x.owned.items y → Has y w
    has-next y w s x has left stands c = record {
      state = has.key;
      among = has.among;
      left = left;
      stands = alike x has.key has.is w left stands;
      has = subst (λ l. Contains l y) (equal-touches k eq_shared eq_thread x has.key has.is) c;
    }

    -- The turn of another thread.
    has-on : (y : Touch) (w : State X T) (n : ℕ) (a : NextAccess) → n ≢ y.thread → wanted_in k w n ≡ Some a → Has y w → Has y (next_in k w n)
    has-on y w n a d wants h =
        let s = h.state in
        let on = within s h.among in
        let are = on.are in
        elim (are.step w (next_in k w n) h.left n h.stands (can-by k ends stuck tame plain beyond w n a wants) refl) [
          | inl stays ↦ record { state = s; among = h.among; left = stays.after; stands = stays.is; has = h.has }
          | inr leads ↦
              (let x = leads.next in
              let keeps = subst (λ t. KeepsTouches k s t x.state) leads.by (are.follow x leads.among) in
              has-next y (next_in k w n) s x.state (on.there x leads.among) leads.after leads.is (keeps.kept y (λ e. d (sym e)) h.has))
        ]

    has-along : (y : Touch) (count : ℕ) (w z : State X T) → Goes (StepsWithout (wanted_in k) (next_in k) y.thread) count w z → Has y w → Has y z
    has-along y zero w z p h = subst (Has y) p h
    has-along y (suc count) w z p h =
        let step = p.1 in
        has-along y count (next_in k w step.thread) z (subst (λ v. Goes (StepsWithout (wanted_in k) (next_in k) y.thread) count v z) step.leads p.2)
        (has-on y w step.thread step.access step.other step.wanted h)

    -- The turn that writes over it.
    has-over : (y : Touch) (w : State X T) (n : ℕ) (a : NextAccess) → IsReached k.system k.first w → wanted_in k w n ≡ Some a → n ≢ y.thread →
        wanted_in k w y.thread ≡ Some y.access → WritesOver a y.access → Has y (next_in k w n)
    has-over y w n a r wants d wanted over =
        let c = all k.first w refl r in
        let s = c.state in
        let left = c.is.0 in
        let st = c.is.1 in
        let on = within s c.among in
        let are = on.are in
        let m = over.matched in
        let none = none-left s w left n st a wants (λ p. true≢false (sym p ∙ m.second)) in
        let still = none-left s w left y.thread st y.access wanted (λ p. true≢false (sym p ∙ m.first)) in
        elim (are.step w (next_in k w n) left n st (can-by k ends stuck tame plain beyond w n a wants) refl) [
          | inl stays ↦ (let fewer = stays.fewer in let are_left = st.turns_are n in absurd (omega (arith, fewer, are_left, none)))
          | inr leads ↦
              (let x = leads.next in
              let keeps = subst (λ t. KeepsTouches k s t x.state) leads.by (are.follow x leads.among) in
              has-next y (next_in k w n) s x.state (on.there x leads.among) leads.after leads.is
              (keeps.over st.settled (resting k ends stuck tame plain beyond s w left st) a
              (same-then k ends stuck tame plain beyond s w left n st none a wants)
              y (λ e. d (sym e)) (same-then k ends stuck tame plain beyond s w left y.thread st still y.access wanted) over))
        ]

    none-over : (one other : ℕ) → IsWrittenOver k.system k.first k.accesses one other → ⊥
    none-over one other h =
        let was = h.was in
        let since = was.since in
        let y : Touch = record { thread = one; access = h.access } in
        let has = has-along y since.count (next_in k was.before was.by) h.state since.path
        (has-over y was.before was.by was.over was.reached was.wanted_over was.differ was.wanted was.writes) in
        clear-of has.state h.state has.left has.stands y has.has other h.next h.differ h.wanted h.race

    pub none-race : NoneRace k.system k.first k.accesses
    none-race one other race = by race
      where
        meet : (one other : ℕ) → MeetInRace k.system k.first k.accesses one other → ⊥
        meet = none-meet k tame plain ends stuck beyond ks all

        by : HasRace k.system k.first k.accesses one other → ⊥
        by (inl c) = races-meet X T E V A k.system k.first k.accesses k.most tame plain meet one other c
        by (inr (inl m)) = meet one other m
        by (inr (inr o)) = none-over one other o
