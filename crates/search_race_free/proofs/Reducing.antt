-- The states after each thread's next turn are those that a search asks for.
use Rattle.std.proofs.Common.{◌≡◌, ◌≢◌, ◌≤◌, ◌<◌, ◌==◌, cond, Bool, true, false, ◌⊎◌, inl, inr, refl, sym, ◌∙◌, subst}
use Rattle.std.proofs.Common.{arith, ℕ, suc, List, [], ◌∷◌, ◌++◌, Contains, Option, Some}
use Rattle.std.proofs.lemmas.Bool.{cases_lt}
use Rattle.std.proofs.lemmas.Option.{same_Some}
use Rattle.schedule.specs.System.{Kind.Turn, State}
use Rattle.schedule.specs.Scheduled.{after_mark}
use Rattle.search_graph.specs.Paths.{Reaches}
use Rattle.search_graph.specs.Worlds.{CanStep}
use Rattle.search_reach.specs.declared.explores.NextState.{NextState}
use Rattle.search_reach.specs.Search.{StepSystem, StandsFor, RestsIn, HasOf, StaysIn, LeadsOn, ComesBy, IsOrderly, AreNext, IsMet}
use Rattle.search_reach.proofs.Paths.{stays, one_step, onward}
use Rattle.search_settled.specs.Settled.{CanGoOn, StepsBy, IsReached, AreTame, turning}
use Rattle.search_settled.specs.Accesses.{Conflict, Race}
use Rattle.search_settled.specs.declared.access.NextAccess.{NextAccess}
use Rattle.search_settled.specs.declared.flat.RestingState.{RestingState}
use Rattle.search_settled.specs.Threads.{ThreadSystem}
use Rattle.search_settled.proofs.Orderly.{idle, persist}
use Rattle.search_race_free.specs.declared.owning.Owning.{Owning}
use Rattle.search_race_free.specs.Orders.{times, MakesPlain}
use Rattle.search_race_free.specs.Wanted.{own_turn, ArePlain}
use Rattle.search_race_free.specs.Owned.{Within, IsSafe}
use Rattle.search_race_free.specs.Reduced.{wanted_in, next_in, Rest, IsResting, RestsSomewhere, IsKept, StandsBefore}
use Rattle.search_race_free.specs.Reduced.{reduced_steps, IsAfterTurn, ComesOf, HasReduced}
use Rattle.search_race_free.proofs.Moving.{times-here, times-append, AreApart, PlainLaws, reached-along, along-both}
use Rattle.search_race_free.proofs.Moving.{goes-along, back-along, wanted-along, sooner, past}
use Rattle.search_race_free.proofs.Racing.{conflict-swap, plain-race-other}
use Rattle.search_race_free.proofs.Turning.{going_on, turn_access, event_access, reaches_next, plain-laws}
use Rattle.search_race_free.proofs.Striking.{struck, within-more, within-apart}

-- no thread's number is there
none-there : (ts : List ℕ) → ((n : ℕ) → times n ts ≡ 0) → ts ≡ []
none-there [] h = refl
none-there (t ∷ ts) h = let a = h t in let b = times-here t t ts refl in absurd (omega (arith, a, b))

-- the same turns, within more
pub more-within : {W : Type 0} (wants : W → ℕ → Option NextAccess) (next : W → ℕ → W) (own more : ℕ → NextAccess → Type 0) (n : ℕ) (ts : List ℕ) (w z : W)
    → times n ts ≡ 0 → ((t : ℕ) (a : NextAccess) → t ≢ n → own t a → more t a) → MakesPlain wants next own ts w z → MakesPlain wants next more ts w z
more-within wants next own more n [] w z none h p = p
more-within wants next own more n (t ∷ ts) w z none h p = (
  record {
    access = p.0.access;
    wanted = p.0.wanted;
    plain = p.0.plain;
    is_own = h t p.0.access (λ e. (let a = times-here n t ts e in absurd (omega (arith, a, none)))) p.0.is_own;
  },
  more-within wants next own more n ts (next w t) z (later n t ts none) h p.1,
)
  where
    later : (n t : ℕ) (ts : List ℕ) → times n (t ∷ ts) ≡ 0 → times n ts ≡ 0
    later n t ts none = fewer (t == n) refl none
      where
        fewer : (b : Bool) → (t == n) ≡ b → cond b (suc (times n ts)) (times n ts) ≡ 0 → times n ts ≡ 0
        fewer true is e = absurd (omega (arith, e))
        fewer false is e = e

module _ {X T E V A G H M O : Type 0} (k : ThreadSystem X T E V A G H M) (ends : State X T → O → Type 0) (stuck : State X T → Type 0)
    (tame : AreTame k.system k.first k.most) (plain : ArePlain k.system k.accesses k.first)
    (beyond : (w : State X T) → IsReached k.system k.first w → (n : ℕ) → k.most ≤ n → (a : NextAccess) → wanted_in k w n ≡ Some a → ⊥) where
  abbrev Reduced : StepSystem (Owning (RestingState G H)) (State X T) O
  Reduced = reduced_steps k ends stuck

  laws : PlainLaws (wanted_in k) (next_in k) (IsReached k.system k.first)
  laws = plain-laws k.system k.accesses k.first k.most tame plain

  -- who can go on has a next access, and the other way round
  pub access-of : (w : State X T) (n : ℕ) → CanGoOn k.system w n → (a : NextAccess) × (wanted_in k w n ≡ Some a)
  access-of w n (inl turns) = (own_turn, turn_access k.system k.accesses w n turns)
  access-of w n (inr calls) = (k.accesses w.shared (w.threads n) calls.0, event_access k.system k.accesses w n calls.0 calls.1)

  pub can-by : (w : State X T) (n : ℕ) (a : NextAccess) → wanted_in k w n ≡ Some a → CanGoOn k.system w n
  can-by w n a h = elim (going_on k.system k.accesses w n a h) [
    | inl o ↦ inl o.0
    | inr o ↦ inr (o.0, o.1)
  ]

  -- a path of such turns
  pub path-can : (owned : ℕ → NextAccess → Type 0) (ts : List ℕ) (w z : State X T) → MakesPlain (wanted_in k) (next_in k) owned ts w z →
      Reaches (CanStep (turning k.system)) w z
  path-can owned [] w z p = subst (λ x. Reaches (CanStep (turning k.system)) w x) p (stays (CanStep (turning k.system)) w)
  path-can owned (t ∷ ts) w z p =
      onward (CanStep (turning k.system)) w (next_in k w t) z
      (one_step (CanStep (turning k.system)) w (next_in k w t) (record { thread = t; can = can-by w t p.0.access p.0.wanted; is = refl }))
      (path-can owned ts (next_in k w t) z p.1)

  pub path-steps : (owned : ℕ → NextAccess → Type 0) (ts : List ℕ) (w z : State X T) → MakesPlain (wanted_in k) (next_in k) owned ts w z →
      Reaches (StepsBy k.system) w z
  path-steps owned [] w z p = subst (λ x. Reaches (StepsBy k.system) w x) p (stays (StepsBy k.system) w)
  path-steps owned (t ∷ ts) w z p =
      onward (StepsBy k.system) w (next_in k w t) z (one_step (StepsBy k.system) w (next_in k w t) (t, refl)) (path-steps owned ts (next_in k w t) z p.1)

  module _ (s : Owning (RestingState G H)) where
    own : ℕ → NextAccess → Type 0
    own = Within s.owned.items

    pub resting : (w : State X T) (left : ℕ → ℕ) (st : StandsBefore k s w left) → IsResting k s.flat st.settled
    resting w left st = record {
      reached = reached-along (wanted_in k) (next_in k) (IsReached k.system k.first) laws (Within s.owned.items) st.order w st.settled st.reached st.makes;
      rests = st.rests;
      settled_is = st.settled_is;
    }

    pub safe-at : (w : State X T) (left : ℕ → ℕ) (st : StandsBefore k s w left) → IsSafe k.system k.accesses s.owned.items st.settled
    safe-at w left st = let kept = st.kept in kept.safe st.settled (resting w left st)

    pub somewhere : IsMet Reduced s → RestsSomewhere k s.flat
    somewhere met = let st = met.comes.is.1 in (st.settled, resting met.comes.end met.comes.is.0 st)

    pub kept-of : IsMet Reduced s → IsKept k s
    kept-of met = let st = met.comes.is.1 in st.kept

    rest-at : (z : State X T) → IsKept k s → IsResting k s.flat z → RestsIn Reduced s z
    rest-at z kept at = record {
      kept = kept;
      reached = at.reached;
      order = [];
      settled = z;
      makes = refl;
      rests = at.rests;
      settled_is = at.settled_is;
      turns_are = λ n. refl;
    }

    at-rest : (w : State X T) → RestsIn Reduced s w → IsResting k s.flat w
    at-rest w st =
        let none : st.order ≡ [] = none-there st.order (λ n. sym (st.turns_are n)) in
        let same : w ≡ st.settled = subst (λ l. Rest k s.owned.items l w st.settled) none st.makes in
        let at = resting w (λ (n : ℕ). 0) st in
        subst (IsResting k s.flat) (sym same) at

    -- what one thread owns is apart from what another one does
    pub own-apart : (w : State X T) (left : ℕ → ℕ) (st : StandsBefore k s w left) → AreApart (Within s.owned.items)
    own-apart w left st = within-apart k.system k.accesses s.owned.items st.settled (safe-at w left st)

    -- what a thread that has no turn left before it rests does then it does next, and the other way round
    then-same : (w : State X T) (left : ℕ → ℕ) (n : ℕ) (st : StandsBefore k s w left) → times n st.order ≡ 0 →
        (a : NextAccess) → wanted_in k st.settled n ≡ Some a
        → wanted_in k w n ≡ Some a
    then-same w left n st none a wants =
        back-along (wanted_in k) (next_in k) (IsReached k.system k.first) laws (Within s.owned.items) n a st.order w st.settled st.reached st.makes none wants
        (λ t e d own c. (let x = struck s.owned.items a e t c own in
        let safe = safe-at w left st in
        safe.clear n a x.touch wants x.among (λ q. d (sym q ∙ x.is)) (plain-race-other a x.touch.access x.plain x.conflict)))

    pub same-then : (w : State X T) (left : ℕ → ℕ) (n : ℕ) (st : StandsBefore k s w left) → times n st.order ≡ 0 → (a : NextAccess) → wanted_in k w n ≡ Some a
        → wanted_in k st.settled n ≡ Some a
    same-then w left n st none a wants =
        let g = goes-along (wanted_in k) (next_in k) (IsReached k.system k.first) laws (Within s.owned.items) n a st.order w st.settled st.reached st.makes
        none wants in
        g.1 ∙ (sym (then-same w left n st none g.0 g.1) ∙ wants)

    -- what a thread that has one left does next it owns
    pub owns-then : (w : State X T) (left : ℕ → ℕ) (n : ℕ) (st : StandsBefore k s w left) (a : NextAccess) → 0 < times n st.order → wanted_in k w n ≡ Some a
        → Within s.owned.items n a
    owns-then w left n st a some wants =
        let m = wanted-along (wanted_in k) (next_in k) (IsReached k.system k.first) laws (Within s.owned.items) (own-apart w left st) n st.order w st.settled
        st.reached st.makes some in
        subst (λ b. Within s.owned.items n b) (same_Some m.access a (sym m.wanted ∙ wants)) m.is_own

    -- an access of a thread that has none left doesn't conflict with one of a thread that has
    clear-then : (w : State X T) (left : ℕ → ℕ) (st : StandsBefore k s w left) (n u : ℕ) (a b : NextAccess) → n ≢ u → times n st.order ≡ 0 →
        wanted_in k w n ≡ Some a
        → Within s.owned.items u b → Conflict a b → ⊥
    clear-then w left st n u a b d none wants own c =
        let x = struck s.owned.items a b u c own in
        let safe = safe-at w left st in
        safe.clear n a x.touch (same-then w left n st none a wants) x.among (λ q. d (sym q ∙ x.is)) (plain-race-other a x.touch.access x.plain x.conflict)

    -- no two next accesses race
    pub free-at : (w : State X T) (left : ℕ → ℕ) (st : StandsBefore k s w left) (one other : ℕ) (a b : NextAccess) → other ≢ one → wanted_in k w one ≡ Some a
        → wanted_in k w other ≡ Some b → Race a b → ⊥
    free-at w left st one other a b d h g race = elim (cases_lt 0 (times one st.order)) [
      | inl some ↦ elim (cases_lt 0 (times other st.order)) [
        | inl more ↦
            own-apart w left st one other a b d
            (owns-then w left one st a some h) (owns-then w left other st b more g) (conflict-swap a b race.conflict)
        | inr few ↦
            clear-then w left st other one b a d (omega (arith, few)) g (owns-then w left one st a some h) (conflict-swap a b race.conflict)
      ]
      | inr none ↦ elim (cases_lt 0 (times other st.order)) [
        | inl more ↦
            clear-then w left st one other a b (λ e. d (sym e)) (omega (arith, none)) h (owns-then w left other st b more g) race.conflict
        | inr few ↦
            (let safe = safe-at w left st in
            safe.meet one other a b d (same-then w left one st (omega (arith, none)) a h) (same-then w left other st (omega (arith, few)) b g) race)
      ]
    ]

    few : (w : State X T) (n : ℕ) → StandsFor Reduced s w → CanGoOn k.system w n → n < k.most
    few w n stands can = let st = stands.1 in elim (cases_lt n k.most) [
      | inl low ↦ low
      | inr high ↦ (let a = access-of w n can in absurd (beyond w st.reached n high a.0 a.1))
    ]

    orderly : IsOrderly Reduced s
    orderly = record {
      idles = λ w z n stands step. idle k.system w z n step;
      few = few;
      persists = λ w z n u stands can step apart going. (let st = stands.1 in
          persist k.system w z n u (tame.answers w st.reached) (tame.starts w st.reached) step can apart going);
      settles = λ w stands. (let st = stands.1 in (
        st.settled,
        path-can (Within s.owned.items) st.order w st.settled st.makes,
        rest-at st.settled st.kept (resting w stands.0 st),
      ));
    }

    module _ (xs : List (NextState (Owning (RestingState G H)))) (next : HasReduced k s xs) where
      -- its own turn, which is one of those before it rests
      stay : (w y : State X T) (left : ℕ → ℕ) (n : ℕ) (st : StandsBefore k s w left) → 0 < times n st.order → y ≡ next_in k w n → StaysIn Reduced s n y left
      stay w y left n st some made =
          let q = sooner (wanted_in k) (next_in k) (IsReached k.system k.first) laws (Within s.owned.items)
          (own-apart w left st) n st.order w st.settled st.reached st.makes some in
          let left_is = st.turns_are n in
          let once = q.once in
          record {
            after = λ u. times u q.others;
            is = record {
              kept = st.kept;
              reached = subst (IsReached k.system k.first) (sym made) (reaches_next k.system k.accesses k.first k.most tame plain w n st.reached);
              order = q.others;
              settled = st.settled;
              makes = subst (λ x. Rest k s.owned.items q.others x st.settled) (sym made) q.makes;
              rests = st.rests;
              settled_is = st.settled_is;
              turns_are = λ u. refl;
            };
            fewer = omega (arith, left_is, once);
            others = λ u d. (let a = q.same u d in let b = st.turns_are u in omega (arith, a, b));
          }

      -- the turn of a thread that rests: what the others have left comes after it
      module _ (w y : State X T) (left : ℕ → ℕ) (n : ℕ) (st : StandsBefore k s w left) (a : NextAccess) (none : times n st.order ≡ 0)
          (wants : wanted_in k w n ≡ Some a)
          (made : y ≡ next_in k w n) (x : NextState (Owning (RestingState G H))) (among : Contains xs x) (by : x.thread ≡ n) where
        comes_of : ComesOf k s n x.state
        comes_of = subst (λ t. ComesOf k s t x.state) by (next.each x among)

        then : IsAfterTurn k n x.state st.settled
        then = let c = comes_of in c.each st.settled (resting w left st)

        clear : (t : ℕ) (e : NextAccess) → n ≢ t → Within s.owned.items t e → Conflict a e → ⊥
        clear t e d own c = clear-then w left st n t a e d none wants own c

        others_first : Rest k x.state.owned.items st.order (next_in k w n) (next_in k st.settled n)
        others_first =
            more-within (wanted_in k) (next_in k) (Within s.owned.items) (Within x.state.owned.items) n st.order (next_in k w n) (next_in k st.settled n) none
            (λ t e d. (let c = comes_of in
            let touches = c.touches in
            within-more s.owned.items x.state.owned.items t e (λ v is. touches.kept v (λ q. d (sym is ∙ q)))))
            (past (wanted_in k) (next_in k) (IsReached k.system k.first) laws (Within s.owned.items) n a st.order w st.settled st.reached st.makes none
            wants clear)

        no_more : (u : ℕ) → u ≢ n → HasOf xs u → times u (st.order ++ then.order) ≤ left u
        no_more u d has =
            let of = subst (λ t. ComesOf k s t has.next.state) has.is (next.each has.next has.among) in
            let can = of.each st.settled (resting w left st) in
            let a = times-append u st.order then.order in
            let b = then.others u d can.access can.wants in
            let c = st.turns_are u in
            omega (arith, a, b, c)

        leads : LeadsOn Reduced xs n y left
        leads = record {
          next = x;
          among = among;
          by = by;
          after = λ u. times u (st.order ++ then.order);
          is = record {
            kept = (let c = comes_of in c.kept);
            reached = subst (IsReached k.system k.first) (sym made) (reaches_next k.system k.accesses k.first k.most tame plain w n st.reached);
            order = st.order ++ then.order;
            settled = then.settled;
            makes = subst (λ v. Rest k x.state.owned.items (st.order ++ then.order) v then.settled) (sym made)
                (along-both (wanted_in k) (next_in k) (IsReached k.system k.first) laws (Within x.state.owned.items) st.order then.order
                (next_in k w n) (next_in k st.settled n) then.settled others_first then.makes);
            rests = then.rests;
            settled_is = then.settled_is;
            turns_are = λ u. refl;
          };
          others = no_more;
        }

      step : (w y : State X T) (left : ℕ → ℕ) (n : ℕ) → StandsBefore k s w left → CanGoOn k.system w n → y ≡ after_mark k.system w n Turn
          → StaysIn Reduced s n y left ⊎ LeadsOn Reduced xs n y left
      step w y left n st can made = elim (cases_lt 0 (times n st.order)) [
        | inl some ↦ inl (stay w y left n st some made)
        | inr few ↦
            (let a = access-of w n can in
            let none : times n st.order ≡ 0 = omega (arith, few) in
            let x = next.all st.settled (resting w left st) n a.0 (same-then w left n st none a.0 a.1) in
            inr (leads w y left n st a.0 none a.1 made x.0 x.1 x.2))
      ]

      going : (w : State X T) → StandsFor Reduced s w → (x : NextState (Owning (RestingState G H))) → Contains xs x → CanGoOn k.system w x.thread
      going w stands x among =
          let st = stands.1 in
          let of = (next.each x among).each st.settled (resting w stands.0 st) in
          elim (cases_lt 0 (times x.thread st.order)) [
            | inl some ↦
                (let m = wanted-along (wanted_in k) (next_in k) (IsReached k.system k.first) laws (Within s.owned.items) (own-apart w stands.0 st) x.thread
                st.order w st.settled st.reached st.makes some in
                can-by w x.thread m.access m.wanted)
            | inr few ↦
                (let none : times x.thread st.order ≡ 0 = omega (arith, few) in
                can-by w x.thread of.access (then-same w stands.0 x.thread st none of.access of.wants))
          ]

      all : (w : State X T) → RestsIn Reduced s w → (n : ℕ) → CanGoOn k.system w n → HasOf xs n
      all w st n can =
          let a = access-of w n can in
          let x = next.all w (at-rest w st) n a.0 a.1 in
          record { next = x.0; among = x.1; is = x.2 }

      comes : (w : State X T) → RestsIn Reduced s w → (x : NextState (Owning (RestingState G H))) → Contains xs x → ComesBy Reduced x.thread w x.state
      comes w st x among =
          let at = at-rest w st in
          let of = next.each x among in
          let then = of.each w at in
          let reached = reaches_next k.system k.accesses k.first k.most tame plain w x.thread at.reached in
          record {
            can = can-by w x.thread then.access then.wants;
            second = next_in k w x.thread;
            is = refl;
            end = then.settled;
            path = path-can (Within x.state.owned.items) then.order (next_in k w x.thread) then.settled then.makes;
            rest = record {
              kept = of.kept;
              reached = reached-along (wanted_in k) (next_in k) (IsReached k.system k.first) laws (Within x.state.owned.items) then.order
                  (next_in k w x.thread) then.settled reached then.makes;
              order = [];
              settled = then.settled;
              makes = refl;
              rests = then.rests;
              settled_is = then.settled_is;
              turns_are = λ n. refl;
            };
          }

      pub next-are : AreNext Reduced s xs
      next-are = record {
        orderly = orderly;
        step = λ w z left n st can made. step w z left n st can made;
        goes_on = going;
        all = all;
        comes = comes;
        follow = λ x among. (let of = next.each x among in of.touches);
        ascend = next.ascend;
      }
